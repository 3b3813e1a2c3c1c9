use Rattle.std.proofs.Common.{◌+◌, ◌∙◌, subst, sym}
use Rattle.std.proofs.lemmas.Option.{get_or_from_slice_get, slice_get_within}
use Rattle.diag_bus.specs.Text.{drawn_for, line_of}
use Rattle.diag_bus.specs.Writing.{AreNamesOf}
use Rattle.diag_bus.proofs.Texts.{lines_more}
use Rattle.diag_bus.proofs.writing.write_each.Goals as goal

pub write_one-requires-clause-names : goal.write_one-requires-clause-names
write_one-requires-clause-names c = subst (AreNamesOf c.args.setup.now) (sym c.loop-place.invariant.names) c.requires.names

pub loop-place-preserved : goal.loop-place-preserved
loop-place-preserved c =
    let inv = c.loop-place.invariant in
    let frames = c.args.frames.now.items in
    let place = c.loop-place.place in
    let sent = c.get-sent.result in
    record {
      names = c.write_one.ensures.names ∙ inv.names;
      text = lines_more (λ f. line_of c.args.setup.now c.args.clock.now.start (drawn_for (c.args.index + 1) f)) frames place
          sent c.args.text.now.items c.loop-place.text.items c.write_one.new.text.items (slice_get_within frames place sent c.get-sent.ensures)
          (sym (get_or_from_slice_get frames place sent sent c.get-sent.ensures)) inv.text c.in_default.ensures.ok;
    }
