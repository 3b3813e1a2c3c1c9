use Rattle.std.proofs.Common.{◌+◌, ◌++◌, ℕ, length, refl, ap, ◌∙◌, arith}
use Rattle.std.proofs.lemmas.Option.{slice_get_read}
use Rattle.std.proofs.lemmas.Result.{on_ok_weaker}
use Rattle.diag_can.specs.Reply.{reply_line}
use Rattle.diag_can.specs.WriterView.{WriterView}
use Rattle.diag_can.specs.declared.frame.Frame.{Frame}
use Rattle.diag_tp.specs.declared.sent.Sent.{Sent}
use Rattle.diag_bus.specs.Text.{bus_moment, drawn_for, line_of}
use Rattle.diag_bus.proofs.writing.write_one.Goals as goal

pub returns-clause-ok : goal.returns-clause-ok
returns-clause-ok c =
    let writers = c.args.writers.now.items in
    let writer : WriterView = c.index_mut.result.now in
    let inside = c.sent.inside in
    let frame : Frame = record { id = inside.id; bytes = inside.bytes.now } in
    let start = c.args.clock.now.start in
    let text = c.args.text.now.items in
    on_ok_weaker c.write.result (λ wrote.
    let found = slice_get_read writers (length writers) c.args.index writer refl (omega (arith, c.requires.tester, c.requires.names.many)) c.index_mut.ensures.value in
    wrote ∙ ap (λ (moment : ℕ). text ++ reply_line writer.name writer.flags moment frame) c.bus_moment-moment.ensures
    ∙ ap (λ (w : WriterView). text ++ reply_line w.name w.flags (bus_moment start inside.at) frame) (c.requires.names.each c.args.index writer found)
    ∙ ap (λ (s : Sent). text ++ line_of c.args.setup.now start (drawn_for (c.args.index + 1) s)) c.sent.view_is)
    c.write.ensures.ok
