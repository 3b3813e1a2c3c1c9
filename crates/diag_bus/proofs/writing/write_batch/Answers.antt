use Rattle.std.proofs.Common.{◌≡◌, ◌≤◌, ◌+◌, ◌++◌, List, length, ap, ap₂, subst, sym, ◌∙◌, arith}
use Rattle.std.proofs.lemmas.List.Sorted.{All-permutation}
use Rattle.std.specs.List.{All}
use Rattle.diag_tp.specs.declared.sent.Sent.{Sent}
use Rattle.diag_world.specs.Server.{closing_time}
use Rattle.diag_bus.specs.Text.{drawn_for, line_of}
use Rattle.diag_bus.specs.Writing.{AreNamesOf}
use Rattle.diag_bus.specs.Drawn.{Drawn}
use Rattle.diag_bus.proofs.Texts.{lines_more}
use Rattle.diag_bus.proofs.writing.write_batch.Goals as goal

pub write_one-requires-clause-names : goal.write_one-requires-clause-names
write_one-requires-clause-names c = subst (AreNamesOf c.args.setup.now) (sym c.loop-drawn.invariant.names) c.requires.names

pub write_one-requires-clause-tester : goal.write_one-requires-clause-tester
write_one-requires-clause-tester c =
    let one = c.drawn-item.result in
    let n = length c.args.setup.now.testers in
    let all = All-permutation (λ (d : Drawn). d.who ≤ n) c.args.batch.now.items c.sort_batch.new.batch.items
    c.in_ok-sort_batch.ensures.same c.requires.testers in
    let here = subst (λ (ds : List Drawn). All (λ (d : Drawn). d.who ≤ n) ds) (sym c.as_slice-drawn-items.ensures.value) all in
    let low = subst (λ (d : Drawn). d.who ≤ n) (sym c.drawn-item.is) (here c.loop-drawn.drawn-index one c.loop-drawn-test.true) in
    omega (arith, low, c.index-index.ensures.from_one, ap (λ (d : Drawn). d.who) c.drawn.view_is)

pub write_one-requires-clause-sent : goal.write_one-requires-clause-sent
write_one-requires-clause-sent c =
    let one = c.drawn-item.result in
    let all = All-permutation (λ (d : Drawn). d.sent.at ≤ closing_time) c.args.batch.now.items c.sort_batch.new.batch.items
    c.in_ok-sort_batch.ensures.same c.requires.sent in
    let here = subst (λ (ds : List Drawn). All (λ (d : Drawn). d.sent.at ≤ closing_time) ds) (sym c.as_slice-drawn-items.ensures.value) all in
    let early = subst (λ (d : Drawn). d.sent.at ≤ closing_time) (sym c.drawn-item.is) (here c.loop-drawn.drawn-index one c.loop-drawn-test.true) in
    subst (λ (s : Sent). s.at ≤ closing_time) (sym c.sent.ensures) early

pub loop-drawn-preserved : goal.loop-drawn-preserved
loop-drawn-preserved c =
    let inv = c.loop-drawn.invariant in
    let one = c.drawn-item.result in
    let f = line_of c.args.setup.now c.args.clock.now.start in
    let place : c.index-index.result + 1 ≡ one.who = sym c.index-index.ensures.from_one ∙ ap (λ (d : Drawn). d.who) c.drawn.view_is in
    record {
      names = c.write_one.ensures.names ∙ inv.names;
      text = lines_more f c.as_slice-drawn-items.result.now c.loop-drawn.drawn-index one c.args.text.now.items c.loop-drawn.text.items
          c.write_one.new.text.items c.loop-drawn-test.true c.drawn-item.is inv.text
          (c.in_default.ensures.ok ∙ ap₂ (λ t (s : Sent). c.loop-drawn.text.items ++ f (drawn_for t s)) place c.sent.ensures);
    }
