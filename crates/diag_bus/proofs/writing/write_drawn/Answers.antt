use Rattle.std.proofs.Common.{◌≤◌, ◌+◌, ◌++◌, List, length, map, ap, subst, sym, ◌∙◌, arith}
use Rattle.std.proofs.lemmas.List.{length-map}
use Rattle.std.proofs.lemmas.Result.{on_ok_weaker}
use Rattle.std.specs.List.{All, flat_map}
use Rattle.diag_setup.specs.Rows.{in_order}
use Rattle.diag_tp.specs.SentFrames.{SentList}
use Rattle.diag_world.specs.Server.{closing_time}
use Rattle.diag_bus.specs.Text.{gathered, line_of, time_of}
use Rattle.diag_bus.specs.Drawn.{Drawn}
use Rattle.diag_bus.proofs.Texts.{gathered_sent, gathered_within}
use Rattle.diag_bus.proofs.writing.write_drawn.Goals as goal

pub write_batch-requires-clause-testers : goal.write_batch-requires-clause-testers
write_batch-requires-clause-testers c =
    let n = length c.args.setup.now.testers in
    let lists = map (λ (f : SentList). f.items) c.args.drawn.now in
    let many : 1 + length lists ≤ n + 1 = omega (arith, length-map c.args.drawn.now (λ (f : SentList). f.items), c.requires.testers) in
    let all = c.in_ok-gather.ensures ∙ ap (λ b. b ++ gathered 1 lists) c.clear.ensures.items in
    subst (λ (ds : List Drawn). All (λ (d : Drawn). d.who ≤ n) ds) (sym all) (gathered_within n 1 lists many)

pub returns-clause-ok : goal.returns-clause-ok
returns-clause-ok c =
    let lists = map (λ (f : SentList). f.items) c.args.drawn.now in
    let all = c.in_ok-gather.ensures ∙ ap (λ b. b ++ gathered 1 lists) c.clear.ensures.items in
    on_ok_weaker c.write_batch.result (λ written.
    written ∙ ap (λ (ds : List Drawn). c.args.text.now.items ++ flat_map (line_of c.args.setup.now c.args.clock.now.start) (in_order time_of ds)) all)
    c.write_batch.ensures.ok

pub write_batch-requires-clause-sent : goal.write_batch-requires-clause-sent
write_batch-requires-clause-sent c =
    let lists = map (λ (f : SentList). f.items) c.args.drawn.now in
    let all = c.in_ok-gather.ensures ∙ ap (λ b. b ++ gathered 1 lists) c.clear.ensures.items in
    subst (λ (ds : List Drawn). All (λ (d : Drawn). d.sent.at ≤ closing_time) ds) (sym all) (gathered_sent 1 closing_time lists c.requires.sent)
