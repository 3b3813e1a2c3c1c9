use Rattle.std.proofs.Common.{◌≡◌, ◌<◌, ◌++◌, List, Some, length, map, take, refl, ap, sym, ◌∙◌, append_assoc, arith}
use Rattle.std.proofs.lemmas.Option.{slice_get_read}
use Rattle.std.specs.Prelude.{slice_get}
use Rattle.diag_tp.specs.SentFrames.{SentList}
use Rattle.diag_bus.specs.Text.{drawn_for, gathered}
use Rattle.diag_bus.specs.Drawn.{Drawn}
use Rattle.diag_bus.proofs.Texts.{gathered_next}
use Rattle.diag_bus.proofs.writing.gather.Goals as goal

pub loop-index-preserved : goal.loop-index-preserved
loop-index-preserved c =
    let i = c.loop-index.index in
    let drawn = c.args.drawn.now in
    let who = c.who-who.ensures in
    let list : SentList = c.index-drawn-index.result in
    let within : i < length drawn = omega (arith, c.loop-index-test.true, c.requires, c.testers-index-end.ensures.same) in
    let found : slice_get drawn i ≡ Some list = slice_get_read drawn (length drawn) i list refl within c.index-drawn-index.is in
    let before = gathered 1 (map (λ f. f.items) (take i drawn)) in
    c.in_ok-add_frames.ensures
    ∙ (ap (λ (b : List Drawn). b ++ map (drawn_for c.who-who.result) list.items) c.loop-index.invariant
    ∙ (append_assoc c.args.batch.now.items before (map (drawn_for c.who-who.result) list.items)
    ∙ ap (λ w. c.args.batch.now.items ++ w) (sym (gathered_next drawn i c.who-who.result list found who))))
