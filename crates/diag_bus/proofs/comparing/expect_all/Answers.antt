use Rattle.std.proofs.Common.{◌≡◌, ◌<◌, Some, List, length, map, ap, refl, subst, sym, ◌∙◌, arith}
use Rattle.std.proofs.lemmas.Option.{same_Some, slice_get_read, slice_get-map}
use Rattle.std.specs.Prelude.{option_map, slice_get}
use Rattle.diag_tp.specs.SentFrames.{SentList}
use Rattle.diag_tp.specs.declared.sent.Sent.{Sent}
use Rattle.diag_bus.specs.Comparing.{Expects, ExpectsAt}
use Rattle.diag_bus.specs.Verdict.{expected_of}
use Rattle.diag_bus.specs.declared.comparing.Comparison.{Comparison}
use Rattle.diag_bus.proofs.Recordings.{UpTo, all_done, none_yet, one_more}
use Rattle.diag_bus.proofs.comparing.expect_all.Goals as goal

pub loop-index-init : goal.loop-index-init
loop-index-init c = none_yet _ c.args.testers.now.items

pub loop-index-preserved : goal.loop-index-preserved
loop-index-preserved c =
    let i = c.loop-index.index in
    let drawn = c.args.drawn.now in
    let now = c.loop-index.testers.items in
    let own : Comparison = c.index_mut.result.now in
    let within : i < length now = omega (arith, c.loop-index-test.true, c.loop-index.invariant.many, c.len-index-end.ensures) in
    let here : slice_get now i ≡ Some own = slice_get_read now (length now) i own refl within c.index_mut.ensures.value in
    let list = c.index-drawn-index.result in
    let drew : slice_get drawn i ≡ Some list =
    slice_get_read drawn (length drawn) i list refl (omega (arith, within, c.loop-index.invariant.many, c.requires)) c.index-drawn-index.is in
    let frames : slice_get (map (λ (f : SentList). f.items) drawn) i ≡ Some list.items =
    slice_get-map (λ (f : SentList). f.items) drawn i ∙ ap (option_map (λ (f : SentList). f.items)) drew in
    one_more _ c.args.testers.now.items now i c.loop-index.invariant own c.expect_each.new.self here
    (λ found at. subst (λ (f : List Sent). Expects own c.expect_each.new.self (expected_of f)) (same_Some _ _ (sym frames ∙ at)) c.in_ok-expect_each.ensures)

pub returns-clause-ok : goal.returns-clause-ok
returns-clause-ok c =
    let all : c.loop-index.index ≡ length c.args.testers.now.items =
    omega (arith, c.loop-index-test.false, c.len-index-end.ensures, c.loop-index.auto.index-end) in
    all_done (ExpectsAt (map (λ (f : SentList). f.items) c.args.drawn.now)) c.args.testers.now.items c.loop-index.testers.items
    (subst (λ k. UpTo (ExpectsAt (map (λ (f : SentList). f.items) c.args.drawn.now)) c.args.testers.now.items c.loop-index.testers.items k)
    all c.loop-index.invariant)
