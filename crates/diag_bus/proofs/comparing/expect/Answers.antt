use Rattle.std.proofs.Common.{◌≡◌, ◌<◌, Some, length, ap, refl, subst, ◌∙◌, arith}
use Rattle.std.proofs.lemmas.List.{length-map}
use Rattle.std.proofs.lemmas.Option.{slice_get_read, slice_get-map}
use Rattle.std.proofs.lemmas.Result.{on_ok_weaker}
use Rattle.std.specs.Prelude.{option_map, slice_get}
use Rattle.diag_tp.specs.SentFrames.{SentList}
use Rattle.diag_bus.specs.Filled.{AreFilled}
use Rattle.diag_bus.specs.Node.{lists_of}
use Rattle.diag_bus.specs.declared.comparing.Comparison.{Comparison}
use Rattle.diag_bus.specs.declared.filled.Filled.{Filled}
use Rattle.diag_bus.specs.declared.filled.Filled.TheVariants.{At}
use Rattle.diag_bus.proofs.Recordings.{expects_at}
use Rattle.diag_bus.proofs.comparing.expect.Goals as goal

pub returns-in-At-clause-ok : goal.returns-in-At-clause-ok
returns-in-At-clause-ok c =
    let index = c.in-At.index in
    let drawn = lists_of c.args.drawn.now in
    let items = c.args.drawn.now.lists.items in
    let testers = c.args.testers.now.items in
    let filled : AreFilled (At index) drawn = subst (λ (f : Filled). AreFilled f drawn) c.in-At.is c.requires.filled in
    let within : index < length items = omega (arith, filled.0, length-map items (λ (f : SentList). f.items)) in
    let own : Comparison = c.index_mut.result.now in
    let here : slice_get testers index ≡ Some own =
    slice_get_read testers (length testers) index own refl (omega (arith, within, c.requires.lists)) c.index_mut.ensures.value in
    let list = c.index.result.now in
    let drew : slice_get items index ≡ Some list = slice_get_read items (length items) index list refl within c.index.ensures in
    let frames : slice_get drawn index ≡ Some list.items =
    slice_get-map (λ (f : SentList). f.items) items index ∙ ap (option_map (λ (f : SentList). f.items)) drew in
    on_ok_weaker c.expect_each.result (λ took. expects_at drawn testers index own c.expect_each.new.self list.items filled here frames took)
    c.expect_each.ensures
