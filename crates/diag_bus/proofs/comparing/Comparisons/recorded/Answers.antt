use Rattle.std.proofs.Common.{◌≡◌, List, Some, length, ap, refl, subst, sym, ◌∙◌}
use Rattle.std.proofs.lemmas.Option.{slice_get_read}
use Rattle.std.specs.Prelude.{slice_get}
use Rattle.diag_bus.specs.Verdict.{recorded}
use Rattle.diag_bus.specs.declared.comparing.Comparison.{Comparison}
use Rattle.diag_bus.proofs.comparing.Comparisons.recorded.Goals as goal

pub returns-in-Some : goal.returns-in-Some
returns-in-Some c = λ setup lines h within.
    let found = c.in-Some.ensures.lookup in
    let i = c.index-index.result in
    let own = c.in-Some.own.now in
    let items = c.deref.result.now in
    let here : slice_get items i ≡ Some own = slice_get_read items (length items) i own refl found.3.0 found.1 in
    (h.each i own (subst (λ (xs : List Comparison). slice_get xs i ≡ Some own) c.deref.ensures.value here)).count
    ∙ ap (λ t. length (recorded setup lines t)) (sym c.index-index.ensures.from_one)
