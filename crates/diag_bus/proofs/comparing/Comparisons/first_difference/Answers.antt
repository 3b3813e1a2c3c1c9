use Rattle.std.proofs.Common.{◌≡◌, ◌<◌, ◌+◌, Option, Some, length, ap, ap₂, refl, sym, ◌∙◌, arith}
use Rattle.std.proofs.lemmas.Option.{slice_get_read}
use Rattle.std.specs.List.{filter_map, reduce}
use Rattle.std.specs.Prelude.{option_map, slice_get}
use Rattle.diag_pdu.specs.Cut.{counted_from}
use Rattle.diag_bus.specs.Comparing.{earlier_of}
use Rattle.diag_bus.specs.Verdict.{difference_of, earlier, expected, recorded}
use Rattle.diag_bus.specs.declared.comparing.Comparison.{Comparison}
use Rattle.diag_bus.specs.declared.verdict.Difference.{Difference}
use Rattle.diag_bus.proofs.Verdicts.{earlier_more, number_more}
use Rattle.diag_bus.proofs.comparing.Comparisons.first_difference.Goals as goal

pub loop-index-preserved : goal.loop-index-preserved
loop-index-preserved c = λ lines h.
    let i = c.loop-index.index in
    let setup = c.args.setup.now in
    let items = c.args.self.now.testers.items in
    let own : Comparison = c.index.result.now in
    let within : i < length items = omega (arith, c.loop-index-test.true, c.len-index-end.ensures) in
    let here : slice_get items i ≡ Some own = slice_get_read items (length items) i own refl within c.index.ensures in
    let who = c.who-who.ensures in
    let found = c.difference.ensures (recorded setup lines (i + 1)) (expected setup lines (i + 1)) (h.each i own here) in
    let known : option_map (λ (d : Difference). (c.who-who.result, d)) c.difference.result ≡ difference_of setup lines (i + 1) =
    ap₂ (λ t (o : Option Difference). option_map (λ (d : Difference). (t, d)) o) who found in
    let ds = filter_map (difference_of setup lines) (counted_from 1 i) in
    c.earlier-first.ensures
    ∙ (ap₂ earlier_of (c.loop-index.invariant lines h) known
    ∙ (earlier_more ds (difference_of setup lines (i + 1)) ∙ ap (reduce earlier) (sym (number_more (difference_of setup lines) i))))
