use Rattle.std.proofs.Common.{◌≡◌, ◌<◌, ℕ, List, Some, length, ap, refl, sym, ◌∙◌, arith}
use Rattle.std.proofs.lemmas.Option.{slice_get_read}
use Rattle.std.specs.Prelude.{option_copied, slice_get}
use Rattle.diag_port.proofs.Within.{none_of}
use Rattle.diag_bus.specs.declared.comparing.Comparison.{Comparison}
use Rattle.diag_bus.proofs.Verdicts.{HasLack, lack_found, lack_none, lacks_apart, on_err_of}
use Rattle.diag_bus.specs.declared.verdict.Verdict.TheVariants.{Lacks}
use Rattle.diag_bus.proofs.comparing.Comparisons.first_lack.Goals as goal

pub returns-in-Some-clause-ok : goal.returns-in-Some-clause-ok
returns-in-Some-clause-ok c =
    let i = c.loop-index.index in
    let setup = c.args.setup.now in
    let items = c.args.self.now.testers.items in
    let own : Comparison = c.index-own.result.now in
    let within : i < length items = omega (arith, c.loop-index-test.true, c.len-index-end.ensures) in
    let here : slice_get items i ≡ Some own = slice_get_read items (length items) i own refl within c.index-own.ensures in
    let next : List ℕ = c.in-Some.next.now in
    let has : HasLack own (Some next) = λ r e same none. sym (ap option_copied c.in-Some.is) ∙ c.lack.ensures r e same none in
    rw c.in_ok-try_copy.ensures.value
    (lack_found setup c.args.self.now i own here (omega (arith, within, c.requires)) c.who-who.result next
    c.who-who.ensures has c.loop-index.invariant)

pub returns-in_err-try_copy-clause-err : goal.returns-in_err-try_copy-clause-err
returns-in_err-try_copy-clause-err c =
    let i = c.loop-index.index in
    let setup = c.args.setup.now in
    let items = c.args.self.now.testers.items in
    let own : Comparison = c.index-own.result.now in
    let within : i < length items = omega (arith, c.loop-index-test.true, c.len-index-end.ensures) in
    let here : slice_get items i ≡ Some own = slice_get_read items (length items) i own refl within c.index-own.ensures in
    let next : List ℕ = c.in-Some.next.now in
    let has : HasLack own (Some next) = λ r e same none. sym (ap option_copied c.in-Some.is) ∙ c.lack.ensures r e same none in
    on_err_of c.from_residual.result (
      Lacks c.who-who.result own.count next,
      lacks_apart c.who-who.result own.count next,
      lack_found setup c.args.self.now i own here (omega (arith, within, c.requires)) c.who-who.result next
          c.who-who.ensures has c.loop-index.invariant,
    )

pub loop-index-preserved : goal.loop-index-preserved
loop-index-preserved c =
    let i = c.loop-index.index in
    let setup = c.args.setup.now in
    let items = c.args.self.now.testers.items in
    let own : Comparison = c.index-own.result.now in
    let within : i < length items = omega (arith, c.loop-index-test.true, c.len-index-end.ensures) in
    let here : slice_get items i ≡ Some own = slice_get_read items (length items) i own refl within c.index-own.ensures in
    lack_none setup c.args.self.now i own here (omega (arith, within, c.requires))
    (λ r e same none. sym (ap option_copied (none_of c.lack.result c.in_default.not-Some)) ∙ c.lack.ensures r e same none) c.loop-index.invariant
