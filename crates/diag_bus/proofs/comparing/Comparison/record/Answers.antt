use Rattle.std.proofs.Common.{◌≡◌, ◌+◌, ◌∷◌, ◌++◌, [], ◌∙◌, ℕ, List, Some, false, length, ap, refl, sym}
use Rattle.std.proofs.lemmas.Option.{slice_get_read}
use Rattle.std.specs.Prelude.{slice_get}
use Rattle.diag_bus.specs.Comparing.{Compares}
use Rattle.diag_bus.specs.Verdict.{at_line, is_pending}
use Rattle.diag_bus.specs.declared.verdict.Recorded.{Recorded}
use Rattle.diag_bus.proofs.comparing.Comparison.record.Goals as goal

pub returns : goal.returns
returns c = λ recorded expected h.
    let frame : Recorded = at_line c.args.line c.args.bytes.now in
    let told : is_pending c.args.bytes.now ≡ false = sym c.is_pending.ensures ∙ c.if-is_pending.false in
    let bytes : List ℕ = c.in-Some.expected.now in
    let behind = c.args.self.now.behind.items in
    let there : slice_get behind 0 ≡ Some bytes = slice_get_read behind (length behind) 0 bytes refl c.in-Some.ensures.item.3.0 c.in-Some.ensures.lookup in
    let same : bytes ≡ frame.bytes = (c.is_full.ensures.0 c.if-not-is_full.false).0 in
    let count : c.in_ok-self.field-0 ≡ length recorded + 1 = c.in_ok-self.ensures ∙ ap (λ n. n + 1) h.count in
    let took : Compares c.meet.new.self (recorded ++ frame ∷ []) expected = c.meet.ensures frame (there ∙ ap Some same) recorded expected count h.apart in
    rw told
    took
