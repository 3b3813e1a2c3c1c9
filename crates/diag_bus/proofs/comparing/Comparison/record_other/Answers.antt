use Rattle.std.proofs.Common.{◌≡◌, ◌≢◌, ◌∷◌, ◌++◌, ◌∙◌, [], ℕ, List, Some, sym, subst}
use Rattle.std.proofs.lemmas.List.{length-append}
use Rattle.std.specs.Prelude.{IfSome, slice_get}
use Rattle.diag_bus.specs.Comparing.{Apart}
use Rattle.diag_bus.specs.Verdict.{at_line}
use Rattle.diag_bus.specs.declared.verdict.Recorded.{Recorded}
use Rattle.diag_bus.proofs.Apart.{bytes_other, differs_by, part_ends, recorded_next}
use Rattle.diag_bus.proofs.comparing.Comparison.record_other.Goals as goal

pub returns-in-Some : goal.returns-in-Some
returns-in-Some c = λ recorded expected count apart.
    let kept = c.args.self.now in
    let new = c.settle.new.self in
    let frame : Recorded = at_line c.args.line c.args.bytes.now in
    let bytes : List ℕ = c.in-Some.expected in
    let rest = c.pop_front.new.self.items in
    let first : kept.behind.items ≡ bytes ∷ rest = c.in-Some.ensures.items in
    let wanted : bytes ≢ frame.bytes =
    subst (λ (b : List (List ℕ)). IfSome (slice_get b 0) (λ (e : List ℕ). e ≢ frame.bytes)) first c.requires.other in
    let next = recorded_next kept recorded expected c.requires.agrees apart bytes rest frame first in
    let ends = part_ends frame bytes kept.ahead.items rest (recorded ++ frame ∷ []) expected next.0
    (bytes_other frame.bytes bytes (λ same. wanted (sym same))) in
    let told : new.difference ≡ Some (differs_by frame (Some bytes)) =
    subst (λ (b : List ℕ). new.difference ≡ Some (differs_by (at_line c.args.line b) (Some bytes))) c.in_ok-bytes.ensures.value c.settle.ensures.difference in
    record {
      count = c.settle.ensures.count ∙ (count ∙ sym (length-append recorded (frame ∷ [])));
      apart = subst (λ d. Apart d new.ahead.items new.behind.items (recorded ++ frame ∷ []) expected) (sym told) ends;
    }
