use Rattle.std.proofs.Common.{◌≡◌, ◌≢◌, ◌∷◌, ◌++◌, ◌∙◌, [], ℕ, List, Some, sym, subst}
use Rattle.std.specs.Prelude.{IsSomeAnd, slice_get}
use Rattle.diag_bus.specs.Comparing.{Apart}
use Rattle.diag_bus.specs.declared.verdict.Recorded.{Recorded}
use Rattle.diag_bus.proofs.Apart.{bytes_other, differs_by, expected_next, part_ends}
use Rattle.diag_bus.proofs.comparing.Comparison.expect_other.Goals as goal

pub returns : goal.returns
returns c = λ recorded expected h.
    let kept = c.args.self.now in
    let new = c.settle.new.self in
    let bytes = c.args.bytes.now in
    let frame = c.in-Some.frame in
    let rest = c.pop_front.new.self.items in
    let first : kept.ahead.items ≡ frame ∷ rest = c.in-Some.ensures.items in
    let other : frame.bytes ≢ bytes =
    subst (λ (a : List Recorded). IsSomeAnd (slice_get a 0) (λ (f : Recorded). f.bytes ≢ bytes)) first c.requires.other in
    let next = expected_next kept recorded expected c.requires.agrees h.apart frame rest bytes first in
    let ends = part_ends frame bytes rest kept.behind.items recorded (expected ++ bytes ∷ []) next.0 (bytes_other frame.bytes bytes other) in
    let told : new.difference ≡ Some (differs_by frame (Some bytes)) =
    subst (λ (b : List ℕ). new.difference ≡ Some (differs_by frame (Some b))) c.in_ok-bytes.ensures.value c.settle.ensures.difference in
    record {
      count = c.settle.ensures.count ∙ h.count;
      apart = subst (λ d. Apart d new.ahead.items new.behind.items recorded (expected ++ bytes ∷ [])) (sym told) ends;
    }
