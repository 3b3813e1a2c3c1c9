use Rattle.std.proofs.Common.{◌≡◌, ◌∷◌, ◌++◌, [], Some, length, refl, sym, subst}
use Rattle.std.proofs.lemmas.Option.{slice_get_read}
use Rattle.std.specs.Prelude.{slice_get}
use Rattle.diag_bus.specs.Comparing.{Apart}
use Rattle.diag_bus.proofs.Apart.{by_front, expected_next, part_on}
use Rattle.diag_bus.proofs.comparing.Comparison.expect_recorded.Goals as goal

pub returns : goal.returns
returns c = λ recorded expected h.
    let kept = c.args.self.now in
    let bytes = c.args.bytes.now in
    let none = c.requires.agrees in
    let frame = c.in-Some.frame.now in
    let ahead = kept.ahead.items in
    let rest = c.pop_front.new.self.items in
    let there : slice_get ahead 0 ≡ Some frame = slice_get_read ahead (length ahead) 0 frame refl c.in-Some.ensures.item.3.0 c.in-Some.ensures.lookup in
    let first : ahead ≡ frame ∷ rest = subst (λ r. ahead ≡ frame ∷ r) (sym c.pop_front.ensures.rest) (by_front ahead frame there) in
    let next = expected_next kept recorded expected none h.apart frame rest bytes first in
    let same : frame.bytes ≡ bytes = c.is.ensures.0 c.if-not-is.false in
    let on = part_on frame bytes rest kept.behind.items recorded (expected ++ bytes ∷ []) next.0 same in
    record { count = h.count; apart = subst (λ d. Apart d rest kept.behind.items recorded (expected ++ bytes ∷ [])) (sym none) (on, next.1) }
