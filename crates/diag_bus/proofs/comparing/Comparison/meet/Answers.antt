use Rattle.std.proofs.Common.{◌≡◌, ◌∷◌, ◌++◌, ◌∙◌, [], refl, subst, sym}
use Rattle.std.proofs.lemmas.List.{length-append}
use Rattle.diag_bus.specs.Comparing.{Apart}
use Rattle.diag_bus.proofs.Apart.{by_front, part_on, recorded_next}
use Rattle.diag_bus.proofs.comparing.Comparison.meet.Goals as goal

pub returns : goal.returns
returns c = λ frame there recorded expected count apart.
    let kept = c.args.self.now in
    let behind = kept.behind.items in
    let rest = c.pop_front.new.self.items in
    let first : behind ≡ frame.bytes ∷ rest = subst (λ r. behind ≡ frame.bytes ∷ r) (sym c.pop_front.ensures.rest) (by_front behind frame.bytes there) in
    let next = recorded_next kept recorded expected c.requires.agrees apart frame.bytes rest frame first in
    let on = part_on frame frame.bytes kept.ahead.items rest (recorded ++ frame ∷ []) expected next.0 refl in
    record {
      count = count ∙ sym (length-append recorded (frame ∷ []));
      apart = subst (λ d. Apart d kept.ahead.items rest (recorded ++ frame ∷ []) expected) (sym c.requires.agrees) (on, next.1);
    }
