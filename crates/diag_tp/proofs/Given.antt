-- What ticks and frames give.
use Rattle.std.proofs.Common.{◌≡◌, ℕ, Bool, List, refl, sym, subst}
use Rattle.std.specs.Prelude.{Option, Some, None, IsSome, IsTrue}
use Rattle.diag_can.specs.Event.{Event, Physical, Functional, Ticks}
use Rattle.diag_pdu.specs.declared.setup.LinkSetup.{LinkSetup}
use Rattle.diag_pdu.specs.declared.step.Step.TheVariants as step
use Rattle.diag_tp.specs.Gives.{gives, is_request}
use Rattle.diag_tp.specs.Link.{is_frame, asked_of}
use Rattle.diag_sides.specs.Receiver.{ask_of}
use Rattle.diag_tp.proofs.Partials.{gives-more}

pub gives_ticks : (s : LinkSetup) (E : List Event) (n : ℕ) → gives s E (Ticks n) ≡ Some (step.Ticks n)
unfolding gives
gives_ticks s E n = refl

asked : (functional : Bool) (o : Option (List ℕ)) → IsSome (asked_of (ask_of functional o)) → IsTrue (is_request (asked_of (ask_of functional o)))
asked functional None some = cc
asked functional (Some message) some = refl

pub frame_gives : (s : LinkSetup) (E : List Event) (e : Event) → IsTrue (is_frame e) → IsSome (gives s E e) → IsTrue (is_request (gives s E e))
frame_gives s E (Ticks n) h = cc
frame_gives s E (Functional bytes) h = subst (λ o. IsSome o → IsTrue (is_request o)) (sym (gives-more s E (Functional bytes))) (asked _ _)
frame_gives s E (Physical bytes) h = subst (λ o. IsSome o → IsTrue (is_request o)) (sym (gives-more s E (Physical bytes))) (asked _ _)
