use Rattle.std.proofs.Common.{◌≡◌, ◌⊎◌, ℕ, Option, Some, None, inl, inr, length, ap, subst, sym, ◌∙◌}
use Rattle.diag_can.specs.declared.bus_line.BusLine.{BusLine}
use Rattle.diag_can.specs.declared.bus_line.BusLine.TheVariants.{Empty, Ticks}
use Rattle.diag_can.specs.declared.frame.Frame.{Frame}
use Rattle.diag_bus.specs.Events.{frame_said}
use Rattle.diag_bus.specs.ResponseIds.{IsResponder}
use Rattle.std.specs.Prelude.{◌==◌, if◌then◌else◌}
use Rattle.diag_setup.specs.Setup.{ids_of}
use Rattle.diag_comparing.specs.Keeping.{IsUnitFrame, bytes_with}
use Rattle.diag_comparing.proofs.UnitFrames.{no_frame, to_nobody, to_one}
use Rattle.diag_comparing.proofs.exchange_lines.unit_frame.Goals as goal

pub returns-in-Some-responder : goal.returns-in-Some-responder
returns-in-Some-responder c =
    let setup = c.args.setup.now in
    let frame : Frame = c.in-Some.frame in
    let responder : Option ℕ = c.responder.result in
    let is : frame_said c.args.said.now ≡ Some frame = ap frame_said c.in-Stamped.is ∙ c.in-Some.is in
    let found : IsResponder setup frame.id (length setup.testers) responder =
    subst (λ i. IsResponder setup i (length setup.testers) responder) c.id.ensures c.responder.ensures in
    let found_id = c.in-Some-responder.who in
    λ who within.
    subst (λ (f : Option Frame). (if found_id == who then Some frame.bytes else None) ≡ bytes_with (ids_of setup who).response f) (sym is)
    (to_one setup frame responder found found_id c.in-Some-responder.is who within)

pub returns-in-None-responder : goal.returns-in-None-responder
returns-in-None-responder c =
    let setup = c.args.setup.now in
    let frame : Frame = c.in-Some.frame in
    let responder : Option ℕ = c.responder.result in
    let is : frame_said c.args.said.now ≡ Some frame = ap frame_said c.in-Stamped.is ∙ c.in-Some.is in
    let found : IsResponder setup frame.id (length setup.testers) responder =
    subst (λ i. IsResponder setup i (length setup.testers) responder) c.id.ensures c.responder.ensures in
    subst (λ (f : Option Frame). IsUnitFrame setup f None) (sym is) (to_nobody setup frame responder found c.in-None-responder.is)

pub returns-in-None : goal.returns-in-None
returns-in-None c = no_frame c.args.setup.now (frame_said c.args.said.now) (ap frame_said c.in-Stamped.is ∙ c.in-None.is)

-- a line without a stamp has no frame
unstamped : (said : BusLine) → (said ≡ Empty) ⊎ ((count : ℕ) × (said ≡ Ticks count)) → frame_said said ≡ None
unstamped said (inl empty) = ap frame_said empty
unstamped said (inr ticks) = ap frame_said ticks.1

pub returns-in-Empty : goal.returns-in-Empty
returns-in-Empty c = no_frame c.args.setup.now (frame_said c.args.said.now) (unstamped c.args.said.now c.in-Empty.is)
