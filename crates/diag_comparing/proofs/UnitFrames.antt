-- To which tester a line's frame is, by the table of response identifiers.
use Rattle.std.proofs.Common.{◌≡◌, ◌≢◌, inl, inr, ℕ, Option, Some, None, length, refl, ap, subst, sym, ◌∙◌}
use Rattle.std.proofs.lemmas.Bool.{cases_eq, eq-eqb, ne_eqb}
use Rattle.std.proofs.lemmas.Option.{none-some, same_Some}
use Rattle.std.specs.Prelude.{◌==◌, if◌then◌else◌, IfSome}
use Rattle.diag_can.specs.declared.frame.Frame.{Frame}
use Rattle.diag_setup.specs.Setup.{ids_of}
use Rattle.diag_setup.specs.declared.raw.RawSetup.{RawSetup}
use Rattle.diag_bus.specs.RequestIds.{IsWithin}
use Rattle.diag_bus.specs.ResponseIds.{IsResponder}
use Rattle.diag_comparing.specs.Keeping.{IsUnitFrame, bytes_with}

module _ (setup : RawSetup) (frame : Frame) (responder : Option ℕ)
    (h : IsResponder setup frame.id (length setup.testers) responder) where
  abbrev response : ℕ → ℕ
  response who = (ids_of setup who).response

  -- it has another identifier
  other : (who : ℕ) → response who ≢ frame.id → bytes_with (response who) (Some frame) ≡ None
  other who apart = rw (ne_eqb frame.id (response who) (λ same. apart (sym same))) refl

  -- it has this one
  own : (who : ℕ) → response who ≡ frame.id → bytes_with (response who) (Some frame) ≡ Some frame.bytes
  own who same = rw (eq-eqb frame.id (response who) (sym same)) refl

  pub to_nobody : responder ≡ None → IsUnitFrame setup (Some frame) None
  to_nobody none who within = sym (other who (λ same. none-some who (sym none ∙ h.alone who within same)))

  pub to_one : (found : ℕ) → responder ≡ Some found → (who : ℕ) → IsWithin (length setup.testers) who
      → (if found == who then Some frame.bytes else None) ≡ bytes_with (response who) (Some frame)
  to_one found is who within =
      let has = subst (λ (r : Option ℕ). IfSome r (λ w. IsWithin (length setup.testers) w × (response w ≡ frame.id))) is h.has in
      elim (cases_eq found who) [
        | inl same ↦ rw (eq-eqb found who same) (sym (own who (subst (λ w. response w ≡ frame.id) same has.1)))
        | inr apart ↦ rw (ne_eqb found who apart) (sym (other who (λ same. apart (same_Some _ _ (sym is ∙ h.alone who within same)))))
      ]

-- a line without a frame
pub no_frame : (setup : RawSetup) (frame : Option Frame) → frame ≡ None → IsUnitFrame setup frame None
no_frame setup frame none who within = ap (bytes_with (ids_of setup who).response) (sym none)
