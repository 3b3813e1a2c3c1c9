-- To whom the unit's own frames are.
use Rattle.std.specs.Prelude.{◌≡◌, ℕ, length, Option, Some, IfSome, slice_get}
use Rattle.diag_setup.specs.declared.raw.RawSetup.{RawSetup}
use Rattle.diag_setup.specs.Setup.{ids_of}
use Rattle.diag_bus.specs.RequestIds.{IsWithin}
use Rattle.diag_bus.specs.declared.response_ids.ResponseIds.{ResponseIds}

-- among so many testers it is the one whose response identifier this is; none of them has it where there is none
pub record IsResponder (setup : RawSetup) (id n : ℕ) (responder : Option ℕ) : Type 0 where
  pub has : IfSome responder (λ who. IsWithin n who × ((ids_of setup who).response ≡ id))
  pub alone : (who : ℕ) → IsWithin n who → (ids_of setup who).response ≡ id → responder ≡ Some who

-- there is an answer for each identifier of 11 bits
pub record AreResponsesOf (setup : RawSetup) (ids : ResponseIds) : Type 0 where
  pub many : length ids.testers.items ≡ 2048
  pub each : (id : ℕ) (responder : Option ℕ) → slice_get ids.testers.items id ≡ Some responder
      → IsResponder setup id (length setup.testers) responder
