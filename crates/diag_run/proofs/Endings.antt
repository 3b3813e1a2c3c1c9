-- How the end of a capture is added, as the bus's sink says it.
use Rattle.std.proofs.Common.{◌≡◌, ℕ, List, [], Result, IsOk, subst}
use Rattle.diag_setup.specs.declared.raw.RawSetup.{RawSetup}
use Rattle.diag_ecu.specs.State.{State}
use Rattle.diag_desk.specs.declared.entry.Entry.{Entry}
use Rattle.diag_bus.specs.Text.{ecu_after}
use Rattle.diag_run.specs.Wanted.{End, EndsAs, EndsWell, IsEndFault}
use Rattle.diag_run.specs.declared.capture.CaptureFault.{CaptureFault}
use Rattle.diag_run.specs.declared.capture.CaptureFault.TheVariants.{Line, Memory, Otherwise, Read, Write}

-- the sink and the setup are those of the bus
pub ends_seen : {S : Type 0} (took : S → RawSetup → List (List ℕ) → List Entry → Type 0) (ends : S → RawSetup → List (List ℕ) → Result End (List ℕ))
    (sink sink' : S) (setup setup' : RawSetup) (ecu : State) (r : Result End (List ℕ)) → sink' ≡ sink → setup' ≡ setup
    → EndsAs took ends sink' setup' ecu r → (lines : List (List ℕ)) → took sink setup lines [] → ecu ≡ ecu_after setup lines → ends sink setup lines ≡ r
ends_seen {S} took ends sink sink' setup setup' ecu r same_sink same_setup h =
    subst (λ (x : S). EndsAs took ends x setup ecu r) same_sink (subst (λ (u : RawSetup). EndsAs took ends sink' u ecu r) same_setup h)

pub ends_well : {S : Type 0} (took : S → RawSetup → List (List ℕ) → List Entry → Type 0) (ends : S → RawSetup → List (List ℕ) → Result End (List ℕ))
    (sink sink' : S) (setup setup' : RawSetup) (ecu : State) → sink' ≡ sink → setup' ≡ setup
    → EndsWell took ends sink' setup' ecu → (lines : List (List ℕ)) → took sink setup lines [] → ecu ≡ ecu_after setup lines → IsOk (ends sink setup lines)
ends_well {S} took ends sink sink' setup setup' ecu same_sink same_setup h =
    subst (λ (x : S). EndsWell took ends x setup ecu) same_sink (subst (λ (u : RawSetup). EndsWell took ends sink' u ecu) same_setup h)

-- what is told is told of whatever it is told of
pub end_fault : (P Q : Result End (List ℕ) → Type 0) (V W : Type 0) → ((r : Result End (List ℕ)) → P r → Q r) → (V → W) → (fault : CaptureFault)
    → IsEndFault P V fault → IsEndFault Q W fault
end_fault P Q V W more well Memory h = well h
end_fault P Q V W more well (Otherwise told) h = (h.0, h.1, more _ h.2)
end_fault P Q V W more well (Line n f) h = absurd h
end_fault P Q V W more well Read h = absurd h
end_fault P Q V W more well Write h = absurd h
