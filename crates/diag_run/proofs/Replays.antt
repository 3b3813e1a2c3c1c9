-- What is answered of a replay that doesn't go through, or is told without memory.
use Rattle.std.proofs.Common.{◌≡◌, ◌≢◌, ℕ, List, Err, refl}
use Rattle.diag_setup.specs.declared.raw.RawSetup.{RawSetup}
use Rattle.diag_ecu.specs.State.{State}
use Rattle.diag_desk.specs.Fault.{FaultAt}
use Rattle.diag_desk.specs.Following.{IsReplayed, TextDiffers}
use Rattle.diag_desk.specs.declared.following.TextFault.{TextFault}
use Rattle.diag_desk.specs.declared.following.TextFault.TheVariants.{Differs, Line}
use Rattle.diag_text.specs.Faults.{text_fault}
use Rattle.diag_text.specs.declared.fault.RunFault.TheVariants.{Read}
use Rattle.diag_run.specs.Run.{GivesReplayed, IsReplayable}

pub replay_stops : (setup : RawSetup) (bytes : List ℕ) (fault : TextFault) → ((n : ℕ) → fault ≡ Line n → FaultAt bytes n)
    → ((n : ℕ) → fault ≡ Differs n → TextDiffers setup bytes n) → GivesReplayed setup bytes (Err (text_fault fault))
replay_stops setup bytes (Line n) line differs = line n refl
replay_stops setup bytes (Differs n) line differs = differs n refl

pub text_fault_own : (fault : TextFault) (n : ℕ) → text_fault fault ≢ Read n
text_fault_own (Line m) n is = cc
text_fault_own (Differs m) n is = cc

pub replayable : (setup : RawSetup) (bytes : List ℕ) (count : ℕ) (s : State) → IsReplayed setup bytes count s → IsReplayable setup bytes
replayable setup bytes count s r = record { entries = r.entries; journal = r.journal; read = r.read; run = r.run }
