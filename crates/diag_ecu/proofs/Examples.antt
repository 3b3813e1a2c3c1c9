-- Worked examples, computed.
use Rattle.std.proofs.Common.{◌≡◌, ℕ, zero, suc, true, false, List, [], ◌∷◌, Option, Some, None, refl, codes, replicate, length, option_map}
use Rattle.std.specs.Prelude.{map}
use Rattle.diag_setup.specs.declared.raw.PatternItem.{PatternItem}
use Rattle.diag_setup.specs.declared.raw.PatternItem.TheVariants as pattern
use Rattle.diag_setup.specs.declared.raw.TemplateItem.{TemplateItem}
use Rattle.diag_setup.specs.declared.raw.TemplateItem.TheVariants as template
use Rattle.diag_store.specs.declared.answers.AnswerRow.{AnswerRow}
use Rattle.diag_store.specs.declared.dids.DidRow.{DidRow}
use Rattle.diag_store.specs.declared.levels.Level.{Level}
use Rattle.diag_store.specs.declared.routines.Routine.{Routine}
use Rattle.diag_store.specs.declared.routines.RoutineState.TheVariants.{Idle}
use Rattle.diag_store.specs.declared.security.SecurityState.{SecurityState}
use Rattle.diag_ecu.specs.State.{State, session_of}
use Rattle.diag_ecu.specs.Elapse.{elapse}
use Rattle.diag_ecu.specs.declared.effect.Effect.{Effect}
use Rattle.diag_ecu.specs.declared.effect.Effect.TheVariants.{Nothing, Serve, CountWrongKey, Answer}
use Rattle.diag_ecu.specs.declared.service.Service.TheVariants.{DiagnosticSessionControl, SecurityAccess}
use Rattle.diag_ecu.specs.Respond.{reply, decision, delay, after_request}

-- the ECU of the examples, as it opens
abbrev vin : DidRow
vin = record { id = 0xF190; value = record { items = codes "TESTVIN0123456789" }; rule = record { read_level = 0; write = true; write_level = 1 } }

abbrev selftest : Routine
selftest = record {
  id = 0x0203;
  time_ms = 100;
  result = record { items = 0x01 ∷ [] };
  level = 0;
  on_done =
      Some (record { code = 0x012345; status = 0x2F });
  state = Idle;
}

abbrev locks : SecurityState
locks = record {
  attempts = 3;
  delay_ms = 2000;
  levels = record {
    request_seed = 1;
    any_key = false;
    rows = record { seed = record { items = 0x11 ∷ 0x22 ∷ 0x33 ∷ 0x44 ∷ [] }; key = record { items = 0xAA ∷ 0xBB ∷ 0xCC ∷ 0xDD ∷ [] } }
        ∷ record { seed = record { items = 0x55 ∷ 0x66 ∷ 0x77 ∷ 0x88 ∷ [] }; key = record { items = 0x01 ∷ 0x02 ∷ 0x03 ∷ 0x04 ∷ [] } }
        ∷ [];
    next = 0;
  } ∷ [];
  unlocked = None;
  outstanding = None;
  wrong_keys = replicate 8 0;
  delays = replicate 8 0;
}

abbrev opened : State
opened = record {
  values = record { p2_ms = 50; p2_star_10ms = 500; s3_ms = 5000; availability = 255 };
  dids = vin ∷ [];
  dtcs = record { code = 0x012345; status = 0x2F } ∷ [];
  routines = selftest ∷ [];
  security = locks;
  holder = None;
  session = 1;
  s3_left = 0;
  dtc_setting_on = true;
  answers = [];
}

-- the reply to a request for the extended session
abbrev extended : Option (List ℕ)
extended = Some (0x50 ∷ 0x03 ∷ 0x00 ∷ 0x32 ∷ 0x01 ∷ 0xF4 ∷ [])

-- a move of a tester
data Move : Type 0 where
  asks : ℕ → List ℕ → Move
  broadcasts : ℕ → List ℕ → Move
  waits : ℕ → ℕ → Move

abbrev state_after : State → List Move → State
state_after s [] = s
state_after s (asks who p ∷ moves) = state_after (after_request s who p) moves
state_after s (broadcasts who p ∷ moves) = state_after (after_request s who p) moves
state_after s (waits who n ∷ moves) = state_after (elapse s who n) moves

-- the replies to the requests
abbrev replies : State → List Move → List (Option (List ℕ))
replies s [] = []
replies s (asks who p ∷ moves) = reply s who false p ∷ replies (after_request s who p) moves
replies s (broadcasts who p ∷ moves) = reply s who true p ∷ replies (after_request s who p) moves
replies s (waits who n ∷ moves) = replies (elapse s who n) moves

-- a suppressed reply, with its effect
suppressed : replies opened (asks 1 (0x10 ∷ 0x83 ∷ []) ∷ []) ≡ None ∷ []
suppressed = refl

suppressed_effect : (state_after opened (asks 1 (0x10 ∷ 0x83 ∷ []) ∷ [])).holder ≡ Some 1
suppressed_effect = refl

-- what requests do: one that passes serves its service, also where no reply is sent, and a read and a refused one nothing
abbrev effects : State → List Move → List Effect
effects s [] = []
effects s (asks who p ∷ moves) = (decision s who p).effect ∷ effects (after_request s who p) moves
effects s (broadcasts who p ∷ moves) = (decision s who p).effect ∷ effects (after_request s who p) moves
effects s (waits who n ∷ moves) = effects (elapse s who n) moves

session_is_served : effects opened (asks 1 (0x10 ∷ 0x83 ∷ []) ∷ asks 2 (0x10 ∷ 0x03 ∷ []) ∷ asks 2 (0x22 ∷ 0xF1 ∷ 0x90 ∷ []) ∷ broadcasts 1 (0x23 ∷ []) ∷ [])
    ≡ Serve DiagnosticSessionControl ∷ Nothing ∷ Nothing ∷ Nothing ∷ []
session_is_served = refl

-- a wrong key counts, once: the seed isn't outstanding any more
wrong_key_counts : effects opened (asks 1 (0x10 ∷ 0x03 ∷ []) ∷ asks 1 (0x27 ∷ 0x01 ∷ []) ∷ asks 1 (0x27 ∷ 0x02 ∷ 0x00 ∷ 0x00 ∷ 0x00 ∷ 0x00 ∷ [])
    ∷ asks 1 (0x27 ∷ 0x02 ∷ 0x00 ∷ 0x00 ∷ 0x00 ∷ 0x00 ∷ []) ∷ [])
    ≡ Serve DiagnosticSessionControl ∷ Serve SecurityAccess ∷ CountWrongKey ∷ Nothing ∷ []
wrong_key_counts = refl

-- the reply that reads the value of F190 as it opens
reading : replies opened (asks 2 (0x22 ∷ 0xF1 ∷ 0x90 ∷ []) ∷ []) ≡ Some (0x62 ∷ 0xF1 ∷ 0x90 ∷ codes "TESTVIN0123456789") ∷ []
reading = refl

-- out of range is silent on a functional request alone
silence : replies opened (broadcasts 1 (0x22 ∷ 0xFF ∷ 0xFF ∷ []) ∷ asks 1 (0x22 ∷ 0xFF ∷ 0xFF ∷ []) ∷ asks 1 (0x23 ∷ []) ∷ [])
    ≡ None ∷ Some (0x7F ∷ 0x22 ∷ 0x31 ∷ []) ∷ Some (0x7F ∷ 0x23 ∷ 0x11 ∷ []) ∷ []
silence = refl

-- the extended session ends after 5000 ticks of its holder
session_ends_in_time : replies opened (asks 1 (0x10 ∷ 0x03 ∷ []) ∷ waits 1 5000 ∷ asks 2 (0x10 ∷ 0x03 ∷ []) ∷ asks 2 (0x10 ∷ 0x03 ∷ []) ∷ [])
    ≡ extended ∷ extended ∷ extended ∷ []
session_ends_in_time = refl

-- and not after 4999
session_lasts : replies opened (asks 1 (0x10 ∷ 0x03 ∷ []) ∷ waits 1 4999 ∷ asks 2 (0x10 ∷ 0x03 ∷ []) ∷ asks 2 (0x10 ∷ 0x03 ∷ [])
    ∷ asks 2 (0x2E ∷ 0xF1 ∷ 0x90 ∷ 0x41 ∷ []) ∷ [])
    ≡ extended ∷ Some (0x7F ∷ 0x10 ∷ 0x21 ∷ []) ∷ Some (0x7F ∷ 0x10 ∷ 0x21 ∷ []) ∷ Some (0x7F ∷ 0x2E ∷ 0x7F ∷ []) ∷ []
session_lasts = refl

-- the time of another tester does not end it
others_time : replies opened (asks 1 (0x10 ∷ 0x03 ∷ []) ∷ waits 2 5000 ∷ asks 2 (0x10 ∷ 0x03 ∷ []) ∷ [])
    ≡ extended ∷ Some (0x7F ∷ 0x10 ∷ 0x21 ∷ []) ∷ []
others_time = refl

-- seeds, wrong keys, the delay and the right key
seeds_and_keys : replies opened (asks 1 (0x10 ∷ 0x03 ∷ []) ∷ asks 1 (0x27 ∷ 0x01 ∷ []) ∷ asks 1 (0x27 ∷ 0x02 ∷ 0x00 ∷ 0x00 ∷ 0x00 ∷ 0x00 ∷ [])
    ∷ asks 1 (0x27 ∷ 0x01 ∷ []) ∷ asks 1 (0x27 ∷ 0x02 ∷ 0x00 ∷ 0x00 ∷ 0x00 ∷ 0x00 ∷ []) ∷ asks 1 (0x27 ∷ 0x01 ∷ [])
    ∷ asks 1 (0x27 ∷ 0x02 ∷ 0x00 ∷ 0x00 ∷ 0x00 ∷ 0x00 ∷ []) ∷ asks 1 (0x27 ∷ 0x01 ∷ []) ∷ waits 1 2000 ∷ asks 1 (0x27 ∷ 0x01 ∷ [])
    ∷ asks 1 (0x27 ∷ 0x01 ∷ []) ∷ asks 1 (0x27 ∷ 0x02 ∷ 0x01 ∷ 0x02 ∷ 0x03 ∷ 0x04 ∷ []) ∷ asks 1 (0x27 ∷ 0x01 ∷ [])
    ∷ asks 1 (0x27 ∷ 0x02 ∷ 0x01 ∷ 0x02 ∷ 0x03 ∷ 0x04 ∷ []) ∷ [])
    ≡ extended ∷ Some (0x67 ∷ 0x01 ∷ 0x11 ∷ 0x22 ∷ 0x33 ∷ 0x44 ∷ []) ∷ Some (0x7F ∷ 0x27 ∷ 0x35 ∷ [])
    ∷ Some (0x67 ∷ 0x01 ∷ 0x55 ∷ 0x66 ∷ 0x77 ∷ 0x88 ∷ []) ∷ Some (0x7F ∷ 0x27 ∷ 0x35 ∷ []) ∷ Some (0x67 ∷ 0x01 ∷ 0x11 ∷ 0x22 ∷ 0x33 ∷ 0x44 ∷ [])
    ∷ Some (0x7F ∷ 0x27 ∷ 0x36 ∷ []) ∷ Some (0x7F ∷ 0x27 ∷ 0x37 ∷ []) ∷ Some (0x67 ∷ 0x01 ∷ 0x55 ∷ 0x66 ∷ 0x77 ∷ 0x88 ∷ [])
    ∷ Some (0x67 ∷ 0x01 ∷ 0x55 ∷ 0x66 ∷ 0x77 ∷ 0x88 ∷ []) ∷ Some (0x67 ∷ 0x02 ∷ []) ∷ Some (0x67 ∷ 0x01 ∷ 0x00 ∷ 0x00 ∷ 0x00 ∷ 0x00 ∷ [])
    ∷ Some (0x7F ∷ 0x27 ∷ 0x24 ∷ []) ∷ []
seeds_and_keys = refl

-- the delay is not over one tick before its end
delay_lasts : replies opened (asks 1 (0x10 ∷ 0x03 ∷ []) ∷ asks 1 (0x27 ∷ 0x01 ∷ []) ∷ asks 1 (0x27 ∷ 0x02 ∷ 0x00 ∷ 0x00 ∷ 0x00 ∷ 0x00 ∷ [])
    ∷ asks 1 (0x27 ∷ 0x01 ∷ []) ∷ asks 1 (0x27 ∷ 0x02 ∷ 0x00 ∷ 0x00 ∷ 0x00 ∷ 0x00 ∷ []) ∷ asks 1 (0x27 ∷ 0x01 ∷ [])
    ∷ asks 1 (0x27 ∷ 0x02 ∷ 0x00 ∷ 0x00 ∷ 0x00 ∷ 0x00 ∷ []) ∷ waits 1 1999 ∷ asks 1 (0x27 ∷ 0x01 ∷ []) ∷ [])
    ≡ extended ∷ Some (0x67 ∷ 0x01 ∷ 0x11 ∷ 0x22 ∷ 0x33 ∷ 0x44 ∷ []) ∷ Some (0x7F ∷ 0x27 ∷ 0x35 ∷ [])
    ∷ Some (0x67 ∷ 0x01 ∷ 0x55 ∷ 0x66 ∷ 0x77 ∷ 0x88 ∷ []) ∷ Some (0x7F ∷ 0x27 ∷ 0x35 ∷ []) ∷ Some (0x67 ∷ 0x01 ∷ 0x11 ∷ 0x22 ∷ 0x33 ∷ 0x44 ∷ [])
    ∷ Some (0x7F ∷ 0x27 ∷ 0x36 ∷ []) ∷ Some (0x7F ∷ 0x27 ∷ 0x37 ∷ []) ∷ []
delay_lasts = refl

-- codes are cleared and reported
clearing : replies opened (asks 1 (0x14 ∷ 0xFF ∷ 0xFF ∷ []) ∷ asks 1 (0x14 ∷ 0x00 ∷ 0xFF ∷ 0xFF ∷ []) ∷ asks 1 (0x14 ∷ 0xFF ∷ 0xFF ∷ 0xFF ∷ [])
    ∷ asks 1 (0x19 ∷ 0x02 ∷ 0xFF ∷ []) ∷ asks 1 (0x19 ∷ 0x01 ∷ 0x01 ∷ []) ∷ asks 1 (0x19 ∷ 0x0A ∷ []) ∷ [])
    ≡ Some (0x7F ∷ 0x14 ∷ 0x13 ∷ []) ∷ Some (0x7F ∷ 0x14 ∷ 0x31 ∷ []) ∷ Some (0x54 ∷ []) ∷ Some (0x59 ∷ 0x02 ∷ 0xFF ∷ 0x01 ∷ 0x23 ∷ 0x45 ∷ 0x50 ∷ [])
    ∷ Some (0x59 ∷ 0x01 ∷ 0xFF ∷ 0x01 ∷ 0x00 ∷ 0x00 ∷ []) ∷ Some (0x59 ∷ 0x0A ∷ 0xFF ∷ 0x01 ∷ 0x23 ∷ 0x45 ∷ 0x50 ∷ []) ∷ []
clearing = refl

-- a routine runs, ends without a report, and is stopped
routine : replies opened (asks 1 (0x10 ∷ 0x03 ∷ []) ∷ asks 1 (0x14 ∷ 0xFF ∷ 0xFF ∷ 0xFF ∷ []) ∷ asks 1 (0x85 ∷ 0x02 ∷ [])
    ∷ asks 1 (0x31 ∷ 0x01 ∷ 0x02 ∷ 0x03 ∷ []) ∷ asks 1 (0x31 ∷ 0x03 ∷ 0x02 ∷ 0x03 ∷ []) ∷ asks 1 (0x31 ∷ 0x01 ∷ 0x02 ∷ 0x03 ∷ []) ∷ waits 1 100
    ∷ asks 1 (0x31 ∷ 0x03 ∷ 0x02 ∷ 0x03 ∷ []) ∷ asks 1 (0x19 ∷ 0x02 ∷ 0xFF ∷ []) ∷ asks 1 (0x31 ∷ 0x02 ∷ 0x02 ∷ 0x03 ∷ [])
    ∷ asks 1 (0x31 ∷ 0x03 ∷ 0x02 ∷ 0x03 ∷ []) ∷ [])
    ≡ extended ∷ Some (0x54 ∷ []) ∷ Some (0xC5 ∷ 0x02 ∷ []) ∷ Some (0x71 ∷ 0x01 ∷ 0x02 ∷ 0x03 ∷ []) ∷ Some (0x71 ∷ 0x03 ∷ 0x02 ∷ 0x03 ∷ 0x01 ∷ [])
    ∷ Some (0x7F ∷ 0x31 ∷ 0x22 ∷ []) ∷ Some (0x71 ∷ 0x03 ∷ 0x02 ∷ 0x03 ∷ 0x00 ∷ 0x01 ∷ [])
    ∷ Some (0x59 ∷ 0x02 ∷ 0xFF ∷ 0x01 ∷ 0x23 ∷ 0x45 ∷ 0x50 ∷ []) ∷ Some (0x71 ∷ 0x02 ∷ 0x02 ∷ 0x03 ∷ []) ∷ Some (0x7F ∷ 0x31 ∷ 0x24 ∷ []) ∷ []
routine = refl

-- entering the session again leaves the routine running
routine_goes_on : replies opened (asks 1 (0x10 ∷ 0x03 ∷ []) ∷ asks 1 (0x14 ∷ 0xFF ∷ 0xFF ∷ 0xFF ∷ []) ∷ asks 1 (0x85 ∷ 0x02 ∷ [])
    ∷ asks 1 (0x31 ∷ 0x01 ∷ 0x02 ∷ 0x03 ∷ []) ∷ asks 1 (0x31 ∷ 0x03 ∷ 0x02 ∷ 0x03 ∷ []) ∷ asks 1 (0x31 ∷ 0x01 ∷ 0x02 ∷ 0x03 ∷ [])
    ∷ asks 1 (0x10 ∷ 0x03 ∷ []) ∷ waits 1 100 ∷ asks 1 (0x31 ∷ 0x03 ∷ 0x02 ∷ 0x03 ∷ []) ∷ asks 1 (0x19 ∷ 0x02 ∷ 0xFF ∷ [])
    ∷ asks 1 (0x31 ∷ 0x02 ∷ 0x02 ∷ 0x03 ∷ []) ∷ asks 1 (0x31 ∷ 0x03 ∷ 0x02 ∷ 0x03 ∷ []) ∷ [])
    ≡ extended ∷ Some (0x54 ∷ []) ∷ Some (0xC5 ∷ 0x02 ∷ []) ∷ Some (0x71 ∷ 0x01 ∷ 0x02 ∷ 0x03 ∷ []) ∷ Some (0x71 ∷ 0x03 ∷ 0x02 ∷ 0x03 ∷ 0x01 ∷ [])
    ∷ Some (0x7F ∷ 0x31 ∷ 0x22 ∷ []) ∷ extended ∷ Some (0x71 ∷ 0x03 ∷ 0x02 ∷ 0x03 ∷ 0x00 ∷ 0x01 ∷ [])
    ∷ Some (0x59 ∷ 0x02 ∷ 0xFF ∷ 0x01 ∷ 0x23 ∷ 0x45 ∷ 0x50 ∷ []) ∷ Some (0x71 ∷ 0x02 ∷ 0x02 ∷ 0x03 ∷ []) ∷ Some (0x7F ∷ 0x31 ∷ 0x24 ∷ []) ∷ []
routine_goes_on = refl

-- with the DTC setting on the routine sets its DTC's status
routine_reports : replies opened (asks 1 (0x10 ∷ 0x03 ∷ []) ∷ asks 1 (0x14 ∷ 0xFF ∷ 0xFF ∷ 0xFF ∷ []) ∷ asks 1 (0x31 ∷ 0x01 ∷ 0x02 ∷ 0x03 ∷ [])
    ∷ waits 1 100 ∷ asks 1 (0x19 ∷ 0x02 ∷ 0xFF ∷ []) ∷ [])
    ≡ extended ∷ Some (0x54 ∷ []) ∷ Some (0x71 ∷ 0x01 ∷ 0x02 ∷ 0x03 ∷ []) ∷ Some (0x59 ∷ 0x02 ∷ 0xFF ∷ 0x01 ∷ 0x23 ∷ 0x45 ∷ 0x2F ∷ []) ∷ []
routine_reports = refl

-- a reset ends the session
reset : replies opened (asks 1 (0x10 ∷ 0x03 ∷ []) ∷ asks 1 (0x11 ∷ 0x01 ∷ []) ∷ asks 1 (0x27 ∷ 0x01 ∷ []) ∷ asks 1 (0x11 ∷ 0x04 ∷ []) ∷ [])
    ≡ extended ∷ Some (0x51 ∷ 0x01 ∷ []) ∷ Some (0x7F ∷ 0x27 ∷ 0x7F ∷ []) ∷ Some (0x7F ∷ 0x11 ∷ 0x12 ∷ []) ∷ []
reset = refl

-- a reset whose reply is suppressed
reset_silent : replies opened (asks 1 (0x10 ∷ 0x03 ∷ []) ∷ asks 1 (0x11 ∷ 0x81 ∷ []) ∷ asks 1 (0x27 ∷ 0x01 ∷ []) ∷ asks 1 (0x11 ∷ 0x04 ∷ []) ∷ [])
    ≡ extended ∷ None ∷ Some (0x7F ∷ 0x27 ∷ 0x7F ∷ []) ∷ Some (0x7F ∷ 0x11 ∷ 0x12 ∷ []) ∷ []
reset_silent = refl

-- a level is locked again when the session ends
relocking : replies opened (asks 1 (0x10 ∷ 0x03 ∷ []) ∷ asks 1 (0x27 ∷ 0x01 ∷ []) ∷ asks 1 (0x27 ∷ 0x02 ∷ 0xAA ∷ 0xBB ∷ 0xCC ∷ 0xDD ∷ [])
    ∷ waits 1 5000 ∷ asks 1 (0x10 ∷ 0x03 ∷ []) ∷ asks 1 (0x2E ∷ 0xF1 ∷ 0x90 ∷ 0x41 ∷ 0x42 ∷ []) ∷ [])
    ≡ extended ∷ Some (0x67 ∷ 0x01 ∷ 0x11 ∷ 0x22 ∷ 0x33 ∷ 0x44 ∷ []) ∷ Some (0x67 ∷ 0x02 ∷ []) ∷ extended ∷ Some (0x7F ∷ 0x2E ∷ 0x33 ∷ []) ∷ []
relocking = refl

-- who enters the session again finds the level locked, too
relocking_again : replies opened (asks 1 (0x10 ∷ 0x03 ∷ []) ∷ asks 1 (0x27 ∷ 0x01 ∷ []) ∷ asks 1 (0x27 ∷ 0x02 ∷ 0xAA ∷ 0xBB ∷ 0xCC ∷ 0xDD ∷ [])
    ∷ asks 1 (0x10 ∷ 0x03 ∷ []) ∷ asks 1 (0x2E ∷ 0xF1 ∷ 0x90 ∷ 0x41 ∷ 0x42 ∷ []) ∷ [])
    ≡ extended ∷ Some (0x67 ∷ 0x01 ∷ 0x11 ∷ 0x22 ∷ 0x33 ∷ 0x44 ∷ []) ∷ Some (0x67 ∷ 0x02 ∷ []) ∷ extended ∷ Some (0x7F ∷ 0x2E ∷ 0x33 ∷ []) ∷ []
relocking_again = refl

-- an unlocked level writes the value that another tester reads
writing : replies opened (asks 1 (0x10 ∷ 0x03 ∷ []) ∷ asks 1 (0x27 ∷ 0x01 ∷ []) ∷ asks 1 (0x27 ∷ 0x02 ∷ 0xAA ∷ 0xBB ∷ 0xCC ∷ 0xDD ∷ [])
    ∷ asks 1 (0x2E ∷ 0xF1 ∷ 0x90 ∷ 0x41 ∷ 0x42 ∷ 0x43 ∷ 0x44 ∷ 0x45 ∷ 0x46 ∷ 0x47 ∷ 0x48 ∷ 0x49 ∷ 0x4A ∷ 0x4B ∷ 0x4C ∷ 0x4D ∷ 0x4E ∷ 0x4F ∷ 0x50
    ∷ 0x51 ∷ []) ∷ asks 2 (0x22 ∷ 0xF1 ∷ 0x90 ∷ []) ∷ [])
    ≡ extended ∷ Some (0x67 ∷ 0x01 ∷ 0x11 ∷ 0x22 ∷ 0x33 ∷ 0x44 ∷ []) ∷ Some (0x67 ∷ 0x02 ∷ []) ∷ Some (0x6E ∷ 0xF1 ∷ 0x90 ∷ [])
    ∷ Some (0x62 ∷ 0xF1 ∷ 0x90 ∷ 0x41 ∷ 0x42 ∷ 0x43 ∷ 0x44 ∷ 0x45 ∷ 0x46 ∷ 0x47 ∷ 0x48 ∷ 0x49 ∷ 0x4A ∷ 0x4B ∷ 0x4C ∷ 0x4D ∷ 0x4E ∷ 0x4F ∷ 0x50
    ∷ 0x51 ∷ []) ∷ []
writing = refl

-- an identifier of 255 bytes, and so many requests for it
abbrev long_row : DidRow
long_row = record { id = 0x0100; value = record { items = replicate 255 7 }; rule = record { read_level = 0; write = false; write_level = 0 } }

abbrev long_ecu : State
long_ecu = record opened { dids = long_row ∷ vin ∷ [] }

abbrev many : ℕ → List ℕ
many zero = []
many (suc n) = 0x01 ∷ 0x00 ∷ many n

-- so many of them are answered by so many bytes
sixteen : option_map (λ r. length r) (reply long_ecu 1 false (0x22 ∷ many 16)) ≡ Some 4113
sixteen = refl

long_reply : option_map (λ r. length r) (reply long_ecu 1 false (0x22 ∷ many 15)) ≡ Some 3856
long_reply = refl

-- the most that a message holds, and one more
most : option_map (λ r. length r) (reply long_ecu 1 false (0x22 ∷ many 254)) ≡ Some 65279
most = refl

too_long : reply long_ecu 1 false (0x22 ∷ many 255) ≡ Some (0x7F ∷ 0x22 ∷ 0x14 ∷ [])
too_long = refl

some_known : reply long_ecu 1 false (0x22 ∷ 0x01 ∷ 0x00 ∷ 0xFF ∷ 0xFF ∷ []) ≡ Some (0x62 ∷ 0x01 ∷ 0x00 ∷ replicate 255 7)
some_known = refl

-- two routines that end in one tick report in the order of their identifiers, however they were started
abbrev two_routines : State
two_routines = record opened { routines = selftest ∷ record selftest { id = 0x0204; on_done = Some (record { code = 0x012345; status = 0x01 }) } ∷ [] }

last_reports : replies two_routines (asks 1 (0x10 ∷ 0x03 ∷ []) ∷ asks 1 (0x31 ∷ 0x81 ∷ 0x02 ∷ 0x03 ∷ []) ∷ asks 1 (0x31 ∷ 0x81 ∷ 0x02 ∷ 0x04 ∷ [])
    ∷ waits 1 100 ∷ asks 1 (0x19 ∷ 0x0A ∷ []) ∷ [])
    ≡ extended ∷ None ∷ None ∷ Some (0x59 ∷ 0x0A ∷ 0xFF ∷ 0x01 ∷ 0x23 ∷ 0x45 ∷ 0x01 ∷ []) ∷ []
last_reports = refl

last_reports_again : replies two_routines
    (asks 1 (0x10 ∷ 0x03 ∷ []) ∷ asks 1 (0x31 ∷ 0x81 ∷ 0x02 ∷ 0x04 ∷ []) ∷ asks 1 (0x31 ∷ 0x81 ∷ 0x02 ∷ 0x03 ∷ []) ∷ waits 1 100
    ∷ asks 1 (0x19 ∷ 0x0A ∷ []) ∷ [])
    ≡ extended ∷ None ∷ None ∷ Some (0x59 ∷ 0x0A ∷ 0xFF ∷ 0x01 ∷ 0x23 ∷ 0x45 ∷ 0x01 ∷ []) ∷ []
last_reports_again = refl

-- ---- the rows of answers

-- a row of these bytes, any session and level, that answers by these templates at once
abbrev row_of : List PatternItem → List (List TemplateItem) → AnswerRow
row_of items templates = record { pattern = items; more = false; templates = templates; session = 0; level = 0; enter = 0; after_ms = 0; next = 0 }

-- 28....* is answered 68$1
abbrev communication : AnswerRow
communication = record (row_of (pattern.Byte 0x28 ∷ pattern.Any ∷ pattern.Any ∷ []) ((template.Byte 0x68 ∷ template.OfRequest 1 ∷ []) ∷ [])) { more = true }

abbrev values : List (List ℕ)
values = (0x62 ∷ 0xF4 ∷ 0x0C ∷ 0x0B ∷ 0x54 ∷ []) ∷ (0x62 ∷ 0xF4 ∷ 0x0C ∷ 0x0B ∷ 0x70 ∷ []) ∷ (0x62 ∷ 0xF4 ∷ 0x0C ∷ 0x0B ∷ 0x2E ∷ []) ∷ []

abbrev measured : AnswerRow
measured = row_of (map pattern.Byte (0x22 ∷ 0xF4 ∷ 0x0C ∷ [])) (map (map template.Byte) values)

abbrev erase : List ℕ
erase = 0x31 ∷ 0x01 ∷ 0xFF ∷ 0x00 ∷ []

-- only in the extended session, only unlocked, after 3 s
abbrev erasing : AnswerRow
erasing = record (row_of (map pattern.Byte erase) (map template.Byte (0x71 ∷ 0x01 ∷ 0xFF ∷ 0x00 ∷ []) ∷ [])) {
  more = true;
  session = 3;
  level = 1;
  after_ms = 3000;
}

abbrev clear_all : List ℕ
clear_all = 0x14 ∷ 0xFF ∷ 0xFF ∷ 0xFF ∷ []

-- the server's own answer, but slow
abbrev slow_clearing : AnswerRow
slow_clearing = record (row_of (map pattern.Byte clear_all) []) { after_ms = 400 }

abbrev programmed : List ℕ
programmed = 0x50 ∷ 0x02 ∷ 0x00 ∷ 0x32 ∷ 0x01 ∷ 0xF4 ∷ []

-- the programming session, from the extended one alone
abbrev programming : AnswerRow
programming = record (row_of (map pattern.Byte (0x10 ∷ 0x02 ∷ [])) (map template.Byte programmed ∷ [])) { session = 3; enter = 2 }

abbrev ruled : State
ruled = record opened { answers = communication ∷ measured ∷ erasing ∷ slow_clearing ∷ programming ∷ [] }

rule_echo : replies ruled (asks 1 (0x28 ∷ 0x01 ∷ 0x01 ∷ []) ∷ asks 1 (0x28 ∷ 0x01 ∷ []) ∷ broadcasts 1 (0x28 ∷ 0x81 ∷ 0x02 ∷ []) ∷ [])
    ≡ Some (0x68 ∷ 0x01 ∷ []) ∷ Some (0x7F ∷ 0x28 ∷ 0x11 ∷ []) ∷ Some (0x68 ∷ 0x81 ∷ []) ∷ []
rule_echo = refl

abbrev ask_value : List ℕ
ask_value = 0x22 ∷ 0xF4 ∷ 0x0C ∷ []

rule_rounds : replies ruled (asks 1 ask_value ∷ asks 1 ask_value ∷ asks 1 ask_value ∷ asks 1 ask_value ∷ [])
    ≡ Some (0x62 ∷ 0xF4 ∷ 0x0C ∷ 0x0B ∷ 0x54 ∷ []) ∷ Some (0x62 ∷ 0xF4 ∷ 0x0C ∷ 0x0B ∷ 0x70 ∷ []) ∷ Some (0x62 ∷ 0xF4 ∷ 0x0C ∷ 0x0B ∷ 0x2E ∷ [])
    ∷ Some (0x62 ∷ 0xF4 ∷ 0x0C ∷ 0x0B ∷ 0x54 ∷ []) ∷ []
rule_rounds = refl

-- a functional frame that reaches two testers is a request of each
rule_functional_rounds : replies ruled (broadcasts 1 ask_value ∷ broadcasts 2 ask_value ∷ [])
    ≡ Some (0x62 ∷ 0xF4 ∷ 0x0C ∷ 0x0B ∷ 0x54 ∷ []) ∷ Some (0x62 ∷ 0xF4 ∷ 0x0C ∷ 0x0B ∷ 0x70 ∷ []) ∷ []
rule_functional_rounds = refl

rule_effects : effects ruled (asks 1 ask_value ∷ asks 1 (0x28 ∷ 0x01 ∷ []) ∷ asks 1 (0x10 ∷ 0x02 ∷ []) ∷ asks 1 (0x10 ∷ 0x03 ∷ []) ∷ asks 1 (0x10 ∷ 0x02 ∷ []) ∷ [])
    ≡ Answer 1 ∷ Nothing ∷ Nothing ∷ Serve DiagnosticSessionControl ∷ Answer 4 ∷ []
rule_effects = refl

abbrev unlocking : List Move
unlocking = asks 1 (0x10 ∷ 0x03 ∷ []) ∷ asks 1 (0x27 ∷ 0x01 ∷ []) ∷ asks 1 (0x27 ∷ 0x02 ∷ 0xAA ∷ 0xBB ∷ 0xCC ∷ 0xDD ∷ []) ∷ []

rule_conditions : replies ruled (asks 1 erase ∷ asks 1 (0x10 ∷ 0x03 ∷ []) ∷ asks 1 erase ∷ [])
    ≡ Some (0x7F ∷ 0x31 ∷ 0x7F ∷ []) ∷ extended ∷ Some (0x7F ∷ 0x31 ∷ 0x31 ∷ []) ∷ []
rule_conditions = refl

-- unlocked it is answered, and of another tester it isn't
rule_unlocked : replies (state_after ruled unlocking) (asks 1 erase ∷ asks 2 erase ∷ []) ≡ Some (0x71 ∷ 0x01 ∷ 0xFF ∷ 0x00 ∷ []) ∷ Some (0x7F ∷ 0x31 ∷ 0x7F ∷ []) ∷ []
rule_unlocked = refl

rule_delays : delay ruled 1 clear_all ∷ delay ruled 1 erase ∷ delay (state_after ruled unlocking) 1 erase ∷ delay ruled 1 (0x3E ∷ 0x00 ∷ []) ∷ [] ≡ 400 ∷ 0 ∷ 3000 ∷ 0 ∷ []
rule_delays = refl

rule_slow : replies ruled (asks 1 clear_all ∷ asks 1 (0x3E ∷ 0x00 ∷ []) ∷ []) ≡ Some (0x54 ∷ []) ∷ Some (0x7E ∷ 0x00 ∷ []) ∷ []
rule_slow = refl

-- the session lives until the answer and S3 longer, also where the tester is present in between
rule_session_lives : replies (state_after ruled unlocking) (asks 1 erase ∷ waits 1 7999 ∷ asks 1 (0x27 ∷ 0x01 ∷ []) ∷ [])
    ≡ Some (0x71 ∷ 0x01 ∷ 0xFF ∷ 0x00 ∷ []) ∷ Some (0x67 ∷ 0x01 ∷ 0x00 ∷ 0x00 ∷ 0x00 ∷ 0x00 ∷ []) ∷ []
rule_session_lives = refl

rule_session_ends : replies (state_after ruled unlocking) (asks 1 erase ∷ waits 1 8000 ∷ asks 1 (0x27 ∷ 0x01 ∷ []) ∷ [])
    ≡ Some (0x71 ∷ 0x01 ∷ 0xFF ∷ 0x00 ∷ []) ∷ Some (0x7F ∷ 0x27 ∷ 0x7F ∷ []) ∷ []
rule_session_ends = refl

rule_session_lives_on : replies (state_after ruled unlocking)
    (asks 1 erase ∷ waits 1 1000 ∷ asks 1 (0x3E ∷ 0x80 ∷ []) ∷ waits 1 6999 ∷ asks 1 (0x27 ∷ 0x01 ∷ []) ∷ [])
    ≡ Some (0x71 ∷ 0x01 ∷ 0xFF ∷ 0x00 ∷ []) ∷ None ∷ Some (0x67 ∷ 0x01 ∷ 0x00 ∷ 0x00 ∷ 0x00 ∷ 0x00 ∷ []) ∷ []
rule_session_lives_on = refl

rule_session_ends_still : replies (state_after ruled unlocking)
    (asks 1 erase ∷ waits 1 1000 ∷ asks 1 (0x3E ∷ 0x80 ∷ []) ∷ waits 1 7000 ∷ asks 1 (0x27 ∷ 0x01 ∷ []) ∷ [])
    ≡ Some (0x71 ∷ 0x01 ∷ 0xFF ∷ 0x00 ∷ []) ∷ None ∷ Some (0x7F ∷ 0x27 ∷ 0x7F ∷ []) ∷ []
rule_session_ends_still = refl

-- 10 03 begins S3 anew
rule_session_anew : (state_after (state_after ruled unlocking) (asks 1 erase ∷ [])).s3_left
    ∷ (state_after (state_after ruled unlocking) (asks 1 erase ∷ asks 1 (0x10 ∷ 0x03 ∷ []) ∷ [])).s3_left ∷ [] ≡ 8000 ∷ 5000 ∷ []
rule_session_anew = refl

abbrev presence : List (List TemplateItem) → State
presence templates = record opened { answers = row_of (map pattern.Byte (0x3E ∷ 0x80 ∷ [])) templates ∷ [] }

rule_suppressed : replies (presence ([] ∷ [])) (asks 1 (0x3E ∷ 0x80 ∷ []) ∷ []) ≡ None ∷ []
rule_suppressed = refl

rule_not_suppressed : replies (presence (map template.Byte (0x7E ∷ 0x80 ∷ []) ∷ [])) (asks 1 (0x3E ∷ 0x80 ∷ []) ∷ []) ≡ Some (0x7E ∷ 0x80 ∷ []) ∷ []
rule_not_suppressed = refl

rule_enter : replies ruled (asks 1 (0x10 ∷ 0x02 ∷ []) ∷ asks 1 (0x10 ∷ 0x03 ∷ []) ∷ asks 1 (0x10 ∷ 0x02 ∷ []) ∷ asks 2 (0x10 ∷ 0x03 ∷ [])
    ∷ asks 1 (0x27 ∷ 0x01 ∷ []) ∷ asks 1 (0x10 ∷ 0x03 ∷ []) ∷ [])
    ≡ Some (0x7F ∷ 0x10 ∷ 0x12 ∷ []) ∷ extended ∷ Some programmed ∷ Some (0x7F ∷ 0x10 ∷ 0x21 ∷ []) ∷ Some (0x67 ∷ 0x01 ∷ 0x11 ∷ 0x22 ∷ 0x33 ∷ 0x44 ∷ []) ∷ extended ∷ []
rule_enter = refl

-- the session of tester 1 and of tester 2 after these
abbrev sessions : State → List Move → ℕ × ℕ
sessions s moves = (session_of (state_after s moves) 1, session_of (state_after s moves) 2)

abbrev into_programming : List Move
into_programming = asks 1 (0x10 ∷ 0x03 ∷ []) ∷ asks 1 (0x10 ∷ 0x02 ∷ []) ∷ []

rule_entered : sessions ruled into_programming ∷ sessions (state_after ruled into_programming) (asks 1 (0x10 ∷ 0x03 ∷ []) ∷ [])
    ∷ sessions (state_after ruled into_programming) (asks 1 (0x10 ∷ 0x01 ∷ []) ∷ []) ∷ sessions (state_after ruled into_programming) (waits 1 5000 ∷ []) ∷ []
    ≡ (2, 1) ∷ (3, 1) ∷ (1, 1) ∷ (1, 1) ∷ []
rule_entered = refl

-- a level is locked again
rule_enter_relocks : (state_after (state_after ruled unlocking) (asks 1 (0x10 ∷ 0x02 ∷ []) ∷ [])).security.unlocked ≡ None
rule_enter_relocks = refl

-- another tester is refused, also on the functional identifier, and nothing moves on
abbrev open_programming : State
open_programming = record opened {
  answers = record programming { session = 0; templates = map template.Byte programmed ∷ map template.Byte (0x50 ∷ 0x02 ∷ []) ∷ [] } ∷ [];
}

rule_enter_barred : replies open_programming (asks 1 (0x10 ∷ 0x02 ∷ []) ∷ asks 2 (0x10 ∷ 0x02 ∷ []) ∷ broadcasts 2 (0x10 ∷ 0x02 ∷ []) ∷ asks 1 (0x10 ∷ 0x02 ∷ [])
    ∷ asks 2 (0x10 ∷ 0x01 ∷ []) ∷ asks 1 (0x10 ∷ 0x01 ∷ []) ∷ asks 2 (0x10 ∷ 0x02 ∷ []) ∷ [])
    ≡ Some programmed ∷ Some (0x7F ∷ 0x10 ∷ 0x21 ∷ []) ∷ Some (0x7F ∷ 0x10 ∷ 0x21 ∷ []) ∷ Some (0x50 ∷ 0x02 ∷ []) ∷ Some (0x50 ∷ 0x01 ∷ 0x00 ∷ 0x32 ∷ 0x01 ∷ 0xF4 ∷ [])
    ∷ Some (0x50 ∷ 0x01 ∷ 0x00 ∷ 0x32 ∷ 0x01 ∷ 0xF4 ∷ []) ∷ Some programmed ∷ []
rule_enter_barred = refl

-- a row that leads to the default session ends that of the holder alone, and both are answered
abbrev resetting : State
resetting = record opened { answers = record (row_of (map pattern.Byte (0x11 ∷ 0x05 ∷ [])) (map template.Byte (0x51 ∷ 0x05 ∷ []) ∷ [])) { enter = 1 } ∷ [] }

rule_enter_default : replies resetting (asks 1 (0x10 ∷ 0x03 ∷ []) ∷ asks 2 (0x11 ∷ 0x05 ∷ []) ∷ asks 1 (0x27 ∷ 0x01 ∷ []) ∷ asks 1 (0x11 ∷ 0x05 ∷ []) ∷ asks 1 (0x27 ∷ 0x01 ∷ []) ∷ [])
    ≡ extended ∷ Some (0x51 ∷ 0x05 ∷ []) ∷ Some (0x67 ∷ 0x01 ∷ 0x11 ∷ 0x22 ∷ 0x33 ∷ 0x44 ∷ []) ∷ Some (0x51 ∷ 0x05 ∷ []) ∷ Some (0x7F ∷ 0x27 ∷ 0x7F ∷ []) ∷ []
rule_enter_default = refl

-- of two rows that apply the first decides
rule_order : replies (record opened {
  answers = row_of (pattern.Byte 0x22 ∷ pattern.Any ∷ pattern.Any ∷ []) (map template.Byte (0x62 ∷ 0x01 ∷ []) ∷ [])
      ∷ row_of (map pattern.Byte (0x22 ∷ 0xF1 ∷ 0x90 ∷ [])) (map template.Byte (0x62 ∷ 0x02 ∷ []) ∷ []) ∷ [];
}) (asks 1 (0x22 ∷ 0xF1 ∷ 0x90 ∷ []) ∷ []) ≡ Some (0x62 ∷ 0x01 ∷ []) ∷ []
rule_order = refl

-- a level that takes any key of the length of its keys
abbrev any_locks : SecurityState
any_locks = record locks { levels = map (λ (level : Level). record level { any_key = true }) locks.levels }

any_key : replies (record opened { security = any_locks }) (asks 1 (0x10 ∷ 0x03 ∷ []) ∷ asks 1 (0x27 ∷ 0x01 ∷ []) ∷ asks 1 (0x27 ∷ 0x02 ∷ 0x00 ∷ 0x00 ∷ [])
    ∷ asks 1 (0x27 ∷ 0x02 ∷ 0x00 ∷ 0x00 ∷ 0x00 ∷ 0x00 ∷ []) ∷ asks 1 (0x27 ∷ 0x01 ∷ []) ∷ [])
    ≡ extended ∷ Some (0x67 ∷ 0x01 ∷ 0x11 ∷ 0x22 ∷ 0x33 ∷ 0x44 ∷ []) ∷ Some (0x7F ∷ 0x27 ∷ 0x13 ∷ []) ∷ Some (0x67 ∷ 0x02 ∷ [])
    ∷ Some (0x67 ∷ 0x01 ∷ 0x00 ∷ 0x00 ∷ 0x00 ∷ 0x00 ∷ []) ∷ []
any_key = refl
