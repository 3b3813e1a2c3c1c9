-- What is wanted of a capture: what is written while it goes by, and how it ends: what its end adds and with which status, or what
-- is told in place of that.
use Rattle.std.specs.Prelude.{◌≡◌, ◌≢◌, ◌⊎◌, ℕ, List, [], ◌++◌, Result, Ok, Err, IfSome, IsOk}
use Rattle.diag_setup.specs.declared.raw.RawSetup.{RawSetup}
use Rattle.diag_ecu.specs.State.{State}
use Rattle.diag_desk.specs.declared.entry.Entry.{Entry}
use Rattle.diag_bus.specs.Text.{ecu_after, text_of}
use Rattle.diag_bus.specs.Verdict.{Agree, IsNumber, Means, agreement_text, recorded, verdict, verdict_text}
use Rattle.diag_bus.specs.declared.verdict.Verdict.{Verdict}
use Rattle.diag_bus.specs.declared.verdict.Verdict.TheVariants.{Agrees, Differs, Lacks}
use Rattle.diag_text.specs.Agreed.{agreed_status, agreed_text, nothing_line}
use Rattle.diag_run.specs.declared.capture.CaptureFault.{CaptureFault}
use Rattle.diag_run.specs.declared.capture.CaptureFault.TheVariants as fault

-- what the end of a capture adds, and the status of the run then
pub record End : Type 0 where
  pub more : List ℕ
  pub status : ℕ

abbrev pub end_with : List ℕ → ℕ → End
end_with more status = record { more = more; status = status }

-- the capture ends well, with this status
abbrev pub EndsWith : Result End (List ℕ) → ℕ → Type 0
EndsWith (Ok end) status = status ≡ end.status
EndsWith (Err told) status = ⊥

pub record Wanted : Type 0 where
  pub written : RawSetup → List (List ℕ) → List ℕ
  pub ends : RawSetup → List (List ℕ) → Result End (List ℕ)

-- of a sink
abbrev pub wanted : {S A : Type 0} → (A → RawSetup → List (List ℕ) → List ℕ)
    → (S → RawSetup → List (List ℕ) → Result End (List ℕ)) → (S → A) → S → Wanted
wanted written ends aim sink = record { written = written (aim sink); ends = ends sink }

-- ---- reply lines

-- the sink of reply lines keeps nothing of the lines
abbrev pub any_lines : {S : Type 0} → S → RawSetup → List (List ℕ) → List Entry → Type 0
any_lines sink setup lines K = Unit {0}

-- it writes those, and its end adds nothing
abbrev pub reply_lines : Wanted
reply_lines = record { written = text_of; ends = λ setup lines. Ok (end_with [] 0) }

abbrev pub replies_wanted : {S : Type 0} → S → Wanted
replies_wanted sink = reply_lines

-- ---- how a sink ends

-- where a sink and the ECU stand for lines, this is how the capture ends with them
abbrev pub EndsAs : {S : Type 0} → (S → RawSetup → List (List ℕ) → List Entry → Type 0)
    → (S → RawSetup → List (List ℕ) → Result End (List ℕ)) → S → RawSetup → State → Result End (List ℕ) → Type 0
EndsAs took ends sink setup ecu result = (lines : List (List ℕ)) → took sink setup lines [] → ecu ≡ ecu_after setup lines
    → ends sink setup lines ≡ result

-- where they do, it ends well with them
abbrev pub EndsWell : {S : Type 0} → (S → RawSetup → List (List ℕ) → List Entry → Type 0)
    → (S → RawSetup → List (List ℕ) → Result End (List ℕ)) → S → RawSetup → State → Type 0
EndsWell took ends sink setup ecu = (lines : List (List ℕ)) → took sink setup lines [] → ecu ≡ ecu_after setup lines
    → IsOk (ends sink setup lines)

-- memory was refused for what a capture adds that ends well; or this is told in place of that, where there was memory for it
abbrev pub IsEndFault : (Result End (List ℕ) → Type 0) → Type 0 → CaptureFault → Type 0
IsEndFault Ends Well fault.Memory = Well
IsEndFault Ends Well (fault.Otherwise told) = (line : List ℕ) × IfSome told (λ t. t.items ≡ line) × Ends (Err line)
IsEndFault Ends Well (fault.Line n f) = ⊥
IsEndFault Ends Well fault.Read = ⊥
IsEndFault Ends Well fault.Write = ⊥

-- ---- a verdict

-- how many frames agree, where all do, and whether there was one; else what is told of the first that doesn't
abbrev pub judged_by : RawSetup → List (List ℕ) → Verdict → Result End (List ℕ)
judged_by setup lines Agrees = Ok (end_with (agreed_text setup lines) (agreed_status setup lines))
judged_by setup lines (Differs t d) = Err (verdict_text setup (Differs t d))
judged_by setup lines (Lacks t count next) = Err (verdict_text setup (Lacks t count next))

abbrev pub judged : RawSetup → List (List ℕ) → Result End (List ℕ)
judged setup lines = judged_by setup lines (verdict setup lines)

-- Of some tester the recording has a frame, and the status is 0; or it has none of any, and a last line and the status 9 say so.
abbrev pub IsAgreed : RawSetup → List (List ℕ) → End → Type 0
IsAgreed setup lines end =
    (((t : ℕ) × IsNumber setup t × (recorded setup lines t ≢ [])) × (end ≡ end_with (agreement_text setup lines) 0))
    ⊎ (((t : ℕ) → IsNumber setup t → recorded setup lines t ≡ [])
    × (end ≡ end_with (agreement_text setup lines ++ nothing_line) 9))

-- Of each tester the recording has just the frames that the server sends; or of some it has not, and this is told of the first
-- difference.
abbrev pub IsJudged : RawSetup → List (List ℕ) → Result End (List ℕ) → Type 0
IsJudged setup lines (Ok end) = ((t : ℕ) → IsNumber setup t → Agree setup lines t) × IsAgreed setup lines end
IsJudged setup lines (Err told) = (¬ ((t : ℕ) → IsNumber setup t → Agree setup lines t))
    × Means setup lines (verdict setup lines)
    × (told ≡ verdict_text setup (verdict setup lines))

abbrev pub JudgedLaw : Type 0
JudgedLaw = (setup : RawSetup) (lines : List (List ℕ)) → IsJudged setup lines (judged setup lines)
