-- What has to come before a value is written that needs a security level.
use Rattle.std.specs.Prelude.{◌≡◌, ◌<◌, ◌≤◌, ℕ, false, List, ◌∷◌, take, slice_get, Some, None}
use Rattle.diag_pdu.specs.declared.step.Request.{Request}
use Rattle.diag_pdu.specs.declared.step.Step.{Step}
use Rattle.diag_pdu.specs.declared.step.Step.TheVariants as step
use Rattle.diag_desk.specs.declared.entry.Entry.{Entry}
use Rattle.diag_desk.specs.Legal.{Legal, after}
use Rattle.diag_ecu.specs.Bytes.{bytes_16}
use Rattle.diag_ecu.specs.Respond.{rule_answers, rule_for}
use Rattle.diag_ecu.specs.State.{State}
use Rattle.diag_ecu.specs.Unlocking.{HasUnlocked, IsKey, write_level_of}

-- no row of answers with a reply decides of the step: the services answer it
abbrev pub IsOwn : State → ℕ → Step → Type 0
IsOwn s who (step.Request request) = rule_answers (rule_for s who request.message) ≡ false
IsOwn s who (step.Ticks count) = Unit {0}

-- a request of the tester with the key of the level, which the services answer
pub record SendsKey (s : State) (e : Entry) (who level : ℕ) : Type 0 where
  pub sender : e.who ≡ who
  pub request : Request
  pub is_request : e.step ≡ step.Request request
  pub is_key : IsKey s request.message level
  pub is_own : IsOwn s who (step.Request request)

-- entry `at` of the run sent the key, and from then to entry i the tester stays the holder with the level unlocked
pub record UnlockedBefore (s : State) (entries : List Entry) (i who level : ℕ) : Type 0 where
  pub at : ℕ
  pub before : at < i
  pub entry : Entry
  pub is_entry : slice_get entries at ≡ Some entry
  pub sends_key : SendsKey (after s (take at entries)) entry who level
  pub stays : (j : ℕ) → at < j → j ≤ i → HasUnlocked (after s (take j entries)) who level

-- Where nothing is unlocked at first, as in each opening: a value that needs a level above 0 is written by the services only
-- after that tester has sent the level's key, and has stayed the holder with the level unlocked since.
abbrev pub UnlockLaw : Type 0
UnlockLaw = (s : State) (entries : List Entry) → s.security.unlocked ≡ None → Legal s entries
    → (i : ℕ) (e : Entry) (id : ℕ) → slice_get entries i ≡ Some e
    → IsOwn (after s (take i entries)) e.who e.step
    → e.reply ≡ Some (0x6E ∷ bytes_16 id)
    → 0 < write_level_of s id
    → UnlockedBefore s entries i e.who (write_level_of s id)
