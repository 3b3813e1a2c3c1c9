-- What unlocks a level, and what a written value needs.
use Rattle.std.specs.Prelude.{◌≡◌, ◌+◌, ℕ, Bool, true, false, List, drop, length, Some}
use Rattle.diag_store.specs.Dids as dids
use Rattle.diag_store.specs.Security as security
use Rattle.diag_ecu.specs.State.{State}
use Rattle.diag_ecu.specs.Respond.{sid, sub, write_level}

-- the tester is the holder, and the level is unlocked
abbrev pub HasUnlocked : State → ℕ → ℕ → Type 0
HasUnlocked s who level = (s.holder ≡ Some who) × (s.security.unlocked ≡ Some level)

-- the key of a row of a level, or where the level takes any key a key of that length
abbrev pub IsRightKey : Bool → State → ℕ → ℕ → List ℕ → Type 0
IsRightKey true s level row key = security.key_len s.security level ≡ Some (length key)
IsRightKey false s level row key = key ≡ security.key_at s.security level row

-- a request 27 with the sub-function of the level's key, and the key of the seed that is outstanding
pub record IsKey (s : State) (message : List ℕ) (level : ℕ) : Type 0 where
  pub service : sid message ≡ 0x27
  pub sub_function : sub message ≡ level + 1
  pub row : ℕ
  pub outstanding : security.outstanding_row s.security.outstanding level ≡ Some row
  pub key : IsRightKey (security.takes_any_key s.security level) s level row (drop 2 message)

-- the write level of an identifier, which no move changes
abbrev pub write_level_of : State → ℕ → ℕ
write_level_of s id = write_level (dids.rule_of s.dids id)
