-- Replaying a journal.
use Rattle.std.specs.Prelude.{◌≤◌, ◌-◌, ℕ, List, [], ◌∷◌, length, take}
use Rattle.diag_desk.specs.declared.entry.Entry.{Entry}
use Rattle.diag_desk.specs.Legal.{Legal}
use Rattle.diag_ecu.specs.State.{opening}
use Rattle.diag_setup.specs.declared.raw.RawSetup.{RawSetup}

abbrev pub AreTesters : ℕ → List Entry → Type 0
AreTesters testers [] = Unit {0}
AreTesters testers (e ∷ entries) = (e.who ≤ testers) × AreTesters testers entries

-- legal for a setup: each tester is in it, and each reply is the server's, from the setup's opening
abbrev pub IsLegalFor : RawSetup → List Entry → Type 0
IsLegalFor setup entries = AreTesters (length setup.testers) entries × Legal (opening setup) entries

-- entry n, from 1, is the first that differs: the entries before it are legal for the setup, with it they aren't
pub record DiffersAt (setup : RawSetup) (entries : List Entry) (n : ℕ) : Type 0 where
  pub some : 1 ≤ n
  pub within : n ≤ length entries
  pub before : IsLegalFor setup (take (n - 1) entries)
  pub differs : IsLegalFor setup (take n entries) → ⊥
