-- Why the keys of a setup could not be read, and what a reader returns beside what a definition says.
use Rattle.std.specs.Prelude.{◌≡◌, ℕ, Bool, true, false, List, Option, Some, None, Result, Ok, Err}
use Rattle.toml.specs.Data.{Data, string, array}
use Rattle.diag_setup.specs.declared.fault.SetupFault.{SetupFault}
use Rattle.diag_config.specs.declared.fault.KeyFault.{KeyFault}
use Rattle.diag_config.specs.declared.fault.KeyFault.TheVariants.{Missing, BadValue, Memory}

-- a fault of a setup's text, where a key is written as in the table of keys
pub data Fault : Type 0 where
  syntax : Fault
  missing : List ℕ → Fault
  bad_value : List ℕ → Fault
  refused : SetupFault → Fault

-- the next step, unless there is a fault before it
infixl 10 ◌>>=◌
abbrev pub ◌>>=◌ : {A B E : Type 0} → Result A E → (A → Result B E) → Result B E
(Ok x) >>= f = f x
(Err e) >>= f = Err e

-- ---- what takes memory: a text and a list, where they are asked for

abbrev pub nothing : Data → Bool
nothing _ = false

abbrev pub is_text : Data → Bool
is_text (string s) = true
is_text _ = false

abbrev pub is_list : Data → Bool
is_list (array ds) = true
is_list _ = false

-- the key is given, with a value that takes memory
abbrev pub is_taken : (Data → Bool) → Option Data → Bool
is_taken takes None = false
is_taken takes (Some d) = takes d

-- ---- what a reader returns

-- the fault is the one that the definition answers, unless memory ran out
abbrev pub KeyFails : {Y : Type 0} → KeyFault → Result Y Fault → Type 0
KeyFails Memory said = Unit {0}
KeyFails (Missing key) said = said ≡ Err (missing key.now)
KeyFails (BadValue key) said = said ≡ Err (bad_value key.now)

-- what a reader returned, seen by view, is what the definition says, unless memory ran out
abbrev pub KeyGives : {X Y : Type 0} → (X → Y) → Result X KeyFault → Result Y Fault → Type 0
KeyGives view (Ok x) said = said ≡ Ok (view x)
KeyGives view (Err e) said = KeyFails e said
