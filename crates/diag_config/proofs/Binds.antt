-- A fault that a first step answers is what the whole chain answers.
use Rattle.std.proofs.Common.{◌≡◌, ℕ, List, Option, Some, None, Result, Ok, Err, refl}
use Rattle.std.specs.Option.{option_and_then}
use Rattle.diag_config.specs.declared.fault.KeyFault.{KeyFault}
use Rattle.diag_config.specs.declared.fault.KeyFault.TheVariants.{Missing, BadValue, Memory}
use Rattle.diag_config.specs.Key.{Fault, bad_value, ◌>>=◌, KeyFails}
use Rattle.diag_config.specs.Setup.{or_bad_value, or_refused}
use Rattle.diag_config.specs.Fault.{Gives, or_setup_fault}
use Rattle.diag_setup.specs.declared.fault.SetupFault.{SetupFault}
use Rattle.diag_setup.specs.declared.raw.RawSetup.{RawSetup}

module _ {A B : Type 0} where
  pub Fails-bind : (e : KeyFault) (said : Result A Fault) (next : A → Result B Fault) → KeyFails e said → KeyFails e (said >>= next)
  Fails-bind Memory said next h = tt
  Fails-bind (Missing key) said next h = rw h refl
  Fails-bind (BadValue key) said next h = rw h refl

  -- what a text says that is read in two steps, where the first is well, and where it isn't
  pub read_on : (key : List ℕ) (next : A → Option B) (said : Option A) (x : A) → or_bad_value key said ≡ Ok x
      → or_bad_value key (option_and_then next said) ≡ or_bad_value key (next x)
  read_on key next None x h = cc
  read_on key next (Some y) x h = let same : y ≡ x = cc in rw same refl

  pub read_fails : (key : List ℕ) (next : A → Option B) (said : Option A) (e : KeyFault) → KeyFails e (or_bad_value key said)
      → KeyFails e (or_bad_value key (option_and_then next said))
  read_fails key next None Memory h = tt
  read_fails key next None (Missing name) h = cc
  read_fails key next None (BadValue name) h = let same : bad_value key ≡ bad_value name.now = cc in rw same refl
  read_fails key next (Some x) Memory h = tt
  read_fails key next (Some x) (Missing name) h = cc
  read_fails key next (Some x) (BadValue name) h = cc

-- a checked setup, or its fault
pub Gives-checked : (r : Result RawSetup SetupFault) → Gives (or_setup_fault r) (or_refused r)
Gives-checked (Ok setup) = refl
Gives-checked (Err fault) = refl
