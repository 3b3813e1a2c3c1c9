-- What is told of a recording with which the server agrees, and the status that the program ends with.
use Rattle.std.specs.Prelude.{ℕ, ◌==◌, codes, Bool, if◌then◌else◌, List, [], ◌++◌, length}
use Rattle.std.specs.List.{list_all}
use Rattle.diag_setup.specs.declared.raw.RawSetup.{RawSetup}
use Rattle.diag_bus.specs.Verdict.{agreement_text, numbers, recorded}

abbrev pub has_none : RawSetup → List (List ℕ) → ℕ → Bool
has_none setup lines t = length (recorded setup lines t) == 0

-- of no tester the recording has a frame that is compared
abbrev pub compares_nothing : RawSetup → List (List ℕ) → Bool
compares_nothing setup lines = list_all (has_none setup lines) (numbers setup)

-- the line that says so
abbrev pub nothing_line : List ℕ
nothing_line = codes "nothing compared\n"

-- how many frames of each tester agree; and last that nothing was compared, where it is so
abbrev pub agreed_text : RawSetup → List (List ℕ) → List ℕ
agreed_text setup lines = agreement_text setup lines ++ (if compares_nothing setup lines then nothing_line else [])

-- a recording in which nothing was compared isn't a success
abbrev pub agreed_status : RawSetup → List (List ℕ) → ℕ
agreed_status setup lines = if compares_nothing setup lines then 9 else 0
