-- What a run tells of a capture by its exchanges.
use Rattle.std.specs.Prelude.{◌≡◌, ℕ, Bool, List, Result, Ok}
use Rattle.diag_setup.specs.declared.raw.RawSetup.{RawSetup}
use Rattle.diag_compare.specs.Compare.{closing, compare_text, compared, status}
use Rattle.diag_compare.specs.Expects.{expects}
use Rattle.diag_compare.specs.Meaning.{StatusMeans}
use Rattle.diag_run.specs.Capture.{capture_text}
use Rattle.diag_run.specs.Wanted.{End, EndsWith, Wanted, end_with}

-- how it ends: with the exchanges that aren't over, and a status
abbrev pub compared_end : Bool → RawSetup → List (List ℕ) → Result End (List ℕ)
compared_end differences setup lines =
    Ok (end_with (closing (expects setup) setup differences lines) (status (expects setup) setup lines))

abbrev pub compared_wanted : Bool → Wanted
compared_wanted differences = record {
  written = λ setup lines. compared (expects setup) setup differences lines;
  ends = compared_end differences;
}

-- The text is that of the capture's exchanges, and the status theirs, which says what a status means.
pub record IsCompared (differences : Bool) (setup : RawSetup) (lines : List (List ℕ)) (want : Wanted) : Type 0 where
  pub text : capture_text want setup lines ≡ compare_text (expects setup) setup differences lines
  pub ended : EndsWith (want.ends setup lines) (status (expects setup) setup lines)
  pub means : (n : ℕ) → EndsWith (want.ends setup lines) n → StatusMeans (expects setup) setup lines n

abbrev pub ComparedLaw : Type 0
ComparedLaw = (differences : Bool) (setup : RawSetup) (lines : List (List ℕ))
    → IsCompared differences setup lines (compared_wanted differences)
