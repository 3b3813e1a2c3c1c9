-- What is kept of the lines that are heard, and how a piece of them goes.
use Rattle.diag_can.specs.declared.frame.KnownId.{KnownId}
use Rattle.std.specs.Prelude.{◌≡◌, ◌<◌, ℕ, ◌+◌, ◌^◌, List, [], ◌∷◌, ◌++◌, length, map, Result, Err}
use Rattle.diag_can.specs.BusLine.{begun_line, bus_line, bus_lines, ended_lines}
use Rattle.diag_can.specs.declared.fault.LineFault.{LineFault}
use Rattle.diag_can.specs.declared.fault.LineFault.TheVariants.{BadLine}
use Rattle.diag_port.specs.Port.{Grew}
use Rattle.diag_live.specs.Live.{AreGood, Heard, record_text, capture_of}
use Rattle.diag_live.specs.declared.hearing.HearFault.{HearFault}
use Rattle.diag_live.specs.declared.hearing.HearFault.TheVariants.{Line, Memory}
use Rattle.diag_live.specs.declared.hearing.Hearing.{Hearing}

-- these bytes were heard
pub record HasHeard (hearing : Hearing) (seen : List ℕ) : Type 0 where
  pub kept : hearing.kept.items ≡ begun_line seen
  pub count : hearing.lines ≡ length (ended_lines seen)

-- these identifiers are read that are passed over otherwise
module _ (known : List KnownId) where
  -- these lines more were ended, none of which is at fault, and the capture grew by them
  pub record Ends (new : Hearing) (seen bytes more : List ℕ) : Type 0 where
    pub lines : List (List ℕ)
    pub ended : ended_lines (seen ++ bytes) ≡ ended_lines seen ++ lines
    pub good : AreGood known (map Heard lines)
    pub text : more ≡ record_text (capture_of (map Heard lines))
    pub follows : HasHeard new (seen ++ bytes)

  -- these bytes were heard further, and the capture grew by this
  abbrev pub HeardLines : Hearing → Hearing → List ℕ → List ℕ → Type 0
  HeardLines old new bytes more = (seen : List ℕ) → HasHeard old seen → Ends new seen bytes more

  -- behind these lines one is at fault, by its number, whatever follows
  pub record IsNextBad (n : ℕ) (fault : LineFault) (before : List (List ℕ)) (bytes : List ℕ) : Type 0 where
    pub bad : List ℕ
    pub others : List (List ℕ)
    pub are : bus_lines bytes ≡ before ++ bad ∷ others
    pub number : n ≡ length before + 1
    pub says : bus_line known bad ≡ Err fault

  -- these lines more were ended, and then came one at fault
  pub record EndsBefore (n : ℕ) (fault : LineFault) (seen bytes more : List ℕ) : Type 0 where
    pub lines : List (List ℕ)
    pub good : AreGood known (map Heard lines)
    pub text : more ≡ record_text (capture_of (map Heard lines))
    pub next : (rest : List ℕ) → IsNextBad n fault (ended_lines seen ++ lines) ((seen ++ bytes) ++ rest)

  -- the fault came with these bytes; where it is a line's, the capture grew by the lines before it
  abbrev pub Refuses : Hearing → List ℕ → List ℕ → List ℕ → HearFault → Type 0
  Refuses old bytes text text' Memory = Unit {0}
  Refuses old bytes text text' (Line n fault) = Grew text text'
      (λ more. (seen : List ℕ) → HasHeard old seen → EndsBefore n fault seen bytes more)

-- A line that is seen to be at fault isn't taken, and that is told by its number, whatever memory there is: one that came as one
-- piece, or is longer than a line may be. (Lines are counted up to 2^64 - 1.)
abbrev pub SeesBad : {X : Type 0} → List KnownId → Hearing → List ℕ → Result X HearFault → Type 0
SeesBad known old bytes result = old.lines + 1 < 2 ^ 64
    → ((fault : LineFault) → old.kept.items ≡ [] → bus_line known bytes ≡ Err fault → result ≡ Err (Line (old.lines + 1) fault))
    × (4096 < length old.kept.items + length bytes → result ≡ Err (Line (old.lines + 1) BadLine))

-- the line that is kept is with these bytes longer than a line may be, or memory was refused
abbrev pub IsLineTooLong : Hearing → List ℕ → HearFault → Type 0
IsLineTooLong old bytes Memory = Unit {0}
IsLineTooLong old bytes (Line n fault) = (n ≡ old.lines + 1) × (fault ≡ BadLine)
    × (4096 < length old.kept.items + length bytes)
