use Rattle.std.proofs.Common.{◌≡◌, ◌≤◌, ◌++◌, ℕ, List, length}
use Rattle.std.specs.Io.KnownBytes.{Consumes}
use Rattle.diag_text.proofs.io.read_into.Given as goal

-- so many bytes were read, and all of them taken
abbrev pub invariant-loop-turn : goal.invariant-loop-turn
invariant-loop-turn g l = (bytes : List ℕ)
    × Consumes (g.R.Source.remaining l.initial.reader) (g.R.Source.remaining l.reader) bytes
    × (length bytes ≡ l.taken)
    × (l.turn ≤ l.taken)
    × (l.taken ≤ l.limit)
    × (g.P.TakePieces.aim l.taker ≡ g.P.TakePieces.aim l.initial.taker)
    × ((seen : List ℕ) → g.P.TakePieces.took l.initial.taker seen → g.P.TakePieces.took l.taker (seen ++ bytes))
    × (g.R.Source.sound l.initial.reader → g.R.Source.sound l.reader)
