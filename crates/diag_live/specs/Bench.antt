-- What is heard of the bytes that are still to come, where those are known.
use Rattle.std.specs.Prelude.{ℕ, List, Option}
use Rattle.std.specs.Io.KnownBytes.{Consumes, IsAtEnd, Keeps}
use Rattle.diag_live.specs.declared.bench.Heard.{Heard}
use Rattle.diag_live.specs.declared.bench.Heard.TheVariants.{Piece, Silence, End, Fault, Memory}

-- a piece is the next of them, and an end comes where none is left
abbrev pub Hears : Option (List ℕ) → Option (List ℕ) → Heard → Type 0
Hears old new (Piece piece) = Consumes old new piece.items
Hears old new Silence = Keeps old new
Hears old new End = Keeps old new × IsAtEnd new
Hears old new Fault = Keeps old new
Hears old new Memory = Keeps old new
