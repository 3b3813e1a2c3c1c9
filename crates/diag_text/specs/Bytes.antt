-- What is read from a reader and written to a writer, where their bytes are known.
use Rattle.std.specs.Prelude.{◌≡◌, ℕ, List, ◌++◌, Option}
use Rattle.std.specs.Io.KnownBytes.{Appends, Consumes, IsAtEnd}

-- known bytes grow by a front of the text
abbrev pub AppendsFront : Option (List ℕ) → Option (List ℕ) → List ℕ → Type 0
AppendsFront old new text =
    (front : List ℕ) × (rest : List ℕ) × (text ≡ front ++ rest) × Appends old new front

-- all that a reader had left was read: these bytes
abbrev pub ReadWhole : Option (List ℕ) → Option (List ℕ) → List ℕ → Type 0
ReadWhole old new bytes = Consumes old new bytes × IsAtEnd new

-- so many bytes were read, of which P holds
abbrev pub Takes : Option (List ℕ) → Option (List ℕ) → (List ℕ → Type 0) → Type 0
Takes old new P = (bytes : List ℕ) × Consumes old new bytes × P bytes

-- so many bytes were written, of which P holds
abbrev pub Sends : Option (List ℕ) → Option (List ℕ) → (List ℕ → Type 0) → Type 0
Sends old new P = (bytes : List ℕ) × Appends old new bytes × P bytes
