-- The stamp and the name in front of a frame in candump's log format: `(SECONDS.FRACTION) NAME `.
use Rattle.std.specs.Prelude.{ℕ, ◌+◌, ◌-◌, ◌*◌, ◌==◌, nat_le, nat_lt, Bool, not, ◌&&◌, if◌then◌else◌, List, [], ◌∷◌, take, drop, fold, Option, Some, None}
use Rattle.std.specs.List.{prefix_len}

-- a decimal digit
abbrev pub is_digit : ℕ → Bool
is_digit c = nat_le 48 c && nat_le c 57

abbrev pub decimal_value : List ℕ → ℕ
decimal_value digits = fold (λ n c. n * 10 + (c - 48)) 0 digits

abbrev pub is_space : ℕ → Bool
is_space c = c == 32

abbrev pub is_no_space : ℕ → Bool
is_no_space c = not (c == 32)

-- a byte above space, as those of a usual name
abbrev pub is_mark : ℕ → Bool
is_mark c = nat_lt 32 c

-- the next part of a form, where this one is there
infixl 10 ◌>>=◌
abbrev pub ◌>>=◌ : {A B : Type 0} → Option A → (A → Option B) → Option B
None >>= f = None
Some x >>= f = f x

-- what stands behind this byte, where the text begins with it
abbrev pub behind : ℕ → List ℕ → Option (List ℕ)
behind byte [] = None
behind byte (c ∷ text) = if c == byte then Some text else None

-- what stands behind the longest run of such bytes, where there is one or more of them
abbrev pub behind_run : (ℕ → Bool) → List ℕ → Option (List ℕ)
behind_run p text = if prefix_len p text == 0 then None else Some (drop (prefix_len p text) text)

-- the longest run of digits and what stands behind it, where it has so many digits
abbrev pub digits_of : ℕ → ℕ → List ℕ → Option (List ℕ × List ℕ)
digits_of least most text =
    let count = prefix_len is_digit text in
    if nat_le least count && nat_le count most
    then Some (take count text, drop count text)
    else None

-- digits as the number that they write, and what stands behind them
abbrev pub numbered : List ℕ × List ℕ → ℕ × List ℕ
numbered digits = (decimal_value digits.0, digits.1)

-- the moment of a stamp in milliseconds
abbrev pub moment_of : List ℕ → List ℕ → ℕ
moment_of seconds fraction = decimal_value seconds * 1000 + decimal_value (take 3 fraction)

-- a stamp's moment and what stands behind the stamp: 1 to 12 digits of seconds, 6 to 9 digits of a second's fraction
abbrev pub stamp_of : List ℕ → Option (ℕ × List ℕ)
stamp_of text =
    behind 40 text >>= λ text. digits_of 1 12 text >>= λ seconds.
    behind 46 seconds.1 >>= λ text. digits_of 6 9 text >>= λ fraction.
    behind 41 fraction.1 >>= λ text. Some (moment_of seconds.0 fraction.0, text)

-- what stands behind spaces, an interface's name and spaces
abbrev pub behind_name : List ℕ → Option (List ℕ)
behind_name text = behind_run is_space text
    >>= λ text. behind_run is_no_space text >>= λ text. behind_run is_space text
