-- The line of a frame that a tester was sent, in candump's log notation.
use Rattle.std.specs.Prelude.{ℕ, ◌+◌, ◌-◌, ◌/◌, ◌%◌, ◌^◌, nat_lt, ◌<◌, IfSome, if◌then◌else◌, codes, true, List, [], ◌∷◌, ◌++◌, length, replicate, Option, Some, None}
use Rattle.std.specs.Fmt.{decimal, digits}
use Rattle.hex.specs.Hex.{encode_upper}
use Rattle.diag_can.specs.Identifier.{number_of}
use Rattle.diag_can.specs.declared.frame.Frame.{Frame}

-- the digits with zeros before them, up to a width
abbrev pub zero_filled : ℕ → List ℕ → List ℕ
zero_filled width ds = replicate (width - length ds) 48 ++ ds

-- the two digits of a number below 100
abbrev pub two_digits : ℕ → List ℕ
two_digits n = (48 + n / 10) ∷ (48 + n % 10) ∷ []

-- `SECONDS.MILLISECONDS000` of a time in milliseconds
abbrev pub stamp_digits : ℕ → List ℕ
stamp_digits at = zero_filled 10 (decimal (at / 1000)) ++ codes "."
    ++ zero_filled 3 (decimal (at % 1000)) ++ codes "000"

-- the same in brackets
abbrev pub stamp : ℕ → List ℕ
stamp at = codes "(" ++ stamp_digits at ++ codes ")"

-- a stamp in two parts, and a space
abbrev pub seconds_text : ℕ → List ℕ
seconds_text seconds = codes "(" ++ zero_filled 10 (decimal seconds) ++ codes "."

abbrev pub thousandths_text : ℕ → List ℕ
thousandths_text thousandths = zero_filled 3 (decimal thousandths) ++ codes "000) "

-- four bytes, the highest first
abbrev pub four_bytes : ℕ → List ℕ
four_bytes n = (n / 2 ^ 24) ∷ (n / 2 ^ 16 % 256) ∷ (n / 2 ^ 8 % 256) ∷ (n % 256) ∷ []

-- an identifier in three hex digits, or in eight where it has 29 bits
abbrev pub id_text : ℕ → List ℕ
id_text id =
    if nat_lt id 2048
    then zero_filled 3 (digits 16 true id)
    else encode_upper (four_bytes (number_of id))

-- what stands between an identifier and the bytes: `#`, or for a frame of CAN FD with these flags `##` and a digit of them
abbrev pub mark_text : Option ℕ → List ℕ
mark_text None = codes "#"
mark_text (Some flags) = codes "##" ++ digits 16 true flags

-- the identifier and the bytes
abbrev pub frame_text : Option ℕ → Frame → List ℕ
frame_text flags frame = id_text frame.id ++ mark_text flags ++ encode_upper frame.bytes

-- a frame that a tester was sent at a time, by the tester's name
abbrev pub reply_line : List ℕ → Option ℕ → ℕ → Frame → List ℕ
reply_line name flags at frame =
    stamp at ++ codes " " ++ name ++ codes " " ++ frame_text flags frame ++ codes "\n"

-- what stands between a line's stamp and its bytes
abbrev pub name_text : List ℕ → Option ℕ → ℕ → List ℕ
name_text name flags id = name ++ codes " " ++ id_text id ++ mark_text flags

-- the flags of a frame of CAN FD are four bits
abbrev pub AreFlags : Option ℕ → Type 0
AreFlags flags = IfSome flags (λ f. f < 16)
