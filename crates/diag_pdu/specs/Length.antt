-- The lengths of frames (ISO 15765-2:2016, 9.5; ISO 11898-1, data length code).
use Rattle.std.specs.Prelude.{ℕ, ◌==◌, ◌-◌, nat_le, if◌then◌else◌, Option, Some, None}
use Rattle.diag_pdu.specs.declared.length.DataLength.{DataLength}
use Rattle.diag_pdu.specs.declared.length.DataLength.TheVariants.{Dl8, Dl12, Dl16, Dl20, Dl24, Dl32, Dl48, Dl64}

-- TX_DL or RX_DL as a number
abbrev pub in_bytes : DataLength → ℕ
in_bytes Dl8 = 8
in_bytes Dl12 = 12
in_bytes Dl16 = 16
in_bytes Dl20 = 20
in_bytes Dl24 = 24
in_bytes Dl32 = 32
in_bytes Dl48 = 48
in_bytes Dl64 = 64

-- the length that so many bytes are, where a First has so many
abbrev pub length_of : ℕ → Option DataLength
length_of n =
    if n == 8 then Some Dl8 else if n == 12 then Some Dl12 else if n == 16 then Some Dl16
    else if n == 20 then Some Dl20 else if n == 24 then Some Dl24 else if n == 32 then Some Dl32
    else if n == 48 then Some Dl48 else if n == 64 then Some Dl64 else None

-- the least length of a frame that has room for so many bytes
abbrev pub next_length : ℕ → ℕ
next_length n =
    if nat_le n 8 then n else if nat_le n 12 then 12 else if nat_le n 16 then 16
    else if nat_le n 20 then 20 else if nat_le n 24 then 24 else if nat_le n 32 then 32
    else if nat_le n 48 then 48 else 64

-- the longest message of a Single, in a frame of that length: above 8 bytes its length takes one byte more
abbrev pub single_most : DataLength → ℕ
single_most d = if nat_le (in_bytes d) 8 then 7 else in_bytes d - 2
