-- The frames of a message on classic CAN, of 8 bytes each, in numbers of their own.
use Rattle.std.specs.Prelude.{ℕ, ◌+◌, ◌-◌, ◌*◌, ◌/◌, nat_le, if◌then◌else◌, List, [], ◌∷◌, ◌++◌, length, take, drop, map, replicate, Option, Some, None}
use Rattle.diag_pdu.specs.Cut.{first_bytes, consecutive_bytes, counted_from}

-- how many bytes of a message stand in its First: a length above 4095 takes four more
abbrev pub classic_head : ℕ → ℕ
classic_head len = if nat_le len 4095 then 6 else 2

-- how many Consecutives a message has: 7 bytes in each after those of the First
abbrev pub classic_count : ℕ → ℕ
classic_count len = (len - classic_head len + 6) / 7

-- a frame filled to 8 bytes with the pad byte, or left as it is
abbrev pub classic_filled : Option ℕ → List ℕ → List ℕ
classic_filled None bytes = bytes
classic_filled (Some byte) bytes = bytes ++ replicate (8 - length bytes) byte

-- the part of the i-th Consecutive, from 1
abbrev pub classic_part : List ℕ → ℕ → List ℕ
classic_part P i = take 7 (drop (classic_head (length P) + 7 * (i - 1)) P)

-- the frames of the message P
unfoldable pub classic_cut : List ℕ → Option ℕ → List (List ℕ)
classic_cut P pad =
    if nat_le (length P) 7
    then classic_filled pad (length P ∷ P) ∷ []
    else classic_filled pad (first_bytes (length P) (take (classic_head (length P)) P))
    ∷ map (λ i. classic_filled pad (consecutive_bytes i (classic_part P i)))
    (counted_from 1 (classic_count (length P)))
