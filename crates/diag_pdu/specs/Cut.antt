-- ISO 15765-2:2016, 9.2 and 9.3, segmentation: the frames of a message, which have up to 8 bytes, or on CAN FD up to 64.
use Rattle.std.specs.Prelude.{ℕ, zero, suc, ◌+◌, ◌-◌, ◌*◌, ◌/◌, ◌%◌, ◌^◌, nat_le, if◌then◌else◌, List, [], ◌∷◌, ◌++◌, length, take, drop, map, replicate, Option, Some, None}
use Rattle.diag_pdu.specs.declared.length.DataLength.{DataLength}
use Rattle.diag_pdu.specs.declared.framing.Framing.{Framing}
use Rattle.diag_pdu.specs.Length.{in_bytes, next_length, single_most}

-- how many bytes of a message stand in its First of that length: a length above 4095 takes four more
abbrev pub head_size : DataLength → ℕ → ℕ
head_size d len = if nat_le len 4095 then in_bytes d - 2 else in_bytes d - 6

-- how many Consecutives a message of len bytes has, of that length: all but one of their bytes go on behind the First's
abbrev pub consecutive_count : DataLength → ℕ → ℕ
consecutive_count d len = (len - head_size d len + (in_bytes d - 2)) / (in_bytes d - 1)

-- how many bytes go with the First and i full Consecutives
abbrev pub gone_with : DataLength → ℕ → ℕ → ℕ
gone_with d len i = head_size d len + (in_bytes d - 1) * i

-- how many frames a message has
abbrev pub frames_of : DataLength → List ℕ → ℕ
frames_of d P =
    if nat_le (length P) (single_most d) then 1 else consecutive_count d (length P) + 1

-- a frame padded to 8 bytes with the pad byte, or left as it is
abbrev pub padded : Option ℕ → List ℕ → List ℕ
padded None bytes = bytes
padded (Some byte) bytes = bytes ++ replicate (8 - length bytes) byte

-- a frame with what fills it: above 8 bytes there are few lengths
abbrev pub filled : Framing → List ℕ → List ℕ
filled f bytes =
    if nat_le (length bytes) 8 then padded f.pad bytes
    else bytes ++ replicate (next_length (length bytes) - length bytes) f.fill

-- a message of one frame: its length stands in byte 0, or in byte 1 where the frame has more than 8 bytes
abbrev pub single_bytes : List ℕ → List ℕ
single_bytes P = if nat_le (length P) 7 then length P ∷ P else 0 ∷ length P ∷ P

-- a length of four bytes, the highest first
abbrev pub long_length : ℕ → List ℕ
long_length len = (len / 2 ^ 24) ∷ (len / 2 ^ 16 % 256) ∷ (len / 2 ^ 8 % 256) ∷ (len % 256) ∷ []

-- a length above 4095 is written in four bytes after a length of 0
abbrev pub first_bytes : ℕ → List ℕ → List ℕ
first_bytes len head =
    if nat_le len 4095
    then (16 + len / 256) ∷ (len % 256) ∷ head
    else 16 ∷ 0 ∷ long_length len ++ head

abbrev pub consecutive_bytes : ℕ → List ℕ → List ℕ
consecutive_bytes i part = (32 + i % 16) ∷ part

abbrev pub flow_bytes : ℕ → ℕ → ℕ → List ℕ
flow_bytes flow_status block_size st_min = (48 + flow_status) ∷ block_size ∷ st_min ∷ []

-- the part of the i-th Consecutive, from 1, behind those of the First and of the Consecutives before
abbrev pub part_of : DataLength → List ℕ → ℕ → List ℕ
part_of d P i = take (in_bytes d - 1) (drop (gone_with d (length P) (i - 1)) P)

-- the numbers from a on, n of them
abbrev pub counted_from : ℕ → ℕ → List ℕ
counted_from a zero = []
counted_from a (suc n) = a ∷ counted_from (suc a) n

-- the frames of the message P
unfoldable pub cut : Framing → List ℕ → List (List ℕ)
cut f P =
    if nat_le (length P) (single_most f.tx_dl)
    then filled f (single_bytes P) ∷ []
    else filled f (first_bytes (length P) (take (head_size f.tx_dl (length P)) P))
    ∷ map (λ i. filled f (consecutive_bytes i (part_of f.tx_dl P i)))
    (counted_from 1 (consecutive_count f.tx_dl (length P)))
