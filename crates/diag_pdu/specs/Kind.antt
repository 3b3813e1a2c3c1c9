-- ISO 15765-2:2016, 9.6, protocol control information: what the first bytes of a frame say.
use Rattle.std.specs.Prelude.{◌≡◌, ◌≤◌, ◌<◌, ℕ, ◌+◌, ◌*◌, ◌/◌, ◌%◌, ◌^◌, ◌==◌, nat_le, nat_lt, ◌&&◌, if◌then◌else◌, List, [], ◌∷◌, length, take, drop, slice_index, Option, Some, None}
use Rattle.diag_pdu.specs.declared.pci.Pci.{Pci}
use Rattle.diag_pdu.specs.declared.pci.Pci.TheVariants as lent
use Rattle.diag_pdu.specs.declared.length.DataLength.{DataLength}
use Rattle.diag_pdu.specs.Length.{length_of, single_most}
use Rattle.diag_pdu.specs.Cut.{head_size}

-- what a frame is; a First says by its own length how long the frames of its message are (RX_DL)
pub data Kind : Type 0 where
  Single : (payload : List ℕ) → Kind
  First : (len : ℕ) → (rx_dl : DataLength) → (head : List ℕ) → Kind
  Overflow : Kind
  Consecutive : (sequence_number : ℕ) → (part : List ℕ) → Kind
  FlowControl : (flow_status block_size st_min : ℕ) → Kind
  Ignored : Kind

-- the same, lent from a frame's bytes
abbrev pub says : Pci → Kind
says (lent.Single payload) = Single payload.now
says (lent.First len rx_dl head) = First len rx_dl head.now
says lent.Overflow = Overflow
says (lent.Consecutive sequence_number part) = Consecutive sequence_number part.now
says (lent.FlowControl flow_status block_size st_min) = FlowControl flow_status block_size st_min
says lent.Ignored = Ignored

-- a Single of more than 8 bytes has its length in byte 1: n bytes, at least 8, which are there
abbrev pub long_single_kind : ℕ → List ℕ → Kind
long_single_kind n bytes =
    if nat_le 8 n && nat_le (n + 2) (length bytes) then Single (take n (drop 2 bytes)) else Ignored

-- a Single of n bytes, 1 to 7, which are there
abbrev pub short_single_kind : ℕ → List ℕ → Kind
short_single_kind n bytes =
    if nat_le 1 n && nat_le n 7 && nat_lt n (length bytes) then Single (take n (drop 1 bytes)) else Ignored

-- a Single, with this in the low nibble of byte 0
abbrev pub single_kind : ℕ → List ℕ → Kind
single_kind n bytes =
    if nat_le (length bytes) 8 then short_single_kind n bytes
    else if n == 0 then long_single_kind (slice_index bytes 1) bytes
    else Ignored

-- the length of four bytes, the highest first, from byte 2 on
abbrev pub escape_length : List ℕ → ℕ
escape_length bytes =
    slice_index bytes 2 * 2 ^ 24 + slice_index bytes 3 * 2 ^ 16 + slice_index bytes 4 * 2 ^ 8
    + slice_index bytes 5

-- a First whose length of 32 bits is above what 12 bits hold
abbrev pub escape_kind : ℕ → DataLength → List ℕ → ℕ → Kind
escape_kind len rx_dl bytes max =
    if nat_le len 4095 then Ignored
    else if nat_lt max len then Overflow
    else First len rx_dl (drop 6 bytes)

-- a First of that length, with 12 bits of length of its message, which no Single of its length could carry; a length of 0 is the
-- escape to 32 bits
abbrev pub first_kind : ℕ → Option DataLength → List ℕ → ℕ → Kind
first_kind len None bytes max = Ignored
first_kind len (Some rx_dl) bytes max =
    if len == 0 then escape_kind (escape_length bytes) rx_dl bytes max
    else if nat_le len (single_most rx_dl) then Ignored
    else if nat_lt max len then Overflow
    else First len rx_dl (drop 2 bytes)

-- a FlowControl has status, block size and separation time
abbrev pub flow_kind : ℕ → List ℕ → Kind
flow_kind flow_status bytes =
    if nat_lt (length bytes) 3
    then Ignored
    else FlowControl flow_status (slice_index bytes 1) (slice_index bytes 2)

-- the high nibble of byte 0 decides
unfoldable pub kind : List ℕ → ℕ → Kind
kind [] max = Ignored
kind (control ∷ rest) max =
    let bytes = control ∷ rest in
    let high = control / 16 in
    let low = control % 16 in
    if high == 0 then single_kind low bytes
    else if high == 1 then first_kind (low * 256 + slice_index bytes 1) (length_of (length bytes)) bytes max
    else if high == 2 then Consecutive low rest
    else if high == 3 then flow_kind low bytes
    else Ignored

-- of a functional frame a Single alone counts
abbrev pub single_only : Kind → Kind
single_only (Single payload) = Single payload
single_only (First len rx_dl head) = Ignored
single_only Overflow = Ignored
single_only (Consecutive sequence_number part) = Ignored
single_only (FlowControl flow_status block_size st_min) = Ignored
single_only Ignored = Ignored

-- how many bytes of memory the reception needs that a frame begins
abbrev pub room_to_begin : Kind → ℕ
room_to_begin (Single payload) = 0
room_to_begin (First len rx_dl head) = len
room_to_begin Overflow = 0
room_to_begin (Consecutive sequence_number part) = 0
room_to_begin (FlowControl flow_status block_size st_min) = 0
room_to_begin Ignored = 0

-- and how many taking a frame needs: a message of up to 8 bytes takes none
abbrev pub needed_for : Kind → ℕ
needed_for (Single payload) = if nat_le (length payload) 8 then 0 else length payload
needed_for (First len rx_dl head) = len
needed_for Overflow = 0
needed_for (Consecutive sequence_number part) = 0
needed_for (FlowControl flow_status block_size st_min) = 0
needed_for Ignored = 0

-- what is read of a frame of at most 64 bytes
abbrev pub IsRead : ℕ → Kind → Type 0
IsRead max (Single payload) = (1 ≤ length payload) × (length payload ≤ 62)
IsRead max (First len rx_dl head) =
    (single_most rx_dl < len) × (len ≤ max) × (length head ≡ head_size rx_dl len)
IsRead max Overflow = Unit {0}
IsRead max (Consecutive sequence_number part) = length part ≤ 63
IsRead max (FlowControl flow_status block_size st_min) = Unit {0}
IsRead max Ignored = Unit {0}

-- a Single of at most 8 bytes
abbrev pub IsShort : Kind → Type 0
IsShort (Single payload) = length payload ≤ 7
IsShort (First len rx_dl head) = Unit {0}
IsShort Overflow = Unit {0}
IsShort (Consecutive sequence_number part) = Unit {0}
IsShort (FlowControl flow_status block_size st_min) = Unit {0}
IsShort Ignored = Unit {0}
