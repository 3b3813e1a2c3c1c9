-- Where the bytes of a reception are: in a list that grows, or in the request that is staged.
use Rattle.std.specs.Prelude.{◌≡◌, ◌≤◌, ◌+◌, ℕ, false, List, Option, Some, None, length, take, vec_capacity}
use Rattle.diag_sides.specs.declared.receiver.PartialBytes.{PartialBytes}
use Rattle.diag_sides.specs.declared.receiver.PartialBytes.TheVariants.{Growing, Staged}
use Rattle.diag_pdu.specs.declared.step.Request.{Request}
use Rattle.diag_pdu.specs.declared.length.DataLength.{DataLength}
use Rattle.diag_pdu.specs.Cut.{consecutive_count}
use Rattle.diag_sides.specs.Receiver.{kept_bytes}

-- the bytes that came, of a message of this length with so many Consecutives
abbrev pub bytes_held : DataLength → ℕ → ℕ → PartialBytes → List ℕ
bytes_held rx_dl len count (Growing bytes) = bytes.items
bytes_held rx_dl len count (Staged request) = take (kept_bytes rx_dl len count) request.message

-- the request that is staged
abbrev pub staged_in : PartialBytes → Option Request
staged_in (Growing bytes) = None
staged_in (Staged request) = Some request

-- the bytes that came, with room for all; or all, where one Consecutive is to come
abbrev pub IsHeld : DataLength → ℕ → ℕ → PartialBytes → Type 0
IsHeld rx_dl len count (Growing bytes) = (1 ≤ length bytes.items)
    × (length bytes.items ≡ kept_bytes rx_dl len count)
    × (len ≤ vec_capacity bytes)
IsHeld rx_dl len count (Staged request) = (request.functional ≡ false)
    × (length request.message ≡ len)
    × (count + 1 ≡ consecutive_count rx_dl len)
