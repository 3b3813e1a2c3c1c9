-- What fits of the part of a Consecutive.
use Rattle.std.proofs.Common.{◌≡◌, ℕ, ◌+◌, ◌-◌, ◌≤◌, List, ◌++◌, length, take, sym, ◌∙◌, ap, arith, length-append, ◌<◌}
use Rattle.std.proofs.lemmas.List.{take_all, length-take-le}
use Rattle.diag_pdu.specs.declared.length.DataLength.{DataLength}
use Rattle.diag_pdu.specs.Length.{in_bytes}
use Rattle.diag_pdu.specs.Cut.{consecutive_count}
use Rattle.diag_pdu.proofs.Lengths.{gone-more, count-inside}
use Rattle.diag_sides.specs.Receiver.{kept_bytes}
use Rattle.std.proofs.Math.Seq.{take-append-add}

-- what fits of a part is all that counts
pub set-over : (len : ℕ) (m part : List ℕ) (kept : ℕ) → length m ≡ len → kept ≤ len → len ≤ kept + length part
    → take (len - (len - kept)) m ++ take (len - kept) part ≡ take len (take kept m ++ part)
set-over len m part kept size h fits =
    let short : length (take kept m) ≡ kept = length-take-le kept m (omega arith) in
    let same : len - (len - kept) ≡ kept = omega arith in
    let size : length (take kept m) + (len - kept) ≡ len = omega arith in
    rw same (sym (take-append-add (take kept m) part (len - kept)) ∙ ap (λ (n : ℕ). take n (take kept m ++ part)) size)

-- the next part, which isn't the last, fits whole
pub set-next : (rx_dl : DataLength) (len count : ℕ) (bytes part : List ℕ) → length bytes ≡ kept_bytes rx_dl len count → count + 1 < consecutive_count rx_dl len
    → length part ≡ in_bytes rx_dl - 1 → bytes ++ part ≡ take len (bytes ++ part)
set-next rx_dl len count bytes part kept more full =
    let size = length-append bytes part in
    let next = gone-more rx_dl len count in
    let inside = count-inside rx_dl len count more in
    sym (take_all len (bytes ++ part) (omega (arith, size, next, inside, kept, full)))
