-- A FirstFrame has two bytes at least, of a message that is longer than a SingleFrame of its length could carry.
use Rattle.std.proofs.Common.{◌≡◌, ◌≤◌, ◌<◌, ℕ, ◌*◌, ◌+◌, ◌/◌, ◌%◌, Bool, true, false, Option, Some, None, List, [], ◌∷◌, length, length-drop, drop, refl, arith}
use Rattle.std.proofs.lemmas.Bool.Decides.{nat_tests}
use Rattle.std.specs.Prelude.{if◌then◌else◌, nat_le, nat_lt, slice_index, ◌==◌, ◌&&◌}
use Rattle.diag_pdu.specs.declared.length.DataLength.{DataLength}
use Rattle.diag_pdu.specs.declared.length.DataLength.TheVariants.{Dl8, Dl12, Dl16, Dl20, Dl24, Dl32, Dl48, Dl64}
use Rattle.diag_pdu.specs.Length.{length_of, single_most}
use Rattle.diag_pdu.specs.Kind.{escape_kind, escape_length, first_kind, flow_kind, kind, long_single_kind, single_kind, short_single_kind, Kind, Single, First, Overflow, Consecutive, FlowControl, Ignored}

pub record HasHead (len : ℕ) (rx_dl : DataLength) (head : List ℕ) : Type 0 where
  pub some : 2 ≤ length head
  pub long : single_most rx_dl < len

abbrev pub IsFirst : Kind → Type 0
IsFirst (Single payload) = Unit {0}
IsFirst (First len rx_dl head) = HasHead len rx_dl head
IsFirst Overflow = Unit {0}
IsFirst (Consecutive sequence_number part) = Unit {0}
IsFirst (FlowControl flow_status block_size st_min) = Unit {0}
IsFirst Ignored = Unit {0}

first_if : (b : Bool) (x y : Kind) → (b ≡ true → IsFirst x) → (b ≡ false → IsFirst y) → IsFirst (if b then x else y)
first_if true x y f g = f refl
first_if false x y f g = g refl

above : (m n : ℕ) → nat_le m n ≡ false → n < m
above m n e = grind (arith, nat_tests)

-- a message that no SingleFrame of that length could carry has eight bytes at least
pub eight_most : (d : DataLength) (len : ℕ) → single_most d < len → 8 ≤ len
eight_most Dl8 len long = omega (arith, long)
eight_most Dl12 len long = omega (arith, long)
eight_most Dl16 len long = omega (arith, long)
eight_most Dl20 len long = omega (arith, long)
eight_most Dl24 len long = omega (arith, long)
eight_most Dl32 len long = omega (arith, long)
eight_most Dl48 len long = omega (arith, long)
eight_most Dl64 len long = omega (arith, long)

-- of more than 4095 bytes none could
most_few : (d : DataLength) (len : ℕ) → 4095 < len → single_most d < len
most_few Dl8 len long = omega (arith, long)
most_few Dl12 len long = omega (arith, long)
most_few Dl16 len long = omega (arith, long)
most_few Dl20 len long = omega (arith, long)
most_few Dl24 len long = omega (arith, long)
most_few Dl32 len long = omega (arith, long)
most_few Dl48 len long = omega (arith, long)
most_few Dl64 len long = omega (arith, long)

eight_of : (n : ℕ) (d : DataLength) → length_of n ≡ Some d → 8 ≤ n
eight_of n d e = grind (arith, nat_tests)

two_of : (k : ℕ) (bytes : List ℕ) → k + 2 ≤ length bytes → 2 ≤ length (drop k bytes)
two_of k bytes long = grind (arith, length-drop {A = ℕ})

first_escape : (len max : ℕ) (rx_dl : DataLength) (bytes : List ℕ) → 8 ≤ length bytes → IsFirst (escape_kind len rx_dl bytes max)
first_escape len max rx_dl bytes eight = first_if (nat_le len 4095) Ignored _ (λ e. tt)
    (λ e. first_if (nat_lt max len) Overflow _ (λ f. tt)
    (λ f. record { some = two_of 6 bytes (omega (arith, eight)); long = most_few rx_dl len (above len 4095 e) }))

first_first : (len max : ℕ) (o : Option DataLength) (bytes : List ℕ) → length_of (length bytes) ≡ o → IsFirst (first_kind len o bytes max)
first_first len max None bytes is = tt
first_first len max (Some rx_dl) bytes is =
    let eight = eight_of (length bytes) rx_dl is in
    first_if (len == 0) (escape_kind (escape_length bytes) rx_dl bytes max) _ (λ f. first_escape (escape_length bytes) max rx_dl bytes eight)
    (λ f. first_if (nat_le len (single_most rx_dl)) Ignored _ (λ g. tt) (λ g. first_if (nat_lt max len) Overflow _ (λ h. tt)
    (λ h. record { some = two_of 2 bytes (omega (arith, eight)); long = above len (single_most rx_dl) g })))

first_single : (n : ℕ) (bytes : List ℕ) → IsFirst (single_kind n bytes)
first_single n bytes = first_if (nat_le (length bytes) 8) (short_single_kind n bytes) _
    (λ e. first_if (nat_le 1 n && nat_le n 7 && nat_lt n (length bytes)) _ _ (λ f. tt) (λ f. tt))
    (λ e. first_if (n == 0) (long_single_kind (slice_index bytes 1) bytes) _
    (λ f. first_if (nat_le 8 (slice_index bytes 1) && nat_le (slice_index bytes 1 + 2) (length bytes)) _ _ (λ g. tt) (λ g. tt)) (λ f. tt))

first_flow : (n : ℕ) (bytes : List ℕ) → IsFirst (flow_kind n bytes)
first_flow n bytes = first_if (nat_lt (length bytes) 3) _ _ (λ e. tt) (λ e. tt)

pub first_of_kind : (bytes : List ℕ) (max : ℕ) → IsFirst (kind bytes max)
unfolding kind
first_of_kind [] max = tt
first_of_kind (control ∷ rest) max =
    first_if (control / 16 == 0) _ _ (λ e. first_single (control % 16) (control ∷ rest))
    (λ e. first_if (control / 16 == 1) _ _ (λ f. first_first (control % 16 * 256 + slice_index (control ∷ rest) 1) max _ (control ∷ rest) refl)
    (λ f. first_if (control / 16 == 2) _ _ (λ g. tt) (λ g. first_if (control / 16 == 3) _ _ (λ h. first_flow (control % 16) (control ∷ rest)) (λ h. tt))))
