-- The bytes of a message beside their marks.
use Rattle.std.proofs.Common.{◌≡◌, ℕ, zero, suc, ◌*◌, Option, None, Some, List, [], ◌∷◌, drop, length, length-append, true, false, refl, ap, sym, ◌∙◌, arith}
use Rattle.std.specs.Prelude.{min, ◌==◌, if◌then◌else◌, codes}
use Rattle.hex.proofs.HexLemmas.{length-encode_with}
use Rattle.hex.specs.Hex.{encode_upper, encode_with, upper_digits}
use Rattle.diag_told.specs.Told.{byte_text, bytes_text, message_text, reply_text}

pub unmarked : (bytes : List ℕ) → bytes_text [] bytes ≡ encode_upper bytes
unfolding encode_with
unmarked [] = refl
unmarked (b ∷ bytes) = refl

-- behind the last mark, and behind the last byte
pub end_marked : (marks bytes : List ℕ) (n : ℕ) → n ≡ min (length marks) (length bytes)
    → bytes_text (drop n marks) (drop n bytes) ≡ encode_upper (drop n bytes)
unfolding encode_with
end_marked [] bytes zero e = unmarked bytes
end_marked [] bytes (suc n) e = absurd (omega (arith, e))
end_marked (m ∷ marks) [] zero e = refl
end_marked (m ∷ marks) [] (suc n) e = absurd (omega (arith, e))
end_marked (m ∷ marks) (b ∷ bytes) zero e = absurd (omega (arith, e))
end_marked (m ∷ marks) (b ∷ bytes) (suc n) e = end_marked marks bytes n (omega (arith, e))

-- by how many bytes a message is told
pub message_count : (message : Option (List ℕ)) (bytes : List ℕ) → message ≡ Some bytes → 2 * length bytes ≡ length (message_text message)
message_count message bytes is = sym (length-encode_with upper_digits bytes) ∙ ap (λ (m : Option (List ℕ)). length (message_text m)) (sym is)

two_count : (m b : ℕ) → length (byte_text m b) ≡ 2
two_count m b = elim (m == 2) as (λ t. length (if t then codes "??" else encode_upper (b ∷ [])) ≡ 2) [
  | true ↦ refl
  | false ↦ length-encode_with upper_digits (b ∷ [])
]

-- by how many bytes a reply is told, whatever varies
pub marked_count : (ms bytes : List ℕ) → length (bytes_text ms bytes) ≡ 2 * length bytes
marked_count ms [] = omega arith
marked_count [] (b ∷ bytes) = length-encode_with upper_digits (b ∷ bytes)
marked_count (m ∷ ms) (b ∷ bytes) =
    omega (arith, length-append (byte_text m b) (bytes_text ms bytes), marked_count ms bytes, two_count m b)

pub reply_count : (ms : List ℕ) (reply : Option (List ℕ)) → length (message_text reply) ≡ length (reply_text ms reply)
reply_count ms None = refl
reply_count ms (Some bytes) = length-encode_with upper_digits bytes ∙ sym (marked_count ms bytes)
