-- Room for frames, and how many frames a message has.
use Rattle.std.proofs.Common.{◌≡◌, ◌≤◌, ◌<◌, ℕ, ◌+◌, ◌-◌, ◌*◌, ◌/◌, Bool, true, false, List, length, refl, subst, sym, arith}
use Rattle.std.specs.Prelude.{IsTrue, nat_le, if◌then◌else◌}
use Rattle.std.proofs.Math.Nat.{div-mul-le_self, mul-le-mul_left}
use Rattle.std.proofs.lemmas.Nat.{le-div}
use Rattle.std.proofs.lemmas.Bool.Decides.{nat_tests}
use Rattle.diag_pdu.specs.declared.length.DataLength.{DataLength}
use Rattle.diag_pdu.specs.declared.length.DataLength.TheVariants.{Dl8, Dl12, Dl16, Dl20, Dl24, Dl32, Dl48, Dl64}
use Rattle.diag_pdu.specs.Cut.{frames_of}
use Rattle.diag_pdu.specs.Length.{in_bytes}
use Rattle.diag_tp.specs.SentFrames.{HasRoom, SentList}
use Rattle.diag_tp.specs.State.{LinkState}
use Rattle.diag_port.specs.Port.{HasRoomFor}

-- ---- room

-- of a link with the same settings, room for fewer frames
pub room_fewer : (old new : LinkState) (n m : ℕ) (out : SentList) → new.setup ≡ old.setup → m ≤ n → HasRoomFor old n out → HasRoomFor new m out
room_fewer old new n m out same le room =
    subst (λ s. HasRoom s.framing.tx_dl m out) (sym same) (omega (arith, room.0, le), room.1)

-- one frame took its room
pub room_taken : (old new : LinkState) (n m : ℕ) (out out' : SentList) → new.setup ≡ old.setup → n ≡ m + 1 → out.room ≡ out'.room + 1
    → out'.is_long ≡ out.is_long → HasRoomFor old n out → HasRoomFor new m out'
room_taken old new n m out out' same one less long room =
    subst (λ s. HasRoom s.framing.tx_dl m out') (sym same) (omega (arith, room.0, one, less), λ is. subst (λ b. IsTrue b) (sym long) (room.1 is))

-- ---- frames

-- a First and its Consecutives of b bytes are no more than those of 8
fewer : (b n : ℕ) → 8 ≤ b → b ≤ 64 → b - 2 < n → (n - (if nat_le n 4095 then b - 2 else b - 6) + (b - 2)) / (b - 1) ≤ (n - (if nat_le n 4095 then 6 else 2) + 6) / 7
fewer b n least most more = by_head (nat_le n 4095) refl
  where
    less : (p q : ℕ) → p ≤ q → p / (b - 1) ≤ q / 7
    less p q le =
        let times : p / (b - 1) * 7 ≤ p / (b - 1) * (b - 1) = mul-le-mul_left (p / (b - 1)) (omega (arith, least)) in
        le-div (p / (b - 1)) q 7 (omega arith) (omega (arith, times, div-mul-le_self p (b - 1), le))

    by_head : (t : Bool) → nat_le n 4095 ≡ t → (n - (if t then b - 2 else b - 6) + (b - 2)) / (b - 1) ≤ (n - (if t then 6 else 2) + 6) / 7
    by_head true e = less _ _ (omega (arith, least, more))
    by_head false e = less _ _ (grind (arith, nat_tests))

-- longer frames are no more
pub frames_fewer : (d : DataLength) (P : List ℕ) → frames_of d P ≤ frames_of Dl8 P
frames_fewer Dl8 P = omega arith
frames_fewer Dl12 P = let h = fewer 12 (length P) in grind (arith, nat_tests, h)
frames_fewer Dl16 P = let h = fewer 16 (length P) in grind (arith, nat_tests, h)
frames_fewer Dl20 P = let h = fewer 20 (length P) in grind (arith, nat_tests, h)
frames_fewer Dl24 P = let h = fewer 24 (length P) in grind (arith, nat_tests, h)
frames_fewer Dl32 P = let h = fewer 32 (length P) in grind (arith, nat_tests, h)
frames_fewer Dl48 P = let h = fewer 48 (length P) in grind (arith, nat_tests, h)
frames_fewer Dl64 P = let h = fewer 64 (length P) in grind (arith, nat_tests, h)
