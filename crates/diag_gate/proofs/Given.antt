-- Entries beside their delays: what a door over a lock has given.
use Rattle.std.proofs.Common.{◌≡◌, ℕ, suc, false, Bool, List, [], ◌∷◌, ◌++◌, length, refl, sym, ap, ◌∙◌, arith, ◌↔◌}
use Rattle.std.specs.Prelude.{IsTrue}
use Rattle.diag_desk.specs.Timed.{Timed}
use Rattle.diag_desk.specs.declared.entry.Entry.{Entry}
use Rattle.diag_gate.specs.Views.{timed_by}

pub length-timed_by : (entries : List Entry) (delays : List ℕ) → length delays ≡ length entries → length (timed_by entries delays) ≡ length entries
length-timed_by [] delays same = refl
length-timed_by (e ∷ entries) [] same = absurd (omega arith)
length-timed_by (e ∷ entries) (n ∷ delays) same =
    let rest : length delays ≡ length entries = omega arith in ap suc (length-timed_by entries delays rest)

pub timed_by-append : (entries : List Entry) (delays : List ℕ) (e : Entry) (n : ℕ) → length delays ≡ length entries
    → timed_by (entries ++ e ∷ []) (delays ++ n ∷ []) ≡ timed_by entries delays ++ record { entry = e; after = n } ∷ []
timed_by-append [] [] e n same = refl
timed_by-append [] (m ∷ delays) e n same = absurd (omega arith)
timed_by-append (x ∷ entries) [] e n same = absurd (omega arith)
timed_by-append (x ∷ entries) (m ∷ delays) e n same =
    let rest : length delays ≡ length entries = omega arith in
    ap (λ (l : List Timed). record { entry = x; after = m } ∷ l) (timed_by-append entries delays e n rest)

-- where a journal isn't full, what was given isn't either
pub not_full : (told : Bool) (entries : List Entry) (delays : List ℕ) (most : ℕ) → told ≡ false → (IsTrue told ↔ (length entries ≡ most))
    → length delays ≡ length entries → length (timed_by entries delays) ≡ most → ⊥
not_full told entries delays most off full same is =
    apart told off (full.1 (sym (length-timed_by entries delays same) ∙ is))
  where
    apart : (told : Bool) → told ≡ false → IsTrue told → ⊥
    apart told off on = cc
