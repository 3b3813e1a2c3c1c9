-- The reply lines, tester by tester.
use Rattle.std.proofs.Common.{◌≡◌, ℕ, ◌+◌, List, [], ◌∷◌, ◌++◌, length, map, refl, sym, ap, ◌∙◌, append_assoc, append-nil, arith}
use Rattle.std.specs.List.{concat}
use Rattle.std.proofs.lemmas.List.Folds.{concat-append}
use Rattle.diag_tp.specs.declared.sent.Sent.{Sent}
use Rattle.diag_setup.specs.declared.raw.RawSetup.{RawSetup}
use Rattle.diag_bus.specs.Writing.{writer_of}
use Rattle.diag_text.specs.Text.{lines_of, lines_from}

pub lines_here : (setup : RawSetup) (text : List ℕ) (n : ℕ) (sent : List Sent) (others : List (List Sent)) (total : List ℕ)
    → text ++ lines_from setup n (sent ∷ others) ≡ total → (text ++ lines_of (writer_of setup n) sent) ++ lines_from setup (n + 1) others ≡ total
unfolding lines_from
lines_here setup text n sent others total h = append_assoc text (lines_of (writer_of setup n) sent) (lines_from setup (n + 1) others) ∙ h

pub lines_done : (setup : RawSetup) (text : List ℕ) (n : ℕ) (total : List ℕ) → text ++ lines_from setup n [] ≡ total → text ≡ total
unfolding lines_from
lines_done setup text n total h = sym (append-nil text) ∙ h

-- a part more
pub concat_more : (parts : List (List ℕ)) (part : List ℕ) → concat (parts ++ part ∷ []) ≡ concat parts ++ part
concat_more parts part = concat-append parts (part ∷ []) ∙ ap (λ text. concat parts ++ text) (append-nil part)

module _ {A : Type 0} (f : A → List Sent) (setup : RawSetup) (n : ℕ) where
  -- no tester is left
  pub no_lines : (sent : List A) → length sent ≡ 0 → [] ≡ lines_from setup n (map f sent)
  unfolding lines_from
  no_lines [] none = refl
  no_lines (x ∷ sent) none = absurd (omega arith)

  -- the lines of the first tester, and those of the others
  pub first_lines : (sent : List A) (first : A) (others : List A) → sent ≡ first ∷ others → (own rest : List ℕ) → own ≡ lines_of (writer_of setup n) (f first)
      → rest ≡ lines_from setup (n + 1) (map f others) → own ++ rest ≡ lines_from setup n (map f sent)
  unfolding lines_from
  first_lines sent first others is own rest first_own others_rest = rw (is, first_own, others_rest) refl
