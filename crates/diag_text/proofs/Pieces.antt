-- Taking the lines of a file: the line that is begun at the end of a piece, and what ends it.
use Rattle.std.proofs.Common.{drop, ◌≡◌, ℕ, ◌==◌, false, List, [], ◌∷◌, ◌++◌, length, refl, sym, ap, subst, ◌∙◌, append_assoc, append-nil, arith, length-append}
use Rattle.std.specs.Prelude.{Result, Ok, Err, OnOk, is_ok, if◌then◌else◌}
use Rattle.std.proofs.lemmas.List.Elements.{All-append, All-head, All-tail}
use Rattle.diag_can.specs.BusLine.{HasNoFeed}
use Rattle.diag_can.specs.Log.{is_feed}
use Rattle.diag_can.specs.Pieces.{TakesLines}
use Rattle.diag_text.specs.Taking.{LinesTaken}
pub use Rattle.diag_can.proofs.Lines.{no_feed, split_at_feed}

-- ---- what a line feed ends

fed : (xs : List ℕ) → HasNoFeed (xs ++ 10 ∷ []) → ⊥
fed [] h =
    let no : (10 == 10) ≡ false = All-head (λ c. is_feed c ≡ false) 10 [] h in
    cc no
fed (x ∷ xs) h = fed xs (All-tail (λ c. is_feed c ≡ false) x (xs ++ 10 ∷ []) h)

-- no line is begun behind a line feed
no_rest : (xs front rest : List ℕ) → xs ++ 10 ∷ [] ≡ front ++ rest → HasNoFeed rest → rest ≡ []
no_rest xs [] rest is none = absurd (fed xs (subst HasNoFeed (sym is) none))
no_rest [] (f ∷ fs) [] is none = refl
no_rest [] (f ∷ fs) (r ∷ rest) is none =
    let long = ap length is in
    absurd (omega (arith, long, length-append fs (r ∷ rest)))
no_rest (x ∷ xs) (f ∷ fs) rest is none = no_rest xs fs rest (ap (drop 1) is) none

-- ---- what is taken

module _ (P Q : List ℕ → Type 0) where
  -- the line that was begun, and that these bytes end
  pub line_taken : (line bytes kept whole rest : List ℕ) → bytes ≡ line ++ 10 ∷ [] → whole ≡ kept ++ bytes → TakesLines P Q whole rest
      → (seen : List ℕ) → P seen → Q (seen ++ (kept ++ bytes))
  line_taken line bytes kept whole rest ends is t seen h =
      let all : (kept ++ line) ++ 10 ∷ [] ≡ t.front ++ rest =
      append_assoc kept line (10 ∷ []) ∙ ap (λ (b : List ℕ). kept ++ b) (sym ends) ∙ sym is ∙ t.is in
      let none : rest ≡ [] = no_rest (kept ++ line) t.front rest all t.begun in
      let same : kept ++ bytes ≡ t.front = sym is ∙ t.is ∙ ap (λ (r : List ℕ). t.front ++ r) none ∙ append-nil t.front in
      subst (λ (x : List ℕ). Q (seen ++ x)) (sym same) (t.takes seen h)

  -- a piece behind which the line that was begun still is
  begun_more : (begun seen piece new : List ℕ) → HasNoFeed piece → new ≡ begun ++ piece → LinesTaken P begun seen → LinesTaken P new (seen ++ piece)
  begun_more begun seen piece new none is h = record {
    lines = h.lines;
    took = h.took;
    is = ap (λ (s : List ℕ). s ++ piece) h.is ∙ append_assoc h.lines begun piece ∙ ap (λ (b : List ℕ). h.lines ++ b) (sym is);
    unended = subst HasNoFeed (sym is) (All-append (λ c. is_feed c ≡ false) begun piece h.unended none);
  }

  -- the same where there is room for it
  pub begun_on : {T E : Type 0} (r : Result T E) (begun piece new : List ℕ) → HasNoFeed piece → new ≡ (if is_ok r then begun ++ piece else begun)
      → OnOk r ((seen : List ℕ) → LinesTaken P begun seen → LinesTaken P new (seen ++ piece))
  begun_on (Ok u) begun piece new none is = λ seen h. begun_more begun seen piece new none is h
  begun_on (Err e) begun piece new none is = tt
