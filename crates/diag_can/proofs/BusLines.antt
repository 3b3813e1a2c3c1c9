-- The lines of a capture that comes piece by piece.
use Rattle.std.proofs.Common.{◌≡◌, ℕ, ◌<◌, ◌==◌, false, List, [], ◌∷◌, ◌++◌, length, refl, sym, ap, ◌∙◌, arith, append_assoc, inl, inr}
use Rattle.std.specs.List.{slice_split, onto_first}
use Rattle.std.proofs.lemmas.List.{append-nil, length-append}
use Rattle.std.proofs.lemmas.List.Elements.{All-append, All-cons, All-head, All-tail}
use Rattle.std.proofs.lemmas.List.Splits.{length-slice_split, slice_split_at, slice_split_none, slice_split-cons_yes, slice_split-cons_no}
use Rattle.std.proofs.lemmas.Bool.{cases_Bool}
use Rattle.std.proofs.lemmas.Bool.Decides.{nat_tests}
use Rattle.diag_can.specs.BusLine.{HasNoFeed, begun_line, bus_lines, ended_lines, front_pieces, last_piece, whole_pieces}
use Rattle.diag_can.specs.Log.{is_feed}

abbrev plain_byte : ℕ → Type 0
plain_byte c = is_feed c ≡ false

-- ---- the pieces of a text and of what follows it

some_piece : (text : List ℕ) → 0 < length (slice_split is_feed text)
some_piece text = omega (arith, length-slice_split is_feed text)

fed : (pieces : List (List ℕ)) (rest : List ℕ) → 0 < length pieces
    → [] ∷ (front_pieces pieces ++ slice_split is_feed (last_piece pieces ++ rest))
    ≡ front_pieces ([] ∷ pieces) ++ slice_split is_feed (last_piece ([] ∷ pieces) ++ rest)
fed [] rest some = absurd (omega arith)
fed (piece ∷ pieces) rest some = refl

not_fed : (c : ℕ) (pieces : List (List ℕ)) (rest : List ℕ) → is_feed c ≡ false → 0 < length pieces
    → onto_first c (front_pieces pieces ++ slice_split is_feed (last_piece pieces ++ rest))
    ≡ front_pieces (onto_first c pieces) ++ slice_split is_feed (last_piece (onto_first c pieces) ++ rest)
not_fed c [] rest plain some = absurd (omega arith)
not_fed c (piece ∷ []) rest plain some = sym (slice_split-cons_no is_feed c (piece ++ rest) plain)
not_fed c (piece ∷ next ∷ pieces) rest plain some = refl

-- what follows a text is split with the piece that was begun
slice_split-more : (text rest : List ℕ)
    → slice_split is_feed (text ++ rest) ≡ front_pieces (slice_split is_feed text) ++ slice_split is_feed (last_piece (slice_split is_feed text) ++ rest)
slice_split-more [] rest = refl
slice_split-more (c ∷ text) rest =
    let pieces = slice_split is_feed text in
    let more = slice_split-more text rest in
    elim (cases_Bool (is_feed c)) [
      | inl is_fed ↦ rw (slice_split-cons_yes is_feed c (text ++ rest) is_fed, slice_split-cons_yes is_feed c text is_fed, more)
          (fed pieces rest (some_piece text))
      | inr plain ↦ rw (slice_split-cons_no is_feed c (text ++ rest) plain, slice_split-cons_no is_feed c text plain, more)
          (not_fed c pieces rest plain (some_piece text))
    ]

last_onto : (c : ℕ) (pieces : List (List ℕ)) → is_feed c ≡ false → HasNoFeed (last_piece pieces) → HasNoFeed (last_piece (onto_first c pieces))
last_onto c [] plain h = All-cons plain_byte c [] plain h
last_onto c (piece ∷ []) plain h = All-cons plain_byte c piece plain h
last_onto c (piece ∷ next ∷ pieces) plain h = h

last_fed : (pieces : List (List ℕ)) → 0 < length pieces → HasNoFeed (last_piece pieces) → HasNoFeed (last_piece ([] ∷ pieces))
last_fed [] some h = h
last_fed (piece ∷ pieces) some h = h

no_feed_in_last : (text : List ℕ) → HasNoFeed (last_piece (slice_split is_feed text))
no_feed_in_last [] = λ k d less. absurd (omega arith)
no_feed_in_last (c ∷ text) =
    elim (cases_Bool (is_feed c)) [
      | inl is_fed ↦ rw (slice_split-cons_yes is_feed c text is_fed) (last_fed (slice_split is_feed text) (some_piece text) (no_feed_in_last text))
      | inr plain ↦ rw (slice_split-cons_no is_feed c text plain) (last_onto c (slice_split is_feed text) plain (no_feed_in_last text))
    ]

-- the line that is begun has no line feed
pub no_feed_in_begun : (text : List ℕ) → HasNoFeed (begun_line text)
unfolding begun_line
no_feed_in_begun text = no_feed_in_last text

-- ---- lists of pieces

front_pieces-append : (pieces : List (List ℕ)) (last : List ℕ) → front_pieces (pieces ++ last ∷ []) ≡ pieces
front_pieces-append [] last = refl
front_pieces-append (piece ∷ []) last = refl
front_pieces-append (piece ∷ next ∷ pieces) last = ap (λ (l : List (List ℕ)). piece ∷ l) (front_pieces-append (next ∷ pieces) last)

last_piece-append : (pieces : List (List ℕ)) (last : List ℕ) → last_piece (pieces ++ last ∷ []) ≡ last
last_piece-append [] last = refl
last_piece-append (piece ∷ []) last = refl
last_piece-append (piece ∷ next ∷ pieces) last = last_piece-append (next ∷ pieces) last

whole_pieces-append : (front pieces : List (List ℕ)) → 0 < length pieces → whole_pieces (front ++ pieces) ≡ front ++ whole_pieces pieces
whole_pieces-append [] pieces some = refl
whole_pieces-append (line ∷ []) [] some = absurd (omega arith)
whole_pieces-append (line ∷ []) (piece ∷ pieces) some = refl
whole_pieces-append (line ∷ next ∷ front) pieces some = ap (λ (l : List (List ℕ)). line ∷ l) (whole_pieces-append (next ∷ front) pieces some)

-- ---- lines

-- a line feed ends the first line
pub bus_lines-first : (line rest : List ℕ) → HasNoFeed line → bus_lines (line ++ 10 ∷ rest) ≡ line ∷ bus_lines rest
bus_lines-first line rest none =
    rw (slice_split_at is_feed line 10 rest none refl) (whole_pieces-append (line ∷ []) (slice_split is_feed rest) (some_piece rest))

one_piece : (line : List ℕ) → 0 < length line → whole_pieces (line ∷ []) ≡ line ∷ []
one_piece line some =
    let filled : (length line == 0) ≡ false = grind (arith, nat_tests) in rw filled refl

-- a last line is one without a line feed
pub bus_lines-last : (line : List ℕ) → HasNoFeed line → 0 < length line → bus_lines line ≡ line ∷ []
bus_lines-last line none some = rw (slice_split_none is_feed line none) (one_piece line some)

-- what follows a text goes on with the line that was begun
pub bus_lines-more : (text rest : List ℕ) → bus_lines (text ++ rest) ≡ ended_lines text ++ bus_lines (begun_line text ++ rest)
unfolding ended_lines begun_line
bus_lines-more text rest =
    rw (slice_split-more text rest)
    (whole_pieces-append (front_pieces (slice_split is_feed text)) (slice_split is_feed (last_piece (slice_split is_feed text) ++ rest))
    (some_piece (last_piece (slice_split is_feed text) ++ rest)))

-- where no line is begun, each line has its line feed
pub bus_lines-ended : (text : List ℕ) → begun_line text ≡ [] → bus_lines text ≡ ended_lines text
bus_lines-ended text none =
    let whole : bus_lines (text ++ []) ≡ ended_lines text ++ bus_lines (begun_line text ++ []) = bus_lines-more text [] in
    let last : bus_lines (begun_line text ++ []) ≡ [] = rw none refl in
    ap bus_lines (sym (append-nil text)) ∙ (whole ∙ (ap (λ (l : List (List ℕ)). ended_lines text ++ l) last ∙ append-nil (ended_lines text)))

-- the line that is begun is the last
pub bus_lines-begun : (text : List ℕ) → 0 < length (begun_line text) → bus_lines text ≡ ended_lines text ++ begun_line text ∷ []
bus_lines-begun text some =
    let whole : bus_lines (text ++ []) ≡ ended_lines text ++ bus_lines (begun_line text ++ []) = bus_lines-more text [] in
    let last : bus_lines (begun_line text ++ []) ≡ begun_line text ∷ [] =
    ap bus_lines (append-nil (begun_line text)) ∙ bus_lines-last (begun_line text) (no_feed_in_begun text) some in
    ap bus_lines (sym (append-nil text)) ∙ (whole ∙ ap (λ (l : List (List ℕ)). ended_lines text ++ l) last)

-- ---- a line that goes on

-- the pieces begin with one that begins with this line
pub record BeginsWith (line : List ℕ) (pieces : List (List ℕ)) : Type 0 where
  pub more : List ℕ
  pub others : List (List ℕ)
  pub are : pieces ≡ (line ++ more) ∷ others

begins_with_none : (pieces : List (List ℕ)) → 0 < length pieces → BeginsWith [] pieces
begins_with_none [] some = absurd (omega arith)
begins_with_none (piece ∷ pieces) some = record { more = piece; others = pieces; are = refl }

pieces_begin : (line rest : List ℕ) → HasNoFeed line → BeginsWith line (slice_split is_feed (line ++ rest))
pieces_begin [] rest none = begins_with_none (slice_split is_feed rest) (some_piece rest)
pieces_begin (c ∷ line) rest none =
    let one = pieces_begin line rest (All-tail plain_byte c line none) in
    record {
      more = one.more;
      others = one.others;
      are = slice_split-cons_no is_feed c (line ++ rest) (All-head plain_byte c line none) ∙ ap (onto_first c) one.are;
    }

whole_begins : (line : List ℕ) (pieces : List (List ℕ)) → 0 < length line → BeginsWith line pieces → BeginsWith line (whole_pieces pieces)
whole_begins line pieces some begins = rw begins.are (first begins.others) where
  first : (others : List (List ℕ)) → BeginsWith line (whole_pieces ((line ++ begins.more) ∷ others))
  first [] =
      let grown : 0 < length (line ++ begins.more) = simp length-append (omega arith) in
      record { more = begins.more; others = []; are = one_piece (line ++ begins.more) grown }
  first (next ∷ others) = record { more = begins.more; others = whole_pieces (next ∷ others); are = refl }

-- whatever follows it, the first line begins with what was begun
pub bus_lines-begin : (line rest : List ℕ) → HasNoFeed line → 0 < length line → BeginsWith line (bus_lines (line ++ rest))
bus_lines-begin line rest none some = whole_begins line (slice_split is_feed (line ++ rest)) some (pieces_begin line rest none)

-- ---- a text that grows

module _ (text line : List ℕ) (none : HasNoFeed line) where
  grown : HasNoFeed (begun_line text ++ line)
  grown = All-append plain_byte (begun_line text) line (no_feed_in_begun text) none

  split_begun : slice_split is_feed (text ++ line) ≡ ended_lines text ++ (begun_line text ++ line) ∷ []
  unfolding ended_lines begun_line
  split_begun = slice_split-more text line ∙ ap (λ (l : List (List ℕ)). ended_lines text ++ l) (slice_split_none is_feed (begun_line text ++ line) grown)

  -- bytes without a line feed end no line
  pub ended_lines-begun : ended_lines (text ++ line) ≡ ended_lines text
  unfolding ended_lines begun_line
  ended_lines-begun = ap front_pieces split_begun ∙ front_pieces-append (ended_lines text) (begun_line text ++ line)

  pub begun_line-begun : begun_line (text ++ line) ≡ begun_line text ++ line
  unfolding ended_lines begun_line
  begun_line-begun = ap last_piece split_begun ∙ last_piece-append (ended_lines text) (begun_line text ++ line)

  split_line : slice_split is_feed (text ++ (line ++ 10 ∷ [])) ≡ (ended_lines text ++ (begun_line text ++ line) ∷ []) ++ [] ∷ []
  unfolding ended_lines begun_line
  split_line =
      slice_split-more text (line ++ 10 ∷ [])
      ∙ (ap (λ (l : List ℕ). ended_lines text ++ slice_split is_feed l) (sym (append_assoc (begun_line text) line (10 ∷ [])))
      ∙ (ap (λ (l : List (List ℕ)). ended_lines text ++ l) (slice_split_at is_feed (begun_line text ++ line) 10 [] grown refl)
      ∙ sym (append_assoc (ended_lines text) ((begun_line text ++ line) ∷ []) ([] ∷ []))))

  -- a line feed ends the line that was begun
  pub ended_lines-line : ended_lines (text ++ (line ++ 10 ∷ [])) ≡ ended_lines text ++ (begun_line text ++ line) ∷ []
  unfolding ended_lines
  ended_lines-line = ap front_pieces split_line ∙ front_pieces-append (ended_lines text ++ (begun_line text ++ line) ∷ []) []

  pub begun_line-line : begun_line (text ++ (line ++ 10 ∷ [])) ≡ []
  unfolding begun_line
  begun_line-line = ap last_piece split_line ∙ last_piece-append (ended_lines text ++ (begun_line text ++ line) ∷ []) []
