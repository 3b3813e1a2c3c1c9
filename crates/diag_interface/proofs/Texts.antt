-- The text of a recording, line by line.
use Rattle.std.proofs.Common.{◌≡◌, ℕ, ◌+◌, ◌<◌, ◌≤◌, ◌==◌, nat_lt, Bool, true, false, cond, not, List, [], ◌∷◌, ◌++◌, length, map, take, drop, None, Some, refl, sym, ap, subst, ◌∙◌, arith, append_assoc, length-append, codes, suc, zero, inl, inr, ◌⊎◌, eqb-true}
use Rattle.std.specs.Prelude.{◌&&◌}
use Rattle.std.specs.List.{before_first, join_with_byte, list_all, position_or_len, slice_split}
use Rattle.std.proofs.lemmas.List.{append-nil}
use Rattle.std.proofs.Math.Seq.{drop-append-add, take-append-add}
use Rattle.std.proofs.lemmas.List.Elements.{All-append, All-cons, All-head, All-tail, All-take}
use Rattle.std.proofs.lemmas.List.Splits.{length-slice_split, slice_split_at, slice_split_none}
use Rattle.std.proofs.lemmas.List.Sums.{position_or_len_is}
use Rattle.std.proofs.lemmas.Bool.{false_from_ne_true}
use Rattle.std.proofs.lemmas.Bool.Decides.{nat_tests}
use lib.Pointwise.{pointwise}
use Rattle.memchr.specs.Find.{IsFirstByte}
use Rattle.diag_can.specs.BusLine.{HasNoFeed, bus_line, bus_lines}
use Rattle.diag_can.proofs.BusLines.{bus_lines-first, bus_lines-last}
use Rattle.diag_can.specs.Log.{is_feed}
use Rattle.diag_interface.specs.Interface.{interface_of, is_close, is_other, is_stamped, only_line, only_text, time_alone}
use Rattle.diag_interface.specs.Only.{fed_text, rest_of}

-- ---- the closing bracket

pub close_at : (line : List ℕ) (end : ℕ) → IsFirstByte is_close line (Some end) → position_or_len is_close line ≡ end
close_at line end found =
    position_or_len_is is_close line end 0 (omega (arith, found.0.high)) (λ k lt. false_from_ne_true _ (found.0.before k (omega arith) lt)) (λ _. found.1)

pub no_close : (line : List ℕ) → IsFirstByte is_close line None → position_or_len is_close line ≡ length line
no_close line none =
    position_or_len_is is_close line (length line) 0 (omega arith) (λ k lt. false_from_ne_true _ (none k (omega arith) lt))
    (λ less. absurd (omega (arith, less)))

-- ---- lines of the text

module _ (name : List ℕ) where
  joined : (line : List ℕ) (pieces : List (List ℕ)) → 0 < length pieces
      → join_with_byte 10 (map (only_line name) (line ∷ pieces)) ≡ only_line name line ++ 10 ∷ join_with_byte 10 (map (only_line name) pieces)
  joined line [] some = absurd (omega arith)
  joined line (piece ∷ pieces) some = refl

  -- the first line
  pub first_line : (line more : List ℕ) → HasNoFeed line → only_text name (line ++ 10 ∷ more) ≡ only_line name line ++ 10 ∷ only_text name more
  first_line line more none =
      ap (λ (p : List (List ℕ)). join_with_byte 10 (map (only_line name) p)) (slice_split_at is_feed line 10 more none refl)
      ∙ joined line (slice_split is_feed more) (omega (arith, length-slice_split is_feed more))

  -- a text that is one line
  pub last_line : (line : List ℕ) → HasNoFeed line → only_text name line ≡ only_line name line
  last_line line none = ap (λ (p : List (List ℕ)). join_with_byte 10 (map (only_line name) p)) (slice_split_none is_feed line none)

  -- a line that tells no time stays as it is
  stays : (line : List ℕ) → is_stamped (bus_line [] line) ≡ false → only_line name line ≡ line
  stays line fault = ap (λ b. cond b (time_alone line) line) (pick (not (pointwise ◌==◌ (interface_of line) name)) (is_stamped (bus_line [] line)) fault)
    where
      pick : (a b : Bool) → b ≡ false → (a && b) ≡ false
      pick true b is = is
      pick false b is = refl

  -- nothing is nothing
  pub nothing : only_text name [] ≡ []
  nothing = stays [] refl

  -- one that is longer than a line may be stays as it is
  pub long_line : (line : List ℕ) → 4096 < length line → only_line name line ≡ line
  long_line line long =
      let size : nat_lt 4096 (length line) ≡ true = grind (arith, nat_tests) in
      let fault : is_stamped (bus_line [] line) ≡ false = rw size refl in
      stays line fault

  -- ---- the rest of a long line

  place : (front rest : List ℕ) → HasNoFeed front → position_or_len is_feed (front ++ rest) ≡ length front + position_or_len is_feed rest
  place [] rest none = omega arith
  place (c ∷ front) rest none =
      let other : is_feed c ≡ false = All-head (λ c. is_feed c ≡ false) c front none in
      let more = place front rest (All-tail (λ c. is_feed c ≡ false) c front none) in
      rw other (omega (arith, more))

  before : (front rest : List ℕ) → HasNoFeed front → before_first is_feed (front ++ rest) ≡ front ++ before_first is_feed rest
  before front rest none = ap (λ n. take n (front ++ rest)) (place front rest none) ∙ take-append-add front rest (position_or_len is_feed rest)

  -- it goes on
  pub goes_on : (front more : List ℕ) → HasNoFeed front → rest_of name true (front ++ more) ≡ front ++ rest_of name true more
  goes_on front more none =
      let behind : drop (position_or_len is_feed (front ++ more)) (front ++ more) ≡ drop (position_or_len is_feed more) more =
      ap (λ n. drop n (front ++ more)) (place front more none) ∙ drop-append-add front more (position_or_len is_feed more) in
      ap (λ (t : List ℕ). t ++ fed_text name (drop (position_or_len is_feed (front ++ more)) (front ++ more))) (before front more none)
      ∙ (ap (λ (t : List ℕ). (front ++ before_first is_feed more) ++ fed_text name t) behind
      ∙ append_assoc front (before_first is_feed more) (fed_text name (drop (position_or_len is_feed more) more)))

  -- it ends
  pub ends : (line more : List ℕ) → HasNoFeed line → rest_of name true (line ++ 10 ∷ more) ≡ line ++ 10 ∷ only_text name more
  ends line more none = goes_on line (10 ∷ more) none

  -- ---- a line that is too long by now

  -- what stands before the first line feed, and behind it
  record Cut (text : List ℕ) : Type 0 where
    pub front : List ℕ
    pub plain : HasNoFeed front
    pub is : (text ≡ front) ⊎ ((more : List ℕ) × (text ≡ front ++ 10 ∷ more))

  cut : (text : List ℕ) → Cut text
  cut [] = record { front = []; plain = λ k d lt. absurd (omega (arith, lt)); is = inl refl }
  cut (c ∷ text) = pick (c == 10) refl (cut text)
    where
      on : (front : List ℕ) → (text ≡ front) ⊎ ((more : List ℕ) × (text ≡ front ++ 10 ∷ more))
          → (c ∷ text ≡ c ∷ front) ⊎ ((more : List ℕ) × (c ∷ text ≡ (c ∷ front) ++ 10 ∷ more))
      on front (inl same) = inl (ap (λ (t : List ℕ). c ∷ t) same)
      on front (inr rest) = inr (rest.0, ap (λ (t : List ℕ). c ∷ t) rest.1)

      pick : (b : Bool) → (c == 10) ≡ b → Cut text → Cut (c ∷ text)
      pick true feed rest =
          let first : c ≡ 10 = eqb-true c 10 feed in
          record { front = []; plain = λ k d lt. absurd (omega (arith, lt)); is = inr (text, ap (λ x. x ∷ text) first) }
      pick false other rest =
          record { front = c ∷ rest.front; plain = All-cons (λ c. is_feed c ≡ false) c rest.front other rest.plain; is = on rest.front rest.is }

  pub no_rest : (line : List ℕ) → HasNoFeed line → rest_of name true line ≡ line
  no_rest line none = ap (rest_of name true) (sym (append-nil line)) ∙ (goes_on line [] none ∙ append-nil line)

  pub too_long : (front more : List ℕ) → HasNoFeed front → 4096 < length front → only_text name (front ++ more) ≡ front ++ rest_of name true more
  too_long front more none long = pick (cut more)
    where
      whole : (rest : List ℕ) → 4096 < length (front ++ rest)
      whole rest = omega (arith, long, length-append front rest)

      plain : (rest : List ℕ) → HasNoFeed rest → HasNoFeed (front ++ rest)
      plain rest h = All-append (λ c. is_feed c ≡ false) front rest none h

      pick : Cut more → only_text name (front ++ more) ≡ front ++ rest_of name true more
      pick c = on c.is
        where
          on : (more ≡ c.front) ⊎ ((after : List ℕ) × (more ≡ c.front ++ 10 ∷ after)) → only_text name (front ++ more) ≡ front ++ rest_of name true more
          on (inl same) =
              ap (λ (t : List ℕ). only_text name (front ++ t)) same
              ∙ (last_line (front ++ c.front) (plain c.front c.plain) ∙ (long_line (front ++ c.front) (whole c.front)
              ∙ ap (λ (t : List ℕ). front ++ t) (sym (ap (rest_of name true) same ∙ no_rest c.front c.plain))))
          on (inr after) =
              ap (λ (t : List ℕ). only_text name (front ++ t)) after.1
              ∙ (ap (only_text name) (sym (append_assoc front c.front (10 ∷ after.0)))
              ∙ (first_line (front ++ c.front) after.0 (plain c.front c.plain)
              ∙ (ap (λ (t : List ℕ). t ++ 10 ∷ only_text name after.0) (long_line (front ++ c.front) (whole c.front))
              ∙ (append_assoc front c.front (10 ∷ only_text name after.0)
              ∙ ap (λ (t : List ℕ). front ++ t) (sym (ap (rest_of name true) after.1 ∙ ends c.front after.0 c.plain))))))

  -- ---- the lines of the text

  no_feed_in : (text : List ℕ) → list_all (λ c. not (is_feed c)) text ≡ true → HasNoFeed text
  no_feed_in [] h = λ k d lt. absurd (omega (arith, lt))
  no_feed_in (c ∷ text) h = pick (is_feed c) refl h (no_feed_in text)
    where
      pick : (b : Bool) → is_feed c ≡ b → (not b && list_all (λ c. not (is_feed c)) text) ≡ true
          → (list_all (λ c. not (is_feed c)) text ≡ true → HasNoFeed text) → HasNoFeed (c ∷ text)
      pick true is rest next = absurd (clash rest)
        where
          clash : false ≡ true → ⊥
          clash x = cc
      pick false is rest next = All-cons (λ c. is_feed c ≡ false) c text is (next rest)

  -- a line stays one line
  plain_line : (line : List ℕ) → HasNoFeed line → HasNoFeed (only_line name line)
  plain_line line none = pick (is_other name line)
    where
      pick : (b : Bool) → HasNoFeed (cond b (time_alone line) line)
      pick true =
          All-append (λ c. is_feed c ≡ false) (before_first is_close line) (codes ") other 000#R")
          (All-take (λ c. is_feed c ≡ false) (position_or_len is_close line) line none) (no_feed_in (codes ") other 000#R") refl)
      pick false = none

  some_line : (line : List ℕ) → 0 < length line → 0 < length (only_line name line)
  some_line line some = pick (is_other name line)
    where
      pick : (b : Bool) → 0 < length (cond b (time_alone line) line)
      pick true = omega (arith, length-append (before_first is_close line) (codes ") other 000#R"))
      pick false = some

  one_line : (line : List ℕ) → HasNoFeed line → bus_lines (only_line name line) ≡ map (only_line name) (bus_lines line)
  one_line [] none = ap bus_lines nothing
  one_line (c ∷ line) none =
      bus_lines-last (only_line name (c ∷ line)) (plain_line (c ∷ line) none) (some_line (c ∷ line) (omega arith))
      ∙ sym (ap (map (only_line name)) (bus_lines-last (c ∷ line) none (omega arith)))

  abbrev AreTurned : List ℕ → Type 0
  AreTurned text = bus_lines (only_text name text) ≡ map (only_line name) (bus_lines text)

  with_line : (line more : List ℕ) → HasNoFeed line → AreTurned more → AreTurned (line ++ 10 ∷ more)
  with_line line more none rest =
      ap bus_lines (first_line line more none)
      ∙ (bus_lines-first (only_line name line) (only_text name more) (plain_line line none)
      ∙ (ap (λ (l : List (List ℕ)). only_line name line ∷ l) rest ∙ sym (ap (map (only_line name)) (bus_lines-first line more none))))

  without_line : (line : List ℕ) → HasNoFeed line → AreTurned line
  without_line line none = ap bus_lines (last_line line none) ∙ one_line line none

  lines_by : (n : ℕ) (text : List ℕ) → length text ≤ n → AreTurned text
  lines_by zero text few = without_line text (λ k d lt. absurd (omega (arith, lt, few)))
  lines_by (suc n) text few = pick (lines_by n) (cut text)
    where
      pick : ((more : List ℕ) → length more ≤ n → AreTurned more) → Cut text → AreTurned text
      pick next c = on c.is
        where
          on : (text ≡ c.front) ⊎ ((more : List ℕ) × (text ≡ c.front ++ 10 ∷ more)) → AreTurned text
          on (inl same) = subst AreTurned (sym same) (without_line c.front c.plain)
          on (inr after) =
              let size = ap length after.1 in
              subst AreTurned (sym after.1)
              (with_line c.front after.0 c.plain (next after.0 (omega (arith, few, size, length-append c.front (10 ∷ after.0)))))

  pub lines_are : (text : List ℕ) → AreTurned text
  lines_are text = lines_by (length text) text (omega arith)
