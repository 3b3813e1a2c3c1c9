-- A well `tick` line at the front of a text.
use Rattle.std.proofs.Common.{◌≡◌, ◌==◌, ◌&&◌, ◌⊎◌, ℕ, ◌+◌, ◌-◌, ◌<◌, ◌≤◌, Bool, true, false, cond, List, [], ◌∷◌, ◌++◌, append_assoc, length, length-append, take, drop, get_or, Some, None, Ok, refl, subst, sym, ap, ◌∙◌, add-one, arith, inl, inr, drop-cons, get_or-take, take-append-drop, length-take-le}
use Rattle.std.specs.List.{AllPass, list_all, prefix_len}
use Rattle.std.specs.Prelude.{All, not}
use Rattle.std.proofs.lemmas.Bool.{cases_Bool, eqb-true}
use Rattle.std.proofs.lemmas.Bool.Decides.{nat_tests}
use Rattle.std.proofs.lemmas.List.Elements.{All-append, All-cons, All-nil}
use Rattle.std.proofs.lemmas.List.Sums.{AllPass-from_list_all, list_all-from_AllPass, prefix_len-le-length}
use Rattle.diag_can.specs.BusLine.{HasNoFeed, IsFirstLine}
use Rattle.diag_can.specs.Line.{is_decimal, line_says, tick_count, ticks_of}
use Rattle.diag_can.specs.Log.{is_feed, without_return}
use Rattle.diag_can.specs.Stamp.{behind, decimal_value, is_digit}
use Rattle.diag_can.specs.declared.bus_line.BusLine.TheVariants.{Ticks}
use Rattle.diag_can.specs.declared.frame.KnownId.{KnownId}
use Rattle.diag_can.proofs.Fronts.{front_is, without_its_cr}
use Rattle.diag_can.proofs.Runs.{run-passes}
use Rattle.diag_can.proofs.UsualLines.{bus_line-short}

-- ---- the count at the front of a text

pub begins : (byte : ℕ) (xs rest : List ℕ) → behind byte xs ≡ Some rest → xs ≡ byte ∷ rest
begins byte [] rest is = cc is
begins byte (c ∷ xs) rest is =
    elim (c == byte) as (λ b. (c == byte) ≡ b → cond b (Some xs) None ≡ Some rest → c ∷ xs ≡ byte ∷ rest) [
      | true ↦ λ same some.
          let first : c ≡ byte = eqb-true c byte same in
          let others : xs ≡ rest = cc some in
          rw (first, others) refl
      | false ↦ λ _ none. cc none
    ] refl is

decimal_from : (t : List ℕ) → 0 < length t → (get_or t 0 0 == 48) ≡ false → list_all is_digit t ≡ true → is_decimal t ≡ true
decimal_from [] some first all = absurd (omega arith)
decimal_from (c ∷ t) some first all = let begins : (c == 48) ≡ false = first in rw (begins, all) refl

-- the digits behind a space say it
pub count_said : (digits : List ℕ) (run n : ℕ) → run ≡ prefix_len is_digit digits → 1 ≤ run → (get_or digits 0 0 == 48) ≡ false
    → ticks_of (decimal_value (take run digits)) ≡ Some n → tick_count (take (run + 1) (32 ∷ digits)) ≡ Some n
count_said digits run n is some first ticks =
    let fits : run ≤ length digits = omega (arith, is, prefix_len-le-length is_digit digits) in
    let all : AllPass is_digit (take run digits) = rw is (run-passes is_digit digits) in
    let decimal = decimal_from (take run digits) (omega (arith, length-take-le run digits fits))
    (ap (λ (c : ℕ). c == 48) (get_or-take run digits 0 0 some) ∙ first) (list_all-from_AllPass is_digit (take run digits) all) in
    let whole : take (run + 1) (32 ∷ digits) ≡ 32 ∷ take run digits = rw (add-one run) refl in
    rw (whole, decimal) ticks

-- ---- no line ends in it

abbrev IsPlain : ℕ → Type 0
IsPlain c = (is_feed c ≡ false) × ((13 == c) ≡ false)

above : (c : ℕ) → 13 < c → IsPlain c
above c lt = (grind (arith, nat_tests), grind (arith, nat_tests))

digit_above : (c : ℕ) → is_digit c ≡ true → 13 < c
digit_above c digit = grind (arith, nat_tests)

digits_plain : (digits : List ℕ) → is_decimal digits ≡ true → All IsPlain digits
digits_plain [] is = All-nil IsPlain
digits_plain (c ∷ digits) is =
    let all : list_all is_digit (c ∷ digits) ≡ true = both (not (c == 48)) (list_all is_digit (c ∷ digits)) is in
    let each = AllPass-from_list_all is_digit (c ∷ digits) all in
    λ k d lt. above (get_or (c ∷ digits) k d) (digit_above (get_or (c ∷ digits) k d) (each k d lt))
  where
    both : (a b : Bool) → (a && b) ≡ true → b ≡ true
    both true b is = is
    both false b is = cc is

count_plain : (t : List ℕ) (n : ℕ) → tick_count t ≡ Some n → All IsPlain t
count_plain [] n is = All-nil IsPlain
count_plain (c ∷ digits) n is =
    elim (cases_Bool ((c == 32) && is_decimal digits)) [
      | inl well ↦
          let parts = both (c == 32) (is_decimal digits) well in
          let space : c ≡ 32 = eqb-true c 32 parts.0 in
          All-cons IsPlain c digits (above c (omega (arith, space))) (digits_plain digits parts.1)
      | inr not ↦ let none : None ≡ Some n = rw not at is in cc none
    ]
  where
    both : (a b : Bool) → (a && b) ≡ true → (a ≡ true) × (b ≡ true)
    both true b is = (refl, is)
    both false b is = cc is

without_cr : (line : List ℕ) → 0 < length line → All IsPlain line → without_return line ≡ line
without_cr line some plain =
    let last = drop-cons line (length line - 1) 0 (omega arith) in
    let other : (13 == get_or line (length line - 1) 0) ≡ false = (plain (length line - 1) 0 (omega arith)).1 in
    rw (last, other) refl

-- ---- the line

-- behind the four letters the count and an LF, or a CR and an LF
module _ (rest after : List ℕ) (len count : ℕ) (well : tick_count (take len rest) ≡ Some count) (fits : len ≤ length rest) (few : len ≤ 13) where
  abbrev line : List ℕ
  line = 116 ∷ 105 ∷ 99 ∷ 107 ∷ take len rest

  abbrev text : List ℕ
  text = 116 ∷ 105 ∷ 99 ∷ 107 ∷ rest

  plain : All IsPlain line
  plain =
      let last = All-cons IsPlain 107 (take len rest) (refl, refl) (count_plain (take len rest) count well) in
      All-cons IsPlain 116 (105 ∷ 99 ∷ 107 ∷ take len rest) (refl, refl)
      (All-cons IsPlain 105 (99 ∷ 107 ∷ take len rest) (refl, refl) (All-cons IsPlain 99 (107 ∷ take len rest) (refl, refl) last))

  line_plain : HasNoFeed line
  line_plain = λ k d lt. (plain k d lt).0

  size : length line ≡ len + 4
  size = omega (arith, length-take-le len rest fits)

  line_is : (known : List KnownId) → line_says known line ≡ Ok (Ticks count)
  line_is known = rw well refl

  is_front : (whole : List ℕ) → text ≡ whole ++ 10 ∷ after → HasNoFeed whole → length whole ≤ 4096 → without_return whole ≡ line
      → (known : List KnownId) → IsFirstLine known text (take (length text - length after - 1) text) after (Some (Ticks count))
  is_front whole is none short same known =
      subst (λ (w : List ℕ). IsFirstLine known text w after (Some (Ticks count))) (sym (front_is text whole after is)) (record {
        is = is;
        plain = none;
        says = bus_line-short known whole line (Ticks count) short (sym same) (line_is known);
      })

  pub ticks_line : (drop len rest ≡ 10 ∷ after) ⊎ (drop len rest ≡ 13 ∷ 10 ∷ after)
      → (known : List KnownId) → IsFirstLine known text (take (length text - length after - 1) text) after (Some (Ticks count))
  ticks_line (inl feed) =
      is_front line (ap (λ (t : List ℕ). 116 ∷ 105 ∷ 99 ∷ 107 ∷ t) (sym (take-append-drop len rest) ∙ ap (λ (t : List ℕ). take len rest ++ t) feed))
      line_plain (omega (arith, size)) (without_cr line (omega (arith, size)) plain)
  ticks_line (inr ends) =
      is_front (line ++ 13 ∷ [])
      (ap (λ (t : List ℕ). 116 ∷ 105 ∷ 99 ∷ 107 ∷ t)
      (sym (take-append-drop len rest) ∙ ap (λ (t : List ℕ). take len rest ++ t) ends ∙ sym (append_assoc (take len rest) (13 ∷ []) (10 ∷ after))))
      (All-append (λ c. is_feed c ≡ false) line (13 ∷ []) line_plain (All-cons (λ c. is_feed c ≡ false) 13 [] refl (All-nil (λ c. is_feed c ≡ false))))
      (omega (arith, size, length-append line (13 ∷ []))) (without_its_cr line)

-- ---- the letters in front of it

pub letters : (text : List ℕ) → 4 ≤ length text → get_or text 0 0 ≡ 116 → get_or text 1 0 ≡ 105 → get_or text 2 0 ≡ 99 → get_or text 3 0 ≡ 107
    → text ≡ 116 ∷ 105 ∷ 99 ∷ 107 ∷ drop 4 text
letters [] some a b c d = absurd (omega arith)
letters (p ∷ []) some a b c d = absurd (omega arith)
letters (p ∷ q ∷ []) some a b c d = absurd (omega arith)
letters (p ∷ q ∷ r ∷ []) some a b c d = absurd (omega arith)
letters (p ∷ q ∷ r ∷ s ∷ text) some a b c d =
    let t : p ≡ 116 = a in
    let i : q ≡ 105 = b in
    let c' : r ≡ 99 = c in
    let k : s ≡ 107 = d in rw (t, i, c', k) refl
