-- What it means that an exchange agrees.
use Rattle.std.proofs.Common.{◌≡◌, ◌≤◌, ◌<◌, ◌⊎◌, inl, inr, ℕ, zero, suc, ◌+◌, Bool, true, false, Option, Some, None, List, [], ◌∷◌, ◌++◌, length, take, drop, refl, ap, subst, sym, ◌∙◌, arith, eq-eqb, ne_eqb}
use Rattle.std.proofs.lemmas.Bool.{and_from, eqb-true, or_cases, or_left, or_right}
use Rattle.std.proofs.lemmas.List.Sorted.{IsPermutation-cons, IsPermutation-middle, IsPermutation-refl, IsPermutation-sym, IsPermutation-trans, sum_by-IsPermutation}
use Rattle.std.proofs.lemmas.Slice.Eq.{bytes_eq-Decides}
use Rattle.std.specs.List.Sorted.{IsPermutation}
use Rattle.std.specs.Prelude.{not, slice_index, ◌&&◌, ◌||◌, ◌==◌}
use Rattle.std.specs.Str.{bytes_eq}
use Rattle.diag_exchange.specs.Agreeing.{agrees, answers_as, lists_records, marks, records, same_but, same_byte, same_in_any_order, same_records, same_reply, times}
use Rattle.diag_exchange.specs.Asking.{says_pending}
use Rattle.diag_exchange.specs.Meaning.{IsAnswer, Means, SameBytes, SameList}
use Rattle.diag_exchange.specs.declared.happening.Expected.{Expected}
use Rattle.diag_exchange.specs.declared.happening.Heard.{Heard}
use Rattle.diag_exchange.specs.Over.{Over, Exchange, Unasked}
use Rattle.diag_exchange.proofs.Lists.{and_true, not_true}
use Rattle.diag_exchange.proofs.Sorted.{all_often, least_itself, often_all, one_if, times_more}

-- ---- bytes that vary

same_here : (mark x y : ℕ) → same_byte mark x y ≡ true → mark ≡ 0 → x ≡ y
same_here mark x y e zero_mark = eqb-true x y (ap (λ m. not (m == 0) || (x == y)) (sym zero_mark) ∙ e)

each_plain : (xs ys : List ℕ) → same_but [] xs ys ≡ true → (length xs ≡ length ys) × ((i : ℕ) → i < length ys → slice_index xs i ≡ slice_index ys i)
each_plain [] [] e = (refl, λ i l. absurd (omega (arith, l)))
each_plain [] (y ∷ ys) e = cc
each_plain (x ∷ xs) [] e = cc
each_plain (x ∷ xs) (y ∷ ys) e =
    let both = and_true (x == y) (same_but [] xs ys) e in
    let rest = each_plain xs ys both.1 in
    (ap suc rest.0, λ i l. at i l (eqb-true x y both.0) rest.1)
  where
    at : (i : ℕ) → i < length (y ∷ ys) → x ≡ y → ((i : ℕ) → i < length ys → slice_index xs i ≡ slice_index ys i) → slice_index (x ∷ xs) i
        ≡ slice_index (y ∷ ys) i
    at zero l first more = first
    at (suc i) l first more = more i (omega (arith, l))

same_bytes : (ms xs ys : List ℕ) → same_but ms xs ys ≡ true → SameBytes ms xs ys
same_bytes [] xs ys e = let both = each_plain xs ys (plain xs ys e) in record { as_many = both.0; each = λ i l z. both.1 i l }
  where
    plain : (xs ys : List ℕ) → same_but [] xs ys ≡ true → same_but [] xs ys ≡ true
    plain xs ys e = e
same_bytes (m ∷ ms) [] [] e = record { as_many = refl; each = λ i l z. absurd (omega (arith, l)) }
same_bytes (m ∷ ms) [] (y ∷ ys) e = cc
same_bytes (m ∷ ms) (x ∷ xs) [] e = cc
same_bytes (m ∷ ms) (x ∷ xs) (y ∷ ys) e =
    let both = and_true (same_byte m x y) (same_but ms xs ys) e in
    let rest = same_bytes ms xs ys both.1 in
    record { as_many = ap suc rest.as_many; each = λ i l z. at i l z both.0 rest.each }
  where
    at : (i : ℕ) → i < length (y ∷ ys) → slice_index (m ∷ ms) i ≡ 0 → same_byte m x y ≡ true → ((i : ℕ) → i < length ys → slice_index ms i ≡ 0
        → slice_index xs i ≡ slice_index ys i)
        → slice_index (x ∷ xs) i ≡ slice_index (y ∷ ys) i
    at zero l z first more = same_here m x y first z
    at (suc i) l z first more = more i (omega (arith, l)) z

-- ---- records in any order

abbrev Record : Type 0
Record = List ℕ

-- where a record stands in a list
record Stand (k : Record) (xs : List Record) : Type 0 where
  front : List Record
  back : List Record
  is : xs ≡ front ++ k ∷ back

stand_case : (k x : Record) (xs : List Record) → (1 ≤ times k xs → Stand k xs) → (b : Bool) → bytes_eq k x ≡ b → 1 ≤ one_if b + times k xs → Stand k (x ∷ xs)
stand_case k x xs rest true e some = record { front = []; back = xs; is = ap (λ (y : Record). y ∷ xs) (sym ((bytes_eq-Decides k x).0 e)) }
stand_case k x xs rest false e some =
    let s = rest (omega (arith, some)) in
    record { front = x ∷ s.front; back = s.back; is = ap (λ (w : List Record). x ∷ w) s.is }

stand : (k : Record) (xs : List Record) → 1 ≤ times k xs → Stand k xs
stand k [] some = absurd (omega (arith, some))
stand k (x ∷ xs) some = stand_case k x xs (stand k xs) (bytes_eq k x) refl (omega (arith, some, times_more k x xs))

moved_of : (rs qs : List Record) → ((k : Record) → times k rs ≡ times k qs) → IsPermutation rs qs
moved_of [] [] often = IsPermutation-refl []
moved_of [] (q ∷ qs) often = absurd (omega (arith, often q, least_itself q qs))
moved_of (r ∷ rs) qs often =
    let s = stand r qs (omega (arith, often r, least_itself r rs)) in
    let others = s.front ++ s.back in
    let to_front : IsPermutation qs (r ∷ others) = subst (λ (w : List Record). IsPermutation w (r ∷ others)) (sym s.is)
    (IsPermutation-middle s.front r s.back) in
    let less : (k : Record) → times k rs ≡ times k others =
    λ k. omega (arith, often k, times_more k r rs, times_more k r others, sum_by-IsPermutation (λ x. one_if (bytes_eq k x)) qs (r ∷ others) to_front) in
    IsPermutation-trans (r ∷ rs) (r ∷ others) qs (IsPermutation-cons r rs others (moved_of rs others less)) (IsPermutation-sym qs (r ∷ others) to_front)

same_list : (expected : Expected) (sent reply : List ℕ) → (expected.own && same_in_any_order sent reply) ≡ true → SameList expected sent reply
same_list expected sent reply e =
    let own = and_true expected.own (same_in_any_order sent reply) e in
    let rest = and_true (lists_records reply && bytes_eq (take 3 sent) (take 3 reply)) (same_records (records (drop 3 sent)) (records (drop 3 reply))) own.1 in
    let head = and_true (lists_records reply) (bytes_eq (take 3 sent) (take 3 reply)) rest.0 in
    record {
      own = own.0;
      lists = head.0;
      head = (bytes_eq-Decides (take 3 sent) (take 3 reply)).0 head.1;
      moved = moved_of (records (drop 3 sent)) (records (drop 3 reply)) (all_often (records (drop 3 sent)) (records (drop 3 reply)) rest.1);
    }

-- ---- an exchange

same_reply_means : (expected : Expected) (sent reply : List ℕ) → same_reply expected sent reply ≡ true
    → SameBytes (marks expected.varies) sent reply ⊎ SameList expected sent reply
same_reply_means expected sent reply e = elim (or_cases (same_but (marks expected.varies) sent reply) (expected.own && same_in_any_order sent reply) e) [
  | inl a ↦ inl (same_bytes (marks expected.varies) sent reply a)
  | inr b ↦ inr (same_list expected sent reply b)
]

answer_means : (expected : Expected) (sent : Option Heard) (reply : Option (List ℕ)) → answers_as expected sent reply ≡ true → IsAnswer expected sent reply
answer_means expected None None e = tt
answer_means expected (Some sent) None e = cc
answer_means expected None (Some reply) e = e
answer_means expected (Some sent) (Some reply) e =
    let both = and_true (not (says_pending reply)) (same_reply expected sent.bytes reply) e in
    (not_true (says_pending reply) both.0, same_reply_means expected sent.bytes reply both.1)

pub means : (o : Over) → agrees o ≡ true → Means o
means (Exchange request pendings answer) e = elim (or_cases request.expected.ignored (answers_as request.expected answer request.expected.reply) e) [
  | inl a ↦ inl a
  | inr b ↦ inr (answer_means request.expected answer request.expected.reply b)
]
means (Unasked heard) e = cc

-- ---- and the other way round

byte_same : (mark x y : ℕ) → (mark ≡ 0 → x ≡ y) → same_byte mark x y ≡ true
byte_same zero x y same = eq-eqb x y (same refl)
byte_same (suc mark) x y same = or_left (not (suc mark == 0)) (x == y) (ap not (ne_eqb (suc mark) 0 (λ e. absurd (omega (arith, e)))))

plain_same : (xs ys : List ℕ) → length xs ≡ length ys → ((i : ℕ) → i < length ys → slice_index xs i ≡ slice_index ys i) → same_but [] xs ys ≡ true
plain_same [] [] many each = refl
plain_same [] (y ∷ ys) many each = absurd (omega (arith, many))
plain_same (x ∷ xs) [] many each = absurd (omega (arith, many))
plain_same (x ∷ xs) (y ∷ ys) many each =
    and_from (x == y) (same_but [] xs ys) (eq-eqb x y (each zero (omega arith)))
    (plain_same xs ys (omega (arith, many)) (λ i l. each (suc i) (omega (arith, l))))

bytes_same : (ms xs ys : List ℕ) → SameBytes ms xs ys → same_but ms xs ys ≡ true
bytes_same [] xs ys s = plain_same xs ys s.as_many (λ i l. s.each i l refl)
bytes_same (m ∷ ms) [] [] s = refl
bytes_same (m ∷ ms) [] (y ∷ ys) s = absurd (omega (arith, s.as_many))
bytes_same (m ∷ ms) (x ∷ xs) [] s = absurd (omega (arith, s.as_many))
bytes_same (m ∷ ms) (x ∷ xs) (y ∷ ys) s =
    and_from (same_byte m x y) (same_but ms xs ys) (byte_same m x y (s.each zero (omega arith)))
    (bytes_same ms xs ys (record { as_many = omega (arith, s.as_many); each = λ i l z. s.each (suc i) (omega (arith, l)) z }))

list_same : (expected : Expected) (sent reply : List ℕ) → SameList expected sent reply → (expected.own && same_in_any_order sent reply) ≡ true
list_same expected sent reply s =
    let rs = records (drop 3 sent) in
    let qs = records (drop 3 reply) in
    let often = often_all rs qs (λ k. sym (sum_by-IsPermutation (λ x. one_if (bytes_eq k x)) rs qs s.moved)) in
    and_from expected.own (same_in_any_order sent reply) s.own
    (and_from (lists_records reply && bytes_eq (take 3 sent) (take 3 reply)) (same_records rs qs)
    (and_from (lists_records reply) (bytes_eq (take 3 sent) (take 3 reply)) s.lists ((bytes_eq-Decides (take 3 sent) (take 3 reply)).1 s.head)) often)

reply_same : (expected : Expected) (sent reply : List ℕ) → SameBytes (marks expected.varies) sent reply ⊎ SameList expected sent reply
    → same_reply expected sent reply ≡ true
reply_same expected sent reply (inl a) =
    or_left (same_but (marks expected.varies) sent reply) (expected.own && same_in_any_order sent reply) (bytes_same (marks expected.varies) sent reply a)
reply_same expected sent reply (inr b) =
    or_right (same_but (marks expected.varies) sent reply) (expected.own && same_in_any_order sent reply) (list_same expected sent reply b)

answer_meant : (expected : Expected) (sent : Option Heard) (reply : Option (List ℕ)) → IsAnswer expected sent reply → answers_as expected sent reply ≡ true
answer_meant expected None None h = refl
answer_meant expected (Some sent) None h = absurd h
answer_meant expected None (Some reply) h = h
answer_meant expected (Some sent) (Some reply) h =
    and_from (not (says_pending reply)) (same_reply expected sent.bytes reply) (ap not h.0) (reply_same expected sent.bytes reply h.1)

exchange_meant : (ignored : Bool) (expected : Expected) (sent : Option Heard) (reply : Option (List ℕ)) → (ignored ≡ true) ⊎ IsAnswer expected sent reply
    → (ignored || answers_as expected sent reply) ≡ true
exchange_meant ignored expected sent reply (inl a) = or_left ignored (answers_as expected sent reply) a
exchange_meant ignored expected sent reply (inr b) = or_right ignored (answers_as expected sent reply) (answer_meant expected sent reply b)

pub meant : (o : Over) → Means o → agrees o ≡ true
meant (Exchange request pendings answer) h = exchange_meant request.expected.ignored request.expected answer request.expected.reply h
meant (Unasked heard) h = absurd h
