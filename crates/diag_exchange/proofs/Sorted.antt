-- Two lists have the same records, each as often, where they are the same once they are sorted.
use Rattle.std.proofs.Common.{◌≡◌, ◌≤◌, ◌<◌, ℕ, zero, suc, ◌+◌, Bool, true, false, List, [], ◌∷◌, ◌++◌, length, map, get_or, refl, ap, ap₂, subst, sym, ◌∙◌, arith, eq-eqb, Ordering, Less, Equal, Greater, is_lt, is_eq, nat_cmp}
use Rattle.std.proofs.lemmas.Bool.{eqb-true}
use Rattle.std.proofs.lemmas.List.Folds.{list_all-append}
use Rattle.std.proofs.lemmas.List.Sums.{sum_by-cons}
use Rattle.std.proofs.lemmas.List.Sorted.{IsPermutation-map, ranks_by, sorted_far, sum_by-IsPermutation}
use Rattle.std.proofs.lemmas.Map.Text.{is_eq-slice_cmp}
use Rattle.std.proofs.lemmas.Cmp.{nat_list_cmp_total}
use Rattle.std.proofs.lemmas.Slice.Eq.{bytes_eq-Decides}
use Rattle.std.specs.Borrow.{Bor}
use Rattle.std.specs.Ordering.{ordering_reverse}
use Rattle.std.specs.Cmp.Derive.Mapped.{pointwise-map}
use Rattle.std.specs.Cmp.Lexicographic.{pointwise, slice_cmp}
use Rattle.std.specs.List.{list_all}
use Rattle.std.specs.List.Sorted.{IsPermutation, IsSorted}
use Rattle.std.specs.Prelude.{cond, ◌&&◌}
use Rattle.std.specs.Str.{bytes_eq}
use Rattle.diag_exchange.specs.Agreeing.{as_often, same_records, times}
use Rattle.diag_exchange.proofs.Lists.{Each, Pairs, and_true}

abbrev Record : Type 0
Record = List ℕ

abbrev compare : Record → Record → Ordering
compare = slice_cmp nat_cmp

-- the earlier isn't above the later
abbrev InOrder : Record → Record → Type 0
InOrder x y = is_lt (compare y x) ≡ false

-- ---- how often a record stands there

is_itself : (k : Record) → bytes_eq k k ≡ true
is_itself k = (bytes_eq-Decides k k).1 refl

-- one, where the test holds
abbrev pub one_if : Bool → ℕ
one_if b = cond b 1 0

pub times_more : (k x : Record) (xs : List Record) → times k (x ∷ xs) ≡ one_if (bytes_eq k x) + times k xs
times_more k x xs = sum_by-cons (λ y. one_if (bytes_eq k y)) x xs

pub least_itself : (k : Record) (xs : List Record) → 1 ≤ times k (k ∷ xs)
least_itself k xs = omega (arith, times_more k k xs, ap one_if (is_itself k))

module _ (P : Record → Type 0) (k : Record) where
  member_case : (x : Record) (xs : List Record) → P x → (1 ≤ times k xs → P k) → (b : Bool) → bytes_eq k x ≡ b → 1 ≤ one_if b + times k xs → P k
  member_case x xs own rest true e some = subst P (sym ((bytes_eq-Decides k x).0 e)) own
  member_case x xs own rest false e some = rest (omega (arith, some))

  member : (xs : List Record) → Each P xs → 1 ≤ times k xs → P k
  member [] all some = absurd (omega (arith, some))
  member (x ∷ xs) all some = member_case x xs all.0 (member xs all.1) (bytes_eq k x) refl (omega (arith, some, times_more k x xs))

-- ---- sorted lists

not_itself : (r : Ordering) → r ≡ ordering_reverse r → is_lt r ≡ false
not_itself Less e = cc
not_itself Equal e = refl
not_itself Greater e = refl

in_order_itself : (x : Record) → InOrder x x
in_order_itself x = not_itself (compare x x) (nat_list_cmp_total.antisymm x x)

tied : (x y : Record) → compare x y ≡ Equal → x ≡ y
tied x y e = (bytes_eq-Decides x y).0 (sym (is_eq-slice_cmp x y) ∙ ap is_eq e)

neither_above : (x y : Record) (r : Ordering) → compare y x ≡ r → is_lt r ≡ false → is_lt (compare x y) ≡ false → x ≡ y
neither_above x y Less is a b = cc
neither_above x y Equal is a b = sym (tied y x is)
neither_above x y Greater is a b = cc (sym (ap is_lt (nat_list_cmp_total.antisymm x y ∙ ap ordering_reverse is)) ∙ b)

same_sorted : (xs ys : List Record) → Pairs InOrder xs → Pairs InOrder ys → ((k : Record) → times k xs ≡ times k ys) → xs ≡ ys
same_sorted [] [] p q often = refl
same_sorted [] (y ∷ ys) p q often = absurd (omega (arith, often y, least_itself y ys))
same_sorted (x ∷ xs) [] p q often = absurd (omega (arith, often x, least_itself x xs))
same_sorted (x ∷ xs) (y ∷ ys) p q often =
    let a : InOrder x y = member (InOrder x) y (x ∷ xs) (in_order_itself x, p.0) (omega (arith, often y, least_itself y ys)) in
    let b : InOrder y x = member (InOrder y) x (y ∷ ys) (in_order_itself y, q.0) (omega (arith, often x, least_itself x xs)) in
    let first : x ≡ y = neither_above x y (compare y x) refl a b in
    ap₂ (λ (z : Record) (w : List Record). z ∷ w) first
    (same_sorted xs ys p.1 q.1 (λ k. omega (arith, often k, times_more k x xs, times_more k y ys, ap (λ z. one_if (bytes_eq k z)) first)))

-- ---- each as often

list_each : (p : Record → Bool) (xs : List Record) → list_all p xs ≡ true → Each (λ x. p x ≡ true) xs
list_each p [] e = tt
list_each p (x ∷ xs) e = let both = and_true (p x) (list_all p xs) e in (both.0, list_each p xs both.1)

all_of : (p : Record → Bool) → ((x : Record) → p x ≡ true) → (xs : List Record) → list_all p xs ≡ true
all_of p f [] = refl
all_of p f (x ∷ xs) = ap₂ (λ a b. a && b) (f x) (all_of p f xs)

where_some : (m n : ℕ) → (1 ≤ m → m ≡ n) → (1 ≤ n → m ≡ n) → m ≡ n
where_some zero zero f g = refl
where_some zero (suc n) f g = g (omega arith)
where_some (suc m) n f g = f (omega arith)

module _ (rs qs : List Record) where
  pub all_often : same_records rs qs ≡ true → (k : Record) → times k rs ≡ times k qs
  all_often e k =
      let both = and_true (list_all (as_often rs qs) rs) (list_all (as_often rs qs) qs) (sym (list_all-append (as_often rs qs) rs qs) ∙ e) in
      where_some (times k rs) (times k qs)
      (λ some. eqb-true (times k rs) (times k qs) (member (λ r. as_often rs qs r ≡ true) k rs (list_each (as_often rs qs) rs both.0) some))
      (λ some. eqb-true (times k rs) (times k qs) (member (λ r. as_often rs qs r ≡ true) k qs (list_each (as_often rs qs) qs both.1) some))

  pub often_all : ((k : Record) → times k rs ≡ times k qs) → same_records rs qs ≡ true
  often_all f = all_of (as_often rs qs) (λ k. eq-eqb (times k rs) (times k qs) (f k)) (rs ++ qs)

-- ---- as the code has them

abbrev Ref : Type 0
Ref = Bor Record

abbrev bytes_of : List Ref → List Record
bytes_of = map (λ r. r.now)

same_both : (a b : Bool) → (a ≡ true → b ≡ true) → (b ≡ true → a ≡ true) → a ≡ b
same_both true b f g = sym (f refl)
same_both false true f g = g refl
same_both false false f g = refl

abbrev test : List Ref → List Ref → Bool
test = pointwise (λ x y. bytes_eq x.now y.now)

same_lists : (xs ys : List Record) → pointwise bytes_eq xs ys ≡ true → xs ≡ ys
same_lists [] [] e = refl
same_lists [] (y ∷ ys) e = cc
same_lists (x ∷ xs) [] e = cc
same_lists (x ∷ xs) (y ∷ ys) e =
    let both = and_true (bytes_eq x y) (pointwise bytes_eq xs ys) e in
    ap₂ (λ (z : Record) (w : List Record). z ∷ w) ((bytes_eq-Decides x y).0 both.0) (same_lists xs ys both.1)

lists_same : (xs : List Record) → pointwise bytes_eq xs xs ≡ true
lists_same [] = refl
lists_same (x ∷ xs) = ap₂ (λ a b. a && b) (is_itself x) (lists_same xs)

test_same : (us vs : List Ref) → test us vs ≡ true → bytes_of us ≡ bytes_of vs
test_same us vs e = same_lists (bytes_of us) (bytes_of vs) (pointwise-map (λ r. r.now) bytes_eq us vs ∙ e)

same_test : (us vs : List Ref) → bytes_of us ≡ bytes_of vs → test us vs ≡ true
same_test us vs e = sym (pointwise-map (λ r. r.now) bytes_eq us vs) ∙ (ap (pointwise bytes_eq (bytes_of us)) (sym e) ∙ lists_same (bytes_of us))

abbrev above : Ref → Ref → Bool
above x y = is_lt (compare x.now y.now)

each_from : (x : Ref) (xs : List Ref) → ((j : ℕ) (d : Ref) → j < length xs → above (get_or xs j d) x ≡ false) → Each (InOrder x.now) (bytes_of xs)
each_from x [] f = tt
each_from x (y ∷ xs) f = (f 0 x (omega arith), each_from x xs (λ j d l. f (suc j) d (omega (arith, l))))

pairs_from : (xs : List Ref) → ((i j : ℕ) (d : Ref) → i ≤ j → j < length xs → above (get_or xs j d) (get_or xs i d) ≡ false) → Pairs InOrder (bytes_of xs)
pairs_from [] f = tt
pairs_from (x ∷ xs) f = (
  each_from x xs (λ j d l. f 0 (suc j) d (omega arith) (omega (arith, l))),
  pairs_from xs (λ i j d a b. f (suc i) (suc j) d (omega (arith, a)) (omega (arith, b))),
)

sorted_pairs : (xs : List Ref) → IsSorted (λ (x y : Ref). compare x.now y.now) xs → Pairs InOrder (bytes_of xs)
sorted_pairs xs s = pairs_from xs (sorted_far above (ranks_by nat_list_cmp_total (λ (r : Ref). r.now)) xs s)

times_moved : (k : Record) (us vs : List Ref) → IsPermutation us vs → times k (bytes_of vs) ≡ times k (bytes_of us)
times_moved k us vs p = sum_by-IsPermutation (λ x. one_if (bytes_eq k x)) (bytes_of us) (bytes_of vs) (IsPermutation-map (λ r. r.now) us vs p)

pub sorted_same : (us vs us' vs' : List Ref) → IsPermutation us us' → IsPermutation vs vs' → IsSorted (λ (x y : Ref). compare x.now y.now) us'
    → IsSorted (λ (x y : Ref). compare x.now y.now) vs'
    → test us' vs' ≡ same_records (bytes_of us) (bytes_of vs)
sorted_same us vs us' vs' p q s t = same_both (test us' vs') (same_records (bytes_of us) (bytes_of vs))
    (λ e. often_all (bytes_of us) (bytes_of vs) (λ k. sym (times_moved k us us' p) ∙ (ap (times k) (test_same us' vs' e) ∙ times_moved k vs vs' q)))
    (λ e. same_test us' vs' (same_sorted (bytes_of us') (bytes_of vs') (sorted_pairs us' s) (sorted_pairs vs' t)
    (λ k. times_moved k us us' p ∙ (all_often (bytes_of us) (bytes_of vs) e k ∙ sym (times_moved k vs vs' q)))))
