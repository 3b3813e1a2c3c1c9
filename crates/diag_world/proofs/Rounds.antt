-- One round after another.
use Rattle.std.proofs.Common.{◌≡◌, ◌≤◌, ℕ, zero, suc, ◌+◌, List, [], ◌∷◌, ◌++◌, length, map, take, drop, refl, ap, ap₂, sym, ◌∙◌, arith, append_assoc, add-one}
use Rattle.std.specs.Prelude.{max, slice_get, Some, None}
use Rattle.std.proofs.lemmas.List.{append-nil, drop_all, take-append-drop}
use Rattle.std.proofs.Math.Seq.{drop-nil}
use Rattle.diag_can.specs.Event.{Event}
use Rattle.diag_world.specs.Weaving.{first_of_each, longest, rounds}

pub longest_push : (xs : List (List Event)) (x : List Event) → longest (xs ++ x ∷ []) ≡ max (longest xs) (length x)
longest_push [] x = omega arith
longest_push (y ∷ xs) x = ap (λ n. max (length y) n) (longest_push xs x) ∙ omega arith

pub first_of_each-append : (n : ℕ) (xs ys : List (List Event)) → first_of_each n (xs ++ ys) ≡ first_of_each n xs ++ first_of_each (n + length xs) ys
first_of_each-append n [] ys = let none : n ≡ n + 0 = omega arith in ap (λ k. first_of_each k ys) none
first_of_each-append n ([] ∷ xs) ys =
    let shift : (n + 1) + length xs ≡ n + suc (length xs) = omega arith in
    first_of_each-append (n + 1) xs ys ∙ ap (λ k. first_of_each (n + 1) xs ++ first_of_each k ys) shift
first_of_each-append n ((e ∷ es) ∷ xs) ys =
    let shift : (n + 1) + length xs ≡ n + suc (length xs) = omega arith in
    ap (λ w. (n, e) ∷ w) (first_of_each-append (n + 1) xs ys ∙ ap (λ k. first_of_each (n + 1) xs ++ first_of_each k ys) shift)

map_whole : (logs : List (List Event)) → map (drop 0) logs ≡ logs
map_whole [] = refl
map_whole (log ∷ logs) = ap (λ w. log ∷ w) (map_whole logs)

drop_next : (r : ℕ) (xs : List Event) → drop r (drop 1 xs) ≡ drop (suc r) xs
drop_next r [] = drop-nil r
drop_next r (x ∷ xs) = refl

map_next : (r : ℕ) (logs : List (List Event)) → map (drop r) (map (drop 1) logs) ≡ map (drop (suc r)) logs
map_next r [] = refl
map_next r (log ∷ logs) = ap₂ (λ x xs. x ∷ xs) (drop_next r log) (map_next r logs)

one_more : (r : ℕ) (logs : List (List Event)) → rounds (suc r) logs ≡ rounds r logs ++ first_of_each 1 (map (drop r) logs)
one_more zero logs = append-nil (first_of_each 1 logs) ∙ ap (first_of_each 1) (sym (map_whole logs))
one_more (suc r) logs =
    ap (λ w. first_of_each 1 logs ++ w) (one_more r (map (drop 1) logs) ∙ ap (λ w. rounds r (map (drop 1) logs) ++ first_of_each 1 w) (map_next r logs))
    ∙ sym (append_assoc (first_of_each 1 logs) (rounds r (map (drop 1) logs)) (first_of_each 1 (map (drop (suc r)) logs)))

-- a round more
pub rounds_more : (r : ℕ) (logs : List (List Event)) → rounds (r + 1) logs ≡ rounds r logs ++ first_of_each 1 (map (drop r) logs)
rounds_more r logs = ap (λ k. rounds k logs) (add-one r) ∙ one_more r logs

take_next : {X Y : Type 0} (f : X → Y) (xs : List X) (p : ℕ) (x : X) → slice_get xs p ≡ Some x → take (suc p) (map f xs) ≡ take p (map f xs) ++ f x ∷ []
take_next f [] p x h = absurd (clash h)
  where
    clash : None ≡ Some x → ⊥
    clash h = cc
take_next f (y ∷ xs) zero x h = let same : y ≡ x = cc in ap (λ z. f z ∷ []) same
take_next f (y ∷ xs) (suc p) x h = ap (λ w. f y ∷ w) (take_next f xs p x h)

length_take : {X Y : Type 0} (f : X → Y) (xs : List X) (p : ℕ) (x : X) → slice_get xs p ≡ Some x → length (take p (map f xs)) ≡ p
length_take f [] p x h = absurd (clash h)
  where
    clash : None ≡ Some x → ⊥
    clash h = cc
length_take f (y ∷ xs) zero x h = refl
length_take f (y ∷ xs) (suc p) x h = ap suc (length_take f xs p x h)

-- a tester more in a round
pub round_take : (logs : List (List Event)) (r p : ℕ) (log : List Event) → slice_get logs p ≡ Some log
    → first_of_each 1 (take (p + 1) (map (drop r) logs)) ≡ first_of_each 1 (take p (map (drop r) logs)) ++ first_of_each (p + 1) (drop r log ∷ [])
round_take logs r p log h =
    let place : 1 + length (take p (map (drop r) logs)) ≡ p + 1 = omega (arith, length_take (drop r) logs p log h) in
    ap (λ k. first_of_each 1 (take k (map (drop r) logs))) (add-one p)
    ∙ (ap (first_of_each 1) (take_next (drop r) logs p log h)
    ∙ (first_of_each-append 1 (take p (map (drop r) logs)) (drop r log ∷ [])
    ∙ ap (λ k. first_of_each 1 (take p (map (drop r) logs)) ++ first_of_each k (drop r log ∷ [])) place))

-- a log that goes on gives its event, and one that has ended none
pub round_gives : (n : ℕ) (log : List Event) (r : ℕ) (e : Event) → slice_get log r ≡ Some e → first_of_each n (drop r log ∷ []) ≡ (n, e) ∷ []
round_gives n [] r e h = absurd (clash h)
  where
    clash : None ≡ Some e → ⊥
    clash h = cc
round_gives n (x ∷ log) zero e h = let same : x ≡ e = cc in ap (λ z. (n, z) ∷ []) same
round_gives n (x ∷ log) (suc r) e h = round_gives n log r e h

pub round_ends : (n : ℕ) (log : List Event) (r : ℕ) → length log ≤ r → first_of_each n (drop r log ∷ []) ≡ []
round_ends n log r h = ap (λ w. first_of_each n (w ∷ [])) (drop_all r log h)

-- a round up to and with a tester's event, and the rest of it
pub round_splits : (logs : List (List Event)) (r p : ℕ) (log : List Event) (e : Event) → slice_get logs p ≡ Some log → slice_get log r ≡ Some e
    → (rest : List (ℕ × Event)) × (first_of_each 1 (map (drop r) logs) ≡ (first_of_each 1 (take p (map (drop r) logs)) ++ (p + 1, e) ∷ []) ++ rest)
round_splits logs r p log e at here =
    let xs = map (drop r) logs in
    let rest = first_of_each (1 + length (take (p + 1) xs)) (drop (p + 1) xs) in (
      rest,
      ap (first_of_each 1) (sym (take-append-drop (p + 1) xs))
          ∙ (first_of_each-append 1 (take (p + 1) xs) (drop (p + 1) xs)
          ∙ ap (λ w. w ++ rest) (round_take logs r p log at ∙ ap (λ w. first_of_each 1 (take p xs) ++ w) (round_gives (p + 1) log r e here))),
    )

-- further rounds take nothing away
pub rounds_begin : (a k : ℕ) (logs : List (List Event)) → (rest : List (ℕ × Event)) × (rounds (a + k) logs ≡ rounds a logs ++ rest)
rounds_begin a zero logs = let none : a + 0 ≡ a = omega arith in ([], ap (λ n. rounds n logs) none ∙ sym (append-nil (rounds a logs)))
rounds_begin a (suc k) logs =
    let before = rounds_begin a k logs in
    let next = first_of_each 1 (map (drop (a + k)) logs) in
    let count : a + suc k ≡ suc (a + k) = omega arith in (
      before.0 ++ next,
      ap (λ n. rounds n logs) count ∙ (one_more (a + k) logs ∙ (ap (λ w. w ++ next) before.1 ∙ append_assoc (rounds a logs) before.0 next)),
    )
