-- Tables as lists of rows: keys that repeat, and rising order.
use Rattle.std.specs.Prelude.{◌==◌, ◌&&◌, ◌||◌, ℕ, Bool, true, false, List, [], ◌∷◌, length, nat_le, nat_lt, if◌then◌else◌}
use Rattle.std.specs.List.{list_all, list_any}

abbrev pub is_between : ℕ → ℕ → ℕ → Bool
is_between low high n = nat_le low n && nat_le n high

abbrev pub has_length : {X : Type 0} → ℕ → ℕ → List X → Bool
has_length low high xs = is_between low high (length xs)

-- the length of a part of the first row
abbrev pub first_length : {X : Type 0} → (X → List ℕ) → List X → ℕ
first_length part [] = 0
first_length part (x ∷ xs) = length (part x)

-- whether a part has one length in all rows
abbrev pub have_one_length : {X : Type 0} → (X → List ℕ) → List X → Bool
have_one_length part xs = list_all (λ x. length (part x) == first_length part xs) xs

-- whether a table has a row of the key
abbrev pub has_key : {X : Type 0} → (X → ℕ) → List X → ℕ → Bool
has_key key rows k = list_any (λ row. key row == k) rows

-- whether two rows have one key
abbrev pub has_repeat : {X : Type 0} → (X → ℕ) → List X → Bool
has_repeat key [] = false
has_repeat key (x ∷ xs) = has_key key xs (key x) || has_repeat key xs

-- a row put where it belongs among rows in rising order
abbrev pub insert_in_order : {X : Type 0} → (X → ℕ) → X → List X → List X
insert_in_order key x [] = x ∷ []
insert_in_order key x (y ∷ ys) =
    if nat_le (key x) (key y) then x ∷ y ∷ ys else y ∷ insert_in_order key x ys

-- the rows in rising order of their keys
abbrev pub in_order : {X : Type 0} → (X → ℕ) → List X → List X
in_order key [] = []
in_order key (x ∷ xs) = insert_in_order key x (in_order key xs)

-- whether each key is below those after it
abbrev pub is_rising : {X : Type 0} → (X → ℕ) → List X → Bool
is_rising key [] = true
is_rising key (x ∷ xs) = list_all (λ y. nat_lt (key x) (key y)) xs && is_rising key xs
