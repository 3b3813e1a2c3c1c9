-- Going over a list, item by item.
use Rattle.std.proofs.Common.{◌≡◌, ℕ, ◌+◌, ◌<◌, length, drop, get_or, map, List, ◌∷◌, sym, ap, ◌∙◌}
use Rattle.std.proofs.lemmas.List.{drop_more, drop-map}

-- the items from a place on, seen one by one
pub seen_at : {A B : Type 0} (f : A → B) (xs : List A) (i : ℕ) (x : A) → i < length xs → x ≡ get_or xs i x → drop i (map f xs) ≡ f x ∷ drop (i + 1) (map f xs)
seen_at {B = B} f xs i x lt is =
    drop-map f i xs
    ∙ (ap (map f) (drop_more xs i x lt)
    ∙ (ap (λ y. f y ∷ map f (drop (i + 1) xs)) (sym is) ∙ ap (λ (rest : List B). f x ∷ rest) (sym (drop-map f (i + 1) xs))))
