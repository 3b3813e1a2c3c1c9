-- The change of one row of a table.
use Rattle.std.specs.Prelude.{Bool, cond, List, [], ◌∷◌}

-- the list with its first row that passes the test changed
abbrev pub change_first : {X : Type 0} → (X → Bool) → (X → X) → List X → List X
change_first test change [] = []
change_first test change (x ∷ xs) = cond (test x) (change x ∷ xs) (x ∷ change_first test change xs)
