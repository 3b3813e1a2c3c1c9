-- What a reader of one interface's frames still has to give.
use Rattle.std.specs.Prelude.{ℕ, ◌≤◌, Bool, true, false, List, [], ◌∷◌, ◌++◌, length, drop, Option, option_map}
use Rattle.std.specs.List.{before_first, position_or_len}
use Rattle.diag_can.specs.BusLine.{HasNoFeed}
use Rattle.diag_can.specs.Log.{is_feed}
use Rattle.diag_interface.specs.Interface.{only_line, only_text}
use Rattle.diag_interface.specs.Window.{items}
use Rattle.diag_interface.specs.declared.only.OnlyInterface.{OnlyInterface}

-- a line by itself; the rest of one that is longer than a line may be stays as it is
abbrev pub turned : List ℕ → Bool → List ℕ → List ℕ
turned name true line = line
turned name false line = only_line name line

-- a line feed, and what follows it
abbrev pub fed_text : List ℕ → List ℕ → List ℕ
fed_text name [] = []
fed_text name (feed ∷ text) = feed ∷ only_text name text

-- a text; or the rest of a line that is longer than a line may be, and what follows it
abbrev pub rest_of : List ℕ → Bool → List ℕ → List ℕ
rest_of name true text = before_first is_feed text ++ fed_text name (drop (position_or_len is_feed text) text)
rest_of name false text = only_text name text

-- a line is begun, and isn't longer than a line may be
abbrev pub IsBegun : List ℕ → Type 0
IsBegun text = HasNoFeed text × (length text ≤ 4096)

-- what it gives where these are the bytes that are still to be read
abbrev pub outlook : {R : Type 0} → OnlyInterface R → List ℕ → List ℕ
outlook only rest = items only.ready ++ rest_of only.name.items only.is_long (items only.raw ++ rest)

-- the same where they are known
abbrev pub left : {R : Type 0} → (R → Option (List ℕ)) → OnlyInterface R → Option (List ℕ)
left remaining only = option_map (outlook only) (remaining only.inner)
