-- The lines of a text, taken off one by one.
use Rattle.std.proofs.Common.{◌≡◌, ◌==◌, ℕ, ◌+◌, ◌<◌, true, false, cond, List, [], ◌∷◌, ◌++◌, None, Some, eqb-true, get_or, get_or-take, length, length-take-le, map, take, drop, refl, sym, ap, ◌∙◌, arith, take-append-drop}
use Rattle.std.specs.List.{slice_split}
use Rattle.std.proofs.lemmas.Bool.{false_from_ne_true}
use Rattle.std.proofs.lemmas.Grind.{get_or_default_zero}
use Rattle.std.proofs.lemmas.List.{drop_more, map-append}
use Rattle.memchr.specs.Find.{IsFirstByte}
use Rattle.diag_can.specs.BusLine.{HasNoFeed, begun_line, bus_lines, whole_pieces}
use Rattle.diag_can.specs.Log.{is_feed, without_return, lines_of_pieces, lines_of}
use Rattle.diag_can.proofs.BusLines.{bus_lines-ended, bus_lines-first, bus_lines-last, bus_lines-more}

-- ---- the first line feed

feed_there : (text : List ℕ) (end : ℕ) → IsFirstByte is_feed text (Some end) → (end < length text) × (get_or text end 0 ≡ 10)
feed_there text end found = (omega (arith, found.0.high), eqb-true (get_or text end 0) 10 found.1)

pub split_at_feed : (text : List ℕ) (end : ℕ) → IsFirstByte is_feed text (Some end) → text ≡ take end text ++ 10 ∷ drop (end + 1) text
split_at_feed text end found =
    let there = feed_there text end found in
    let rest : drop end text ≡ 10 ∷ drop (end + 1) text = drop_more text end 0 there.0 ∙ ap (λ (c : ℕ). c ∷ drop (end + 1) text) there.1 in
    sym (take-append-drop end text) ∙ ap (λ (r : List ℕ). take end text ++ r) rest

pub no_feed : (text : List ℕ) → IsFirstByte is_feed text None → HasNoFeed text
no_feed text none = λ k d lt. ap is_feed (get_or_default_zero text k d lt) ∙ false_from_ne_true _ (none k (omega arith) lt)

-- none stands before it
pub no_feed_before : (text : List ℕ) (end : ℕ) → IsFirstByte is_feed text (Some end) → HasNoFeed (take end text)
no_feed_before text end found = λ k d lt.
    let inside : k < end = omega (arith, length-take-le end text (omega (arith, found.0.high)), lt) in
    ap is_feed (get_or-take end text k d inside ∙ get_or_default_zero text k d (omega (arith, found.0.high)))
    ∙ false_from_ne_true _ (found.0.before k (omega arith) inside)

-- ---- the lines of a log are those of a capture, without their CR

pieces_are : (pieces : List (List ℕ)) → lines_of_pieces pieces ≡ map without_return (whole_pieces pieces)
pieces_are [] = refl
pieces_are (piece ∷ []) =
    elim (length piece == 0) as (λ b. cond b [] (without_return piece ∷ []) ≡ map without_return (cond b [] (piece ∷ []))) [
      | true ↦ refl
      | false ↦ refl
    ]
pieces_are (piece ∷ next ∷ pieces) = ap (λ (ls : List (List ℕ)). without_return piece ∷ ls) (pieces_are (next ∷ pieces))

lines_are : (text : List ℕ) → lines_of text ≡ map without_return (bus_lines text)
lines_are text = pieces_are (slice_split is_feed text)

-- a line feed ends the first line
pub lines_of-first : (line rest : List ℕ) → HasNoFeed line → lines_of (line ++ 10 ∷ rest) ≡ without_return line ∷ lines_of rest
lines_of-first line rest none =
    lines_are (line ++ 10 ∷ rest) ∙ ap (map without_return) (bus_lines-first line rest none)
    ∙ ap (λ (ls : List (List ℕ)). without_return line ∷ ls) (sym (lines_are rest))

-- a text with no line feed is one line
pub lines_of-last : (line : List ℕ) → HasNoFeed line → 0 < length line → lines_of line ≡ without_return line ∷ []
lines_of-last line none some = lines_are line ∙ ap (map without_return) (bus_lines-last line none some)

-- what follows whole lines is lines of its own
pub lines_of-more : (seen more : List ℕ) → begun_line seen ≡ [] → lines_of (seen ++ more) ≡ lines_of seen ++ lines_of more
lines_of-more seen more whole =
    let lines : bus_lines (seen ++ more) ≡ bus_lines seen ++ bus_lines more =
    bus_lines-more seen more ∙ (λ i. sym (bus_lines-ended seen whole) i ++ bus_lines (whole i ++ more)) in
    lines_are (seen ++ more) ∙ ap (map without_return) lines ∙ map-append without_return (bus_lines seen) (bus_lines more)
    ∙ (λ i. sym (lines_are seen) i ++ sym (lines_are more) i)

-- one line more
pub lines_of-line : (seen line : List ℕ) → begun_line seen ≡ [] → HasNoFeed line
    → lines_of (seen ++ (line ++ 10 ∷ [])) ≡ lines_of seen ++ without_return line ∷ []
lines_of-line seen line whole none =
    lines_of-more seen (line ++ 10 ∷ []) whole ∙ ap (λ (ls : List (List ℕ)). lines_of seen ++ ls) (lines_of-first line [] none)
