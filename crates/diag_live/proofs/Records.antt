-- The lines of a record.
use Rattle.diag_can.specs.declared.frame.KnownId.{KnownId}
use Rattle.std.proofs.Common.{◌≡◌, ℕ, ◌+◌, ◌<◌, ◌≤◌, ◌==◌, Bool, true, false, cond, All, not, ◌&&◌, List, [], ◌∷◌, ◌++◌, length, codes, decimal, refl, sym, ap, ◌∙◌, append_assoc, arith, suc, zero, get_or}
use Rattle.std.specs.Prelude.{Ok}
use Rattle.std.specs.List.{after_first, position_or_len, list_all}
use Rattle.std.proofs.lemmas.List.{append-nil, map-append}
use Rattle.std.proofs.lemmas.Grind.{flat_map-append}
use Rattle.std.proofs.lemmas.List.Concat.{flat_map-cons}
use Rattle.std.proofs.lemmas.List.Elements.{All-append, All-drop, filter_map-append}
use Rattle.std.proofs.lemmas.Bool.Decides.{nat_tests}
use Rattle.diag_can.specs.Log.{is_feed}
use Rattle.diag_can.specs.Stamp.{is_digit}
use Rattle.diag_can.specs.declared.bus_line.BusLine.{BusLine}
use Rattle.diag_can.specs.declared.bus_line.BusLine.TheVariants.{Ticks}
use Rattle.diag_can.specs.BusLine.{HasNoFeed, begun_line, bus_line, bus_lines, ended_lines}
use Rattle.diag_can.proofs.BusLines.{begun_line-line, bus_lines-ended, ended_lines-line}
use Rattle.diag_live.specs.Live.{AreGood, Heard, IsGood, but_for_moment, RecordLaw, Taken, Ticked, capture_line, capture_of, heard_line, is_close, lines_of, null_stamp, record_text, restamped, tick_line, with_feed}
use Rattle.diag_live.proofs.Restamping.{decimal_digits, restamped_says, tick_says}

-- ---- lists of what was taken

pub capture_of-append : (a b : List Taken) → capture_of (a ++ b) ≡ capture_of a ++ capture_of b
capture_of-append a b = map-append capture_line a b

pub lines_of-append : (a b : List Taken) → lines_of (a ++ b) ≡ lines_of a ++ lines_of b
lines_of-append a b = filter_map-append heard_line a b

pub record_text-append : (a b : List (List ℕ)) → record_text (a ++ b) ≡ record_text a ++ record_text b
record_text-append a b = flat_map-append with_feed a b

pub good_join : (known : List KnownId) (a b : List Taken) → AreGood known a → AreGood known b → AreGood known (a ++ b)
good_join known [] b x y = y
good_join known (t ∷ a) b x y = (x.0, good_join known a b x.1 y)

-- ---- the lines of the text of lines

-- no line has a line feed
abbrev pub ArePlain : List (List ℕ) → Type 0
ArePlain [] = Unit {0}
ArePlain (line ∷ lines) = HasNoFeed line × ArePlain lines

plain_from : (lines : List (List ℕ)) → All HasNoFeed lines → ArePlain lines
plain_from [] all = tt
plain_from (line ∷ lines) all = (all 0 line (omega arith), plain_from lines (λ k d less. all (suc k) d (omega (arith, less))))

-- behind whole lines the text of more lines has just these more
pub lines_more : (seen : List ℕ) (lines : List (List ℕ)) → begun_line seen ≡ [] → ArePlain lines
    → (ended_lines (seen ++ record_text lines) ≡ ended_lines seen ++ lines) × (begun_line (seen ++ record_text lines) ≡ [])
lines_more seen [] none plain = (ap ended_lines (append-nil seen) ∙ sym (append-nil (ended_lines seen)), ap begun_line (append-nil seen) ∙ none)
lines_more seen (line ∷ lines) none plain =
    let seen' = seen ++ with_feed line in
    let closed : begun_line seen' ≡ [] = begun_line-line seen line plain.0 in
    let ended : ended_lines seen' ≡ ended_lines seen ++ line ∷ [] =
    ended_lines-line seen line plain.0 ∙ ap (λ (b : List ℕ). ended_lines seen ++ (b ++ line) ∷ []) none in
    let next = lines_more seen' lines closed plain.1 in
    let text : seen ++ record_text (line ∷ lines) ≡ seen' ++ record_text lines =
    ap (λ (t : List ℕ). seen ++ t) (flat_map-cons with_feed line lines) ∙ sym (append_assoc seen (with_feed line) (record_text lines)) in (
      ap ended_lines text ∙ (next.0 ∙ (ap (λ (l : List (List ℕ)). l ++ lines) ended ∙ append_assoc (ended_lines seen) (line ∷ []) lines)),
      ap begun_line text ∙ next.1,
    )

pub nothing_ended : ended_lines [] ≡ []
unfolding ended_lines
nothing_ended = refl

pub nothing_begun : begun_line [] ≡ []
unfolding begun_line
nothing_begun = refl

pub record_lines : (lines : List (List ℕ)) → ArePlain lines → bus_lines (record_text lines) ≡ lines
record_lines lines plain =
    let here = lines_more [] lines nothing_begun plain in
    bus_lines-ended (record_text lines) here.1 ∙ (here.0 ∙ ap (λ (l : List (List ℕ)). l ++ lines) nothing_ended)

pub record_law : RecordLaw
record_law lines all = record_lines lines (plain_from lines all)

-- ---- no line feed comes in

no_feed_in : (text : List ℕ) → list_all (λ c. not (is_feed c)) text ≡ true → HasNoFeed text
no_feed_in [] h = λ k d less. absurd (omega (arith, less))
no_feed_in (c ∷ text) h = pick (is_feed c) refl h (no_feed_in text)
  where
    at : is_feed c ≡ false → HasNoFeed text → (k : ℕ) (d : ℕ) → k < length (c ∷ text) → is_feed (get_or (c ∷ text) k d) ≡ false
    at first rest zero d less = first
    at first rest (suc k) d less = rest k d (omega (arith, less))

    pick : (b : Bool) → is_feed c ≡ b → (not b && list_all (λ c. not (is_feed c)) text) ≡ true
        → (list_all (λ c. not (is_feed c)) text ≡ true → HasNoFeed text) → HasNoFeed (c ∷ text)
    pick true is rest next = absurd (clash rest)
      where
        clash : false ≡ true → ⊥
        clash x = cc
    pick false is rest next = at is (next rest)

digits_plain : (text : List ℕ) → list_all is_digit text ≡ true → list_all (λ c. not (is_feed c)) text ≡ true
digits_plain [] h = refl
digits_plain (c ∷ text) h = pick (is_digit c) refl h (digits_plain text)
  where
    pick : (b : Bool) → is_digit c ≡ b → (b && list_all is_digit text) ≡ true → (list_all is_digit text ≡ true → list_all (λ c. not (is_feed c)) text ≡ true)
        → list_all (λ c. not (is_feed c)) (c ∷ text) ≡ true
    pick true digit rest next = let other : is_feed c ≡ false = grind (arith, nat_tests, digit) in rw other (next rest)
    pick false digit rest next = absurd (clash rest)
      where
        clash : false ≡ true → ⊥
        clash x = cc

pub plain_restamped : (line : List ℕ) → HasNoFeed line → HasNoFeed (restamped line)
plain_restamped [] plain = plain
plain_restamped (c ∷ line) plain = pick (c == 40)
  where
    pick : (b : Bool) → HasNoFeed (cond b (null_stamp ++ after_first is_close line) (c ∷ line))
    pick true =
        All-append (λ c. is_feed c ≡ false) null_stamp (after_first is_close line) (no_feed_in null_stamp refl)
        (All-drop (λ c. is_feed c ≡ false) (position_or_len is_close line + 1) line (All-drop (λ c. is_feed c ≡ false) 1 (c ∷ line) plain))
    pick false = plain

pub plain_ticks : (count : ℕ) → count ≤ 60000 → HasNoFeed (tick_line count)
plain_ticks count few =
    All-append (λ c. is_feed c ≡ false) (codes "tick ") (decimal count) (no_feed_in (codes "tick ") refl)
    (no_feed_in (decimal count) (digits_plain (decimal count) (decimal_digits count (omega (arith, few)))))

module _ (known : List KnownId) where
  plain_one : (t : Taken) → IsGood known t → HasNoFeed (capture_line t)
  plain_one (Heard bytes) good = plain_restamped bytes good.0
  plain_one (Ticked count) good = plain_ticks count good.1

  -- the capture's lines have no line feed
  pub plain_capture : (taken : List Taken) → AreGood known taken → ArePlain (capture_of taken)
  plain_capture [] good = tt
  plain_capture (t ∷ taken) good = (plain_one t good.0, plain_capture taken good.1)

  -- each line says something
  abbrev pub AllSay : List (List ℕ) → Type 0
  AllSay [] = Unit {0}
  AllSay (line ∷ lines) = ((said : BusLine) × (bus_line known line ≡ Ok said)) × AllSay lines

  says_one : (t : Taken) → IsGood known t → (said : BusLine) × (bus_line known (capture_line t) ≡ Ok said)
  says_one (Heard bytes) good = (but_for_moment good.1.0, restamped_says known bytes good.1.0 good.1.1)
  says_one (Ticked count) good = (Ticks count, tick_says known count good.0 good.1)

  -- the capture's lines say something
  pub capture_says : (taken : List Taken) → AreGood known taken → AllSay (capture_of taken)
  capture_says [] good = tt
  capture_says (t ∷ taken) good = (says_one t good.0, capture_says taken good.1)
