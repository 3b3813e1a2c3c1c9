-- Entries of the usual form, which are read from the front of a text.
use Rattle.std.proofs.Common.{◌≡◌, ℕ, suc, ◌+◌, ◌-◌, ◌*◌, ◌/◌, ◌%◌, ◌<◌, ◌≤◌, ◌==◌, eqb, nat_lt, Bool, true, false, ◌&&◌, ◌||◌, List, [], ◌∷◌, ◌++◌, length, take, drop, get_or, slice_get, slice_index, Option, Some, None, refl, sym, ap, ◌∙◌, append_assoc, arith, decimal}
use Rattle.std.proofs.lemmas.Bool.{agree_below_at, eqb-true}
use Rattle.std.proofs.lemmas.Bool.Decides.{nat_tests}
use Rattle.std.proofs.lemmas.Fmt.{decimal_digit, decimal_step}
use Rattle.std.proofs.lemmas.List.{take_all, take-append-drop, take-take}
use Rattle.std.proofs.Math.Seq.{drop-cons}
use Rattle.hex.specs.Hex.{encode_upper, encode_with, upper_digits}
use Rattle.diag_can.proofs.Hex.{upper-parts}
use Rattle.diag_desk.proofs.Runs.{take_one}
use Rattle.diag_desk.specs.Text.{entry_line, reply_text, upper_value}
use Rattle.diag_desk.specs.Line.{fronted, kind_code, request_kind}
use Rattle.diag_desk.specs.Entries.{asks, entry}
use Rattle.diag_desk.specs.declared.line.Kind.TheVariants as kind
use Rattle.diag_desk.specs.declared.table.TheConstants.{VALUES}
use Rattle.diag_pdu.specs.Request.{request_of}
use Rattle.diag_pdu.specs.declared.step.Step.TheVariants.{Ticks}

-- ---- the table

pub values_at : (c : ℕ) → c < 256 → get_or VALUES c 0 ≡ upper_value c
values_at c byte = eqb-true (get_or VALUES c 0) (upper_value c) (agree_below_at (λ c. eqb (get_or VALUES c 0) (upper_value c)) (λ c. true) 256 c refl byte)

-- a value is that of a digit, which is written so, or it is 4096
abbrev is_sound : ℕ → Bool
is_sound c = (nat_lt (upper_value c) 16 && (slice_index upper_digits (upper_value c) == c)) || (upper_value c == 4096)

pub record Sound (c : ℕ) : Type 0 where
  pub few : upper_value c < 256 → upper_value c < 16
  pub digit : upper_value c < 16 → slice_index upper_digits (upper_value c) ≡ c
  pub most : upper_value c ≤ 4096

sound_parts : (v d c : ℕ) → ((nat_lt v 16 && (d == c)) || (v == 4096)) ≡ true → (v < 256 → v < 16) × (v < 16 → d ≡ c) × (v ≤ 4096)
sound_parts v d c h = grind (arith, nat_tests)

pub sound : (c : ℕ) → c < 256 → Sound c
sound c byte =
    let parts = sound_parts (upper_value c) (slice_index upper_digits (upper_value c)) c (agree_below_at is_sound (λ c. true) 256 c refl byte) in
    record { few = parts.0; digit = parts.1; most = parts.2 }

-- two digits that make a byte are how it is written
pub pair_spelled : (high low v : ℕ) → high < 256 → low < 256 → v ≡ upper_value high * 16 + upper_value low → v < 256 → encode_upper (v ∷ []) ≡ high ∷ low ∷ []
unfolding encode_with
pair_spelled high low v hb lb is byte =
    let h = sound high hb in
    let l = sound low lb in
    let few_high : upper_value high < 16 = omega arith in
    let few_low : upper_value low < 16 = l.few (omega arith) in
    let first : v / 16 ≡ upper_value high = omega arith in
    let second : v % 16 ≡ upper_value low = omega arith in
    rw (first, second, h.digit few_high, l.digit few_low) refl

-- ---- hex at the front

pub front-none : (text : List ℕ) → text ≡ encode_upper [] ++ text
unfolding encode_with
front-none text = refl

-- one byte more
pub front-more : (text bytes next rest tail : List ℕ) (b high low : ℕ) → text ≡ encode_upper bytes ++ rest → rest ≡ high ∷ low ∷ tail
    → encode_upper (b ∷ []) ≡ high ∷ low ∷ [] → next ≡ bytes ++ b ∷ [] → text ≡ encode_upper next ++ tail
front-more text bytes next rest tail b high low t r pair n =
    t ∙ ap (λ l. encode_upper bytes ++ l) (r ∙ ap (λ l. l ++ tail) (sym pair)) ∙ sym (append_assoc (encode_upper bytes) (encode_upper (b ∷ [])) tail)
    ∙ ap (λ l. l ++ tail) (sym (upper-parts bytes (b ∷ []))) ∙ ap (λ l. encode_upper l ++ tail) (sym n)

-- the two bytes at the front, and what follows them
pub front_two : (rest : List ℕ) → 2 ≤ length rest → rest ≡ get_or rest 0 0 ∷ get_or rest 1 0 ∷ take (length rest - 2) (drop 2 rest)
front_two [] two = absurd (omega arith)
front_two (x ∷ []) two = absurd (omega arith)
front_two (x ∷ y ∷ rest) two = ap (λ l. x ∷ y ∷ l) (sym (take_all (length (x ∷ y ∷ rest) - 2) rest (omega arith)))

-- three bytes by their digits
pub three_spelled : (bytes tail : List ℕ) (x y z a b c d e f : ℕ) → encode_upper (x ∷ []) ≡ a ∷ b ∷ [] → encode_upper (y ∷ []) ≡ c ∷ d ∷ []
    → encode_upper (z ∷ []) ≡ e ∷ f ∷ [] → bytes ≡ x ∷ y ∷ z ∷ [] → a ∷ b ∷ c ∷ d ∷ e ∷ f ∷ tail ≡ encode_upper bytes ++ tail
three_spelled bytes tail x y z a b c d e f p q r is =
    let text : List ℕ = a ∷ b ∷ c ∷ d ∷ e ∷ f ∷ tail in
    let one = front-more text [] (x ∷ []) text (c ∷ d ∷ e ∷ f ∷ tail) x a b (front-none text) refl p refl in
    let two = front-more text (x ∷ []) (x ∷ y ∷ []) (c ∷ d ∷ e ∷ f ∷ tail) (e ∷ f ∷ tail) y c d one refl q refl in
    front-more text (x ∷ y ∷ []) bytes (e ∷ f ∷ tail) tail z e f two refl r is

-- the digits of 22
pub read_spelled : encode_upper (0x22 ∷ []) ≡ 50 ∷ 50 ∷ []
unfolding encode_with
read_spelled = refl

-- the hex of eight bytes more, and what is left of both
pub eight_more : (left rest eight after digits behind tail : List ℕ) → eight ≡ take 8 left → after ≡ drop 8 left → digits ≡ take 16 rest → behind ≡ drop 16 rest
    → encode_upper eight ≡ digits → behind ≡ encode_upper after ++ tail → rest ≡ encode_upper left ++ tail
eight_more left rest eight after digits behind tail e a d b same is =
    let whole : eight ++ after ≡ left = (λ i. e i ++ a i) ∙ take-append-drop 8 left in
    let text : digits ++ behind ≡ rest = (λ i. d i ++ b i) ∙ take-append-drop 16 rest in
    sym text ∙ (λ i. sym same i ++ is i) ∙ sym (append_assoc (encode_upper eight) (encode_upper after) tail)
    ∙ ap (λ l. l ++ tail) (sym (upper-parts eight after) ∙ ap encode_upper whole)

-- a front that is the hex of some bytes
pub front_written : (text front : List ℕ) (n : ℕ) (bytes : List ℕ) → front ≡ take 16 text → 2 * n ≤ 16 → encode_upper bytes ≡ take (2 * n) front
    → text ≡ encode_upper bytes ++ drop (2 * n) text
front_written text front n bytes f few is =
    sym (take-append-drop (2 * n) text) ∙ ap (λ l. l ++ drop (2 * n) text) (sym (is ∙ ap (take (2 * n)) f ∙ take-take (2 * n) 16 text few))

-- what follows two parts, one behind the other
pub hex_joined : (a b text between rest : List ℕ) → text ≡ encode_upper a ++ between → between ≡ encode_upper b ++ rest → text ≡ encode_upper (a ++ b) ++ rest
hex_joined a b text between rest t s =
    t ∙ ap (λ l. encode_upper a ++ l) s ∙ sym (append_assoc (encode_upper a) (encode_upper b) rest) ∙ ap (λ l. l ++ rest) (sym (upper-parts a b))

digit_small : (n : ℕ) → n < 16 → nat_lt (slice_index upper_digits n) 256 ≡ true
digit_small n below = agree_below_at (λ n. nat_lt (slice_index upper_digits n) 256) (λ n. true) 16 n refl below

both_same : (h l x y : ℕ) → h < 256 → l < 256 → nat_lt x 256 ≡ true → nat_lt y 256 ≡ true → h + 256 * l ≡ x + 256 * y → (x ≡ h) × (y ≡ l)
both_same h l x y hb lb xb yb e = grind (arith, nat_tests)

-- two digits that make the same number are the same
pub same_digits : (pair : List ℕ) (b high low : ℕ) → pair ≡ encode_upper (b ∷ []) → b < 256 → high < 256 → low < 256
    → high + 256 * low ≡ slice_index pair 0 + 256 * slice_index pair 1 → encode_upper (b ∷ []) ≡ high ∷ low ∷ []
unfolding encode_with
same_digits pair b high low is byte hb lb e =
    let same = both_same high low _ _ hb lb (digit_small (b / 16) (omega arith)) (digit_small (b % 16) (omega arith)) (rw is at e) in
    λ i. same.0 i ∷ same.1 i ∷ []

-- a byte more, by a place
pub byte_more : (text bytes : List ℕ) (i b high low : ℕ) → text ≡ encode_upper (take i bytes) ++ drop (2 * i) text → 2 * i + 2 ≤ length text
    → slice_get bytes i ≡ Some b → get_or text (2 * i) 0 ≡ high → get_or text (2 * i + 1) 0 ≡ low → encode_upper (b ∷ []) ≡ high ∷ low ∷ []
    → text ≡ encode_upper (take (i + 1) bytes) ++ drop (2 * (i + 1)) text
byte_more text bytes i b high low t room at h l spelled =
    let first = drop-cons text (2 * i) 0 (omega arith) in
    let second = drop-cons text (suc (2 * i)) 0 (omega arith) in
    let next : 2 * (i + 1) ≡ suc (suc (2 * i)) = omega arith in
    let after : suc (2 * i) ≡ 2 * i + 1 = omega arith in
    let rest : drop (2 * i) text ≡ high ∷ low ∷ drop (2 * (i + 1)) text =
    first ∙ ap (λ r. get_or text (2 * i) 0 ∷ r) second
    ∙ (λ j. h j ∷ (ap (λ k. get_or text k 0) after ∙ l) j ∷ drop (sym next j) text) in
    front-more text (take i bytes) (take (i + 1) bytes) (drop (2 * i) text) (drop (2 * (i + 1)) text) b high low t rest spelled (take_one bytes i b at)

-- ---- whole lines

line_joined : (functional : Bool) (who : ℕ) (m : List ℕ) (r : Option (List ℕ))
    → entry_line (asks who (request_of functional m) r) ≡ fronted (48 + who) (kind_code (request_kind functional)) (encode_upper m ++ 32 ∷ reply_text r)
line_joined true who m r = refl
line_joined false who m r = refl

pub usual_line : (functional : Bool) (who : ℕ) (m : List ℕ) (r : Option (List ℕ)) (text body rest : List ℕ)
    → text ≡ fronted (48 + who) (kind_code (request_kind functional)) body
    → body ≡ encode_upper m ++ 32 ∷ (reply_text r ++ 10 ∷ rest) → text ≡ entry_line (asks who (request_of functional m) r) ++ 10 ∷ rest
usual_line functional who m r text body rest t b =
    t ∙ ap (fronted (48 + who) (kind_code (request_kind functional))) (b ∙ sym (append_assoc (encode_upper m) (32 ∷ reply_text r) (10 ∷ rest)))
    ∙ ap (λ l. l ++ 10 ∷ rest) (sym (line_joined functional who m r))

pub ticks_line : (who count : ℕ) (text body rest : List ℕ) → text ≡ fronted (48 + who) (kind_code kind.Ticks) body → body ≡ decimal count ++ 10 ∷ rest
    → text ≡ entry_line (entry who (Ticks count) None) ++ 10 ∷ rest
ticks_line who count text body rest t b = t ∙ ap (fronted (48 + who) (kind_code kind.Ticks)) b

-- ---- a number at the front

pub number-first : (text tail : List ℕ) (first number : ℕ) → text ≡ first ∷ tail → 49 ≤ first → first ≤ 57 → number ≡ first - 48 → text ≡ decimal number ++ tail
number-first text tail first number t low high is =
    let one : first ≡ 48 + number = omega arith in
    t ∙ ap (λ c. c ∷ tail) one ∙ ap (λ l. l ++ tail) (sym (decimal_digit number (omega arith)))

pub number-more : (text rest tail : List ℕ) (number digit next : ℕ) → text ≡ decimal number ++ rest → rest ≡ digit ∷ tail → 1 ≤ number → number ≤ 6000
    → 48 ≤ digit → digit ≤ 57
    → next ≡ number * 10 + (digit - 48) → text ≡ decimal next ++ tail
number-more text rest tail number digit next t r some few low high is =
    let front : next / 10 ≡ number = omega arith in
    let end : 48 + next % 10 ≡ digit = omega arith in
    let step : decimal next ≡ decimal number ++ digit ∷ [] = decimal_step next (omega arith) (omega arith) ∙ (λ i. decimal (front i) ++ (end i ∷ [])) in
    t ∙ ap (λ l. decimal number ++ l) r ∙ sym (append_assoc (decimal number) (digit ∷ []) tail) ∙ ap (λ l. l ++ tail) (sym step)

-- the byte at the front, and what follows it
pub front_one : (rest : List ℕ) → 1 ≤ length rest → rest ≡ get_or rest 0 0 ∷ take (length rest - 1) (drop 1 rest)
front_one [] one = absurd (omega arith)
front_one (x ∷ rest) one = ap (λ l. x ∷ l) (sym (take_all (length (x ∷ rest) - 1) rest (omega arith)))
