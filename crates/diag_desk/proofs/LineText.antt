-- What lines say has one spelling.
use Rattle.std.proofs.Common.{◌≡◌, ℕ, ◌+◌, ◌*◌, ◌%◌, ◌^◌, ◌<◌, ◌≤◌, ◌==◌, Bool, true, false, List, [], ◌∷◌, ◌++◌, length, get_or, drop, Option, Some, None, Result, refl, sym, ap, ◌∙◌, arith, decimal, eq-eqb}
use Rattle.std.specs.Prelude.{codes, IsOk}
use Rattle.std.specs.List.{list_all}
use Rattle.std.specs.Result.{result_unwrap_or}
use Rattle.std.specs.Str.Parse.{AllDigits}
use Rattle.std.proofs.lemmas.Bool.{and_parts}
use Rattle.std.proofs.lemmas.Fmt.{decimal_is_IsNumeral, decimal_injective}
use Rattle.std.proofs.lemmas.List.Sums.{AllPass-from_list_all}
use Rattle.hex.specs.Hex.{decode_of, encode_upper, is_hex_digit, upper_digits}
use Rattle.hex.specs.declared.error.FromHexError.{FromHexError}
use Rattle.hex.proofs.HexLemmas.{decode_of-digits, decode_of-encode_upper, decode_of-ok, decode_sized-twice, length-encode_with}
use Rattle.diag_desk.proofs.HexText.{encode-decode_sized, upper-encode}
use Rattle.diag_desk.proofs.CutText.{Above, above-free, cut-there, same_cut}
use Rattle.diag_desk.specs.Cut.{cut}
use Rattle.diag_desk.specs.Entry.{IsEntry, IsMessage, IsReply, IsStep}
use Rattle.diag_desk.specs.Text.{IsNoReply, entry_line, is_upper_digit, kind_text, reply_text, step_text}
use Rattle.diag_desk.specs.Line.{HasBody, IsHex, decoded, fronted, kind_code, request_kind}
use Rattle.diag_pdu.specs.Request.{request_of}
use Rattle.diag_pdu.specs.declared.step.Step.{Step}
use Rattle.diag_pdu.specs.declared.step.Step.TheVariants.{Request, Ticks}
use Rattle.diag_desk.specs.declared.entry.Entry.{Entry}
use Rattle.diag_desk.specs.declared.line.Kind.{Kind}
use Rattle.diag_desk.specs.declared.line.Kind.TheVariants as kind

-- ---- which bytes texts have

digit_above : (x : ℕ) → is_upper_digit x ≡ true → 32 < x
digit_above x h = grind arith

upper_above : (s : List ℕ) → list_all is_upper_digit s ≡ true → Above 32 s
upper_above [] h = tt
upper_above (x ∷ xs) h = let parts = and_parts (is_upper_digit x) (list_all is_upper_digit xs) h in (digit_above x parts.0, upper_above xs parts.1)

pub hex_above : (m : List ℕ) → IsMessage m → Above 32 (encode_upper m)
hex_above m h = upper_above (encode_upper m) (upper-encode m h.2)

digits_above : (ds : List ℕ) → AllDigits 10 ds → Above 32 ds
digits_above [] h = tt
digits_above (c ∷ cs) h = (grind (arith, h.0), digits_above cs h.1)

pub decimal_above : (n : ℕ) → n < 2 ^ 64 → Above 32 (decimal n)
decimal_above n h = digits_above (decimal n) (decimal_is_IsNumeral n h).0.1

-- ---- messages

pub message_same : (m n : List ℕ) → IsMessage m → IsMessage n → encode_upper m ≡ encode_upper n → m ≡ n
message_same m n h k e =
    ap (λ (r : Result (List ℕ) FromHexError). result_unwrap_or r []) (sym (decode_of-encode_upper m h.2) ∙ ap decode_of e ∙ decode_of-encode_upper n k.2)

upper_is_digit : (x : ℕ) → is_upper_digit x ≡ true → is_hex_digit x ≡ true
upper_is_digit x h = grind arith

upper_are_digits : (s : List ℕ) → list_all is_upper_digit s ≡ true → list_all is_hex_digit s ≡ true
upper_are_digits [] h = refl
upper_are_digits (x ∷ xs) h =
    let parts = and_parts (is_upper_digit x) (list_all is_upper_digit xs) h in
    rw (upper_is_digit x parts.0) (upper_are_digits xs parts.1)

-- an even number of upper-case digits is the hex of a message
pub hex-is : (s : List ℕ) → list_all is_upper_digit s ≡ true → length s % 2 ≡ 0 → 2 ≤ length s → length s ≤ 131070 → IsHex s
hex-is s upper even some within =
    let read = decode_of-digits s even (AllPass-from_list_all is_hex_digit s (upper_are_digits s upper)) in
    let facts = decode_of-ok s read.0 read.1 in
    let value : decoded s ≡ read.0 = ap (λ (r : Result (List ℕ) FromHexError). result_unwrap_or r []) read.1 in
    let sized = decode_sized-twice s (length read.0) facts.2 ∙ read.1 in
    rw value ((omega (arith, facts.2), omega (arith, facts.2), facts.3), encode-decode_sized s (length read.0) read.0 upper sized)

-- a reply's text is no text of no reply
pub some_reply : (r : Option (List ℕ)) (text : List ℕ) → IsReply r → reply_text r ≡ text → IsNoReply text → ⊥
some_reply None text h e none = none.0 (sym e)
some_reply (Some m) text h e none = none.1 m h e

dash_is_no_hex : (m : List ℕ) → codes "-" ≡ encode_upper m → ⊥
dash_is_no_hex m e =
    let len : 1 ≡ length (encode_upper m) = ap length e in
    absurd (omega (arith, len, length-encode_with upper_digits m))

pub reply_same : (r s : Option (List ℕ)) → IsReply r → IsReply s → reply_text r ≡ reply_text s → r ≡ s
reply_same None None h k e = refl
reply_same None (Some n) h k e = absurd (dash_is_no_hex n e)
reply_same (Some m) None h k e = absurd (dash_is_no_hex m (sym e))
reply_same (Some m) (Some n) h k e = ap Some (message_same m n h k e)

-- ---- steps

-- texts that differ in their second byte
apart : (l m : List ℕ) → l ≡ m → (get_or l 1 0 == get_or m 1 0) ≡ false → ⊥
apart l m e other =
    let same : get_or l 1 0 ≡ get_or m 1 0 = ap (λ t. get_or t 1 0) e in
    cc (sym other ∙ eq-eqb (get_or l 1 0) (get_or m 1 0) same)

-- the text of a kind tells it, and what follows it
kind_same : (f g : Bool) (l m : List ℕ) → kind_text f ++ l ≡ kind_text g ++ m → (f ≡ g) × (l ≡ m)
kind_same true true l m e = (refl, ap (drop 3) e)
kind_same false false l m e = (refl, ap (drop 3) e)
kind_same true false l m e = absurd (apart _ _ e refl)
kind_same false true l m e = absurd (apart _ _ e refl)

no_ticks : (f : Bool) (l m : List ℕ) → kind_text f ++ l ≡ codes " T " ++ m → ⊥
no_ticks true l m e = apart _ _ e refl
no_ticks false l m e = apart _ _ e refl

kind_above : (f : Bool) (l : List ℕ) → Above 10 l → Above 10 (kind_text f ++ l)
kind_above true l h = (omega arith, (omega arith, (omega arith, h)))
kind_above false l h = (omega arith, (omega arith, (omega arith, h)))

kind_code_is : (f : Bool) (l : List ℕ) → kind_text f ++ l ≡ 32 ∷ kind_code (request_kind f) ∷ 32 ∷ l
kind_code_is true l = refl
kind_code_is false l = refl

body_same : (f g : Bool) (l body : List ℕ) → kind_text g ++ l ≡ 32 ∷ kind_code (request_kind f) ∷ 32 ∷ body → l ≡ body
body_same f g l body e = (kind_same g f l body (e ∙ sym (kind_code_is f body))).1

pub record RequestBody (r : Option (List ℕ)) (body : List ℕ) : Type 0 where
  pub message : List ℕ
  pub is_message : IsMessage message
  pub is_reply : IsReply r
  pub cuts : cut 32 body ≡ Some (encode_upper message, reply_text r)

cut_request : (m : List ℕ) (r : Option (List ℕ)) (body : List ℕ) → IsMessage m → encode_upper m ++ (32 ∷ reply_text r) ≡ body
    → cut 32 body ≡ Some (encode_upper m, reply_text r)
cut_request m r body h e = ap (cut 32) (sym e) ∙ cut-there 32 (encode_upper m) (reply_text r) (above-free 32 (encode_upper m) (hex_above m h))

-- the body of a request
pub request-body : (functional : Bool) (body : List ℕ) (s : Step) (r : Option (List ℕ)) → IsStep s r → HasBody (request_kind functional) s r body
    → RequestBody r body
request-body true body (Ticks n) r h e = absurd (apart _ _ e refl)
request-body false body (Ticks n) r h e = absurd (apart _ _ e refl)
request-body functional body (Request request) r h e = record {
  message = request.message;
  is_message = h.0;
  is_reply = h.1;
  cuts = cut_request request.message r body h.0 (body_same functional request.functional (encode_upper request.message ++ (32 ∷ reply_text r)) body e);
}

-- a request's text is put together from its parts
pub request-text : (functional : Bool) (m : List ℕ) (r : Option (List ℕ)) (message reply body : List ℕ) → encode_upper m ≡ message
    → reply_text r ≡ reply → body ≡ message ++ 32 ∷ reply
    → HasBody (request_kind functional) (Request (request_of functional m)) r body
request-text true m r message reply body a b e = ap (λ l. 32 ∷ 70 ∷ 32 ∷ l) ((λ i. a i ++ (32 ∷ b i)) ∙ sym e)
request-text false m r message reply body a b e = ap (λ l. 32 ∷ 80 ∷ 32 ∷ l) ((λ i. a i ++ (32 ∷ b i)) ∙ sym e)

-- each step's text has a kind and a body
pub has_body : (s : Step) (r : Option (List ℕ)) → (k : Kind) × (body : List ℕ) × HasBody k s r body
has_body (Request request) r =
    (request_kind request.functional, encode_upper request.message ++ (32 ∷ reply_text r), kind_code_is request.functional _)
has_body (Ticks n) r = (kind.Ticks, decimal n, refl)

-- ---- whole lines

pub record LineParts (e : Entry) : Type 0 where
  pub the_kind : Kind
  pub body : List ℕ
  pub has : HasBody the_kind e.step e.reply body
  pub front : fronted (48 + e.who) (kind_code the_kind) body ≡ entry_line e

pub line_parts : (e : Entry) → LineParts e
line_parts e =
    let parts = has_body e.step e.reply in
    record {
      the_kind = parts.0;
      body = parts.1;
      has = parts.2;
      front = ap (λ l. (48 + e.who) ∷ l) (sym parts.2);
    }

step_same : (s t : Step) (p q : Option (List ℕ)) → IsStep s p → IsStep t q → step_text s p ≡ step_text t q → (s ≡ t) × (p ≡ q)
step_same (Request a) (Request b) p q h k e =
    let kind = kind_same a.functional b.functional _ _ e in
    let both = same_cut 32 (encode_upper a.message) (encode_upper b.message) (reply_text p) (reply_text q) (above-free 32 _ (hex_above a.message h.0))
    (above-free 32 _ (hex_above b.message k.0)) kind.1 in
    let message = message_same a.message b.message h.0 k.0 both.0 in
    (λ i. Request (request_of (kind.0 i) (message i)), reply_same p q h.1 k.1 both.1)
step_same (Request a) (Ticks n) p q h k e = absurd (no_ticks a.functional _ _ e)
step_same (Ticks m) (Request b) p q h k e = absurd (no_ticks b.functional _ _ (sym e))
step_same (Ticks m) (Ticks n) p q h k e =
    let count : m ≡ n = decimal_injective m n (omega (arith, h.1)) (omega (arith, k.1)) (ap (drop 3) e) in
    (ap Ticks count, h.2 ∙ sym k.2)

-- two entries of one line are one
pub entry_same : (e f : Entry) → IsEntry e → IsEntry f → entry_line e ≡ entry_line f → e ≡ f
entry_same e f h k is =
    let digit : 48 + e.who ≡ 48 + f.who = ap (λ l. get_or l 0 0) is in
    let who : e.who ≡ f.who = omega arith in
    let both = step_same e.step f.step e.reply f.reply h.2 k.2 (ap (drop 1) is) in
    λ i. record { who = who i; step = both.0 i; reply = both.1 i }

above_append : (n : ℕ) (xs ys : List ℕ) → Above n xs → Above n ys → Above n (xs ++ ys)
above_append n [] ys h k = k
above_append n (x ∷ xs) ys h k = (h.0, above_append n xs ys h.1 k)

above_lower : (n m : ℕ) (xs : List ℕ) → n ≤ m → Above m xs → Above n xs
above_lower n m [] le h = tt
above_lower n m (x ∷ xs) le h = let first = h.0 in (omega arith, above_lower n m xs le h.1)

reply_above : (r : Option (List ℕ)) → IsReply r → Above 32 (reply_text r)
reply_above None h = (omega arith, tt)
reply_above (Some m) h = hex_above m h

pub low_append : (xs ys : List ℕ) → Above 32 xs → Above 10 ys → Above 10 (xs ++ 32 ∷ ys)
low_append xs ys h k = above_append 10 xs (32 ∷ ys) (above_lower 10 32 xs (omega arith) h) (omega arith, k)

-- no line has an end in it
step_above : (s : Step) (r : Option (List ℕ)) → IsStep s r → Above 10 (step_text s r)
step_above (Request request) r h =
    kind_above request.functional _
    (low_append (encode_upper request.message) (reply_text r) (hex_above request.message h.0) (above_lower 10 32 _ (omega arith) (reply_above r h.1)))
step_above (Ticks n) r h = (omega arith, (omega arith, (omega arith, above_lower 10 32 _ (omega arith) (decimal_above n (omega (arith, h.1))))))

pub line_above : (e : Entry) → IsEntry e → Above 10 (entry_line e)
line_above e h = (omega arith, step_above e.step e.reply h.2)

-- an entry's line is put together from its parts
pub line_joined : (line : List ℕ) (who digit letter : ℕ) (body : List ℕ) (k : Kind) (s : Step) (r : Option (List ℕ))
    → line ≡ fronted digit letter body → 48 + who ≡ digit → kind_code k ≡ letter → HasBody k s r body
    → (48 + who) ∷ step_text s r ≡ line
line_joined line who digit letter body k s r e p q has =
    ap (λ l. (48 + who) ∷ l) has ∙ (λ i. fronted (p i) (q i) body) ∙ sym e

-- hex text is twice as long as its bytes
pub hex_length : (s : List ℕ) → IsHex s → length s ≡ 2 * length (decoded s)
hex_length s h = ap length (sym h.1) ∙ length-encode_with upper_digits (decoded s)

-- and it decodes
pub hex_decodes : (s : List ℕ) → IsHex s → IsOk (decode_of s)
hex_decodes s h = rw (ap decode_of (sym h.1) ∙ decode_of-encode_upper (decoded s) h.0.2) refl

-- the text of a stamped line is cut after its stamp
pub cut_stamp : (n : ℕ) (line text : List ℕ) → n < 2 ^ 64 → decimal n ++ (32 ∷ line) ≡ text → cut 32 text ≡ Some (decimal n, line)
cut_stamp n line text h e = ap (cut 32) (sym e) ∙ cut-there 32 (decimal n) line (above-free 32 (decimal n) (decimal_above n h))
