-- A line of the usual form at the front of a text.
use Rattle.std.proofs.Common.{◌≡◌, ◌==◌, ◌⊎◌, ℕ, ◌+◌, ◌-◌, ◌<◌, ◌≤◌, nat_lt, true, false, cond, List, [], ◌∷◌, ◌++◌, append_assoc, length, length-append, take, drop, get_or, Some, None, Ok, refl, subst, sym, ap, ◌∙◌, arith, inl, inr, drop-cons, length-take-le, length-drop}
use Rattle.std.specs.List.{prefix_len}
use Rattle.std.proofs.lemmas.Bool.{agree_below, agree_below_at, cases_lt, eqb-true, ne_eqb}
use Rattle.std.proofs.lemmas.Bool.Decides.{nat_tests}
use Rattle.std.proofs.lemmas.Grind.{get_or_default_zero}
use Rattle.std.proofs.lemmas.List.{drop-append-le, get_or-drop, get_or-take, take-append-le, take_all, take_at}
use Rattle.std.proofs.lemmas.List.Elements.{All-append, All-cons, All-nil}
use Rattle.std.proofs.lemmas.List.Sums.{prefix_len_passes}
use lib.Seq.{drop-append_seam}
use Rattle.hex.specs.Hex.{is_hex_digit}
use Rattle.diag_can.specs.BusLine.{HasNoFeed, IsFirstLine}
use Rattle.diag_can.specs.Lanes.{IsRunIn, IsWithin}
use Rattle.diag_can.specs.Line.{line_says}
use Rattle.diag_can.specs.Log.{is_feed, without_return}
use Rattle.diag_can.specs.Stamp.{behind, is_mark, is_no_space}
use Rattle.diag_can.specs.Usual.{BeginsFramed, HasDigits, IsFd, IsFramed, IsUsual}
use Rattle.diag_can.specs.declared.bus_line.BusLine.{BusLine}
use Rattle.diag_can.specs.declared.frame.KnownId.{KnownId}
use Rattle.diag_can.proofs.UsualLines.{bus_line-short}
use Rattle.diag_can.proofs.Windows.{back_least, back_most, framed_within, front_least, front_most}

plain : (c : ℕ) → 10 < c → is_feed c ≡ false
plain c above = grind (arith, nat_tests)

above_feed : (text least most : List ℕ) (at : ℕ) → agree_below (λ k. nat_lt 10 (get_or least k 0)) (λ _. true) 16 ≡ true → IsWithin text at least most
    → (k : ℕ) → at ≤ k → k < at + 16 → is_feed (get_or text k 0) ≡ false
above_feed text least most at all w k from to =
    let j : ℕ = k - at in
    let here : at + j ≡ k = omega arith in
    let bounds = rw here at (w j (omega arith)) in
    let low : nat_lt 10 (get_or least j 0) ≡ true = agree_below_at (λ k. nat_lt 10 (get_or least k 0)) (λ _. true) 16 j all (omega arith) in
    plain (get_or text k 0) (over (get_or least j 0) (get_or text k 0) low bounds.0)
  where
    over : (a b : ℕ) → nat_lt 10 a ≡ true → a ≤ b → 10 < b
    over a b low le = grind (arith, nat_tests)

-- ---- its stamp and name

module _ (text : List ℕ) (word : ℕ) (long : 28 ≤ length text) (front : IsWithin text 0 front_least front_most) (back : IsWithin text 4 back_least back_most)
    (name : IsRunIn is_mark text 20 8 word) (some : 1 ≤ word) (few : word ≤ 6) (space : get_or text (20 + word) 0 ≡ 32)
    (next : (get_or text (21 + word) 0 == 32) ≡ false) where
  marked : (c : ℕ) → is_mark c ≡ true → 32 < c
  marked c mark = grind (arith, nat_tests)

  no_space : (c : ℕ) → 32 < c → is_no_space c ≡ true
  no_space c mark = grind (arith, nat_tests)

  -- a name ends at its first space, however long the line is
  name_in : (n : ℕ) → 21 + word < n → IsRunIn is_no_space (take n text) 20 8 word
  name_in n room = record {
    in_range = omega arith;
    pass = λ k from to. ap is_no_space (get_or-take n text k 0 (omega arith)) ∙ no_space (get_or text k 0) (marked _ (name.pass k from to));
    stops = λ _. ap is_no_space (get_or-take n text (20 + word) 0 (omega arith) ∙ space);
  }

  within_in : (n at : ℕ) (least most : List ℕ) → at + 16 ≤ n → IsWithin text at least most → IsWithin (take n text) at least most
  within_in n at least most room w j lt = rw (get_or-take n text (at + j) 0 (omega arith)) (w j lt)

  no_feed_at : (k : ℕ) → k < 21 + word → is_feed (get_or text k 0) ≡ false
  no_feed_at k lt = elim (cases_lt k 16) [
    | inl low ↦ above_feed text front_least front_most 0 refl front k (omega arith) (omega arith)
    | inr high ↦ elim (cases_lt k 20) [
      | inl middle ↦ above_feed text back_least back_most 4 refl back k (omega arith) (omega arith)
      | inr later ↦ elim (cases_lt k (20 + word)) [
        | inl named ↦ plain (get_or text k 0) (omega (arith, marked (get_or text k 0) (name.pass k later named)))
        | inr last ↦ let end : k ≡ 20 + word = omega arith in rw (end, space) refl
      ]
    ]
  ]

  pub begins_framed : BeginsFramed text (21 + word)
  begins_framed = record {
    long = long;
    after = omega arith;
    before = omega arith;
    plain = λ k d lt.
        let inside : k < 21 + word = omega (arith, length-take-le (21 + word) text (omega arith), lt) in
        ap is_feed (get_or-take (21 + word) text k d inside ∙ get_or_default_zero text k d (omega arith)) ∙ no_feed_at k inside;
    framed = λ n least most.
        framed_within (take n text) word (omega (arith, length-take-le n text most, least)) (within_in n 0 front_least front_most (omega arith) front)
        (within_in n 4 back_least back_most (omega arith) back) (name_in n least) some few
        (ap (λ (c : ℕ). c == 32) (get_or-take n text (21 + word) 0 (omega arith)) ∙ next);
  }

-- ---- its frame, and the line feed behind it

plain_digit : (c : ℕ) → is_hex_digit c ≡ true → (is_feed c ≡ false) × ((13 == c) ≡ false)
plain_digit c digit = (ne_eqb c 10 (λ e. cc (sym (ap is_hex_digit e) ∙ digit)), ne_eqb 13 c (λ e. cc (ap is_hex_digit e ∙ digit)))

begins_with : (byte : ℕ) (xs rest : List ℕ) → behind byte xs ≡ Some rest → get_or xs 0 0 ≡ byte
begins_with byte [] rest is = cc is
begins_with byte (c ∷ xs) rest is =
    elim (c == byte) as (λ b. (c == byte) ≡ b → cond b (Some xs) None ≡ Some rest → c ≡ byte) [
      | true ↦ λ same _. eqb-true c byte same
      | false ↦ λ _ none. cc none
    ] refl is

pub without_its_cr : (line : List ℕ) → without_return (line ++ 13 ∷ []) ≡ line
without_its_cr line =
    let before : length (line ++ 13 ∷ []) - 1 ≡ length line = omega (arith, length-append line (13 ∷ [])) in
    let last : drop (length (line ++ 13 ∷ []) - 1) (line ++ 13 ∷ []) ≡ 13 ∷ [] = rw before (drop-append_seam line (13 ∷ [])) in
    rw last (rw before (take_at line (13 ∷ []) (length line) refl))

-- a text without what follows its first line feed, and without that
pub front_is : (text whole after : List ℕ) → text ≡ whole ++ 10 ∷ after → take (length text - length after - 1) text ≡ whole
front_is text whole after is =
    let size : length text - length after - 1 ≡ length whole = omega (arith, ap length is, length-append whole (10 ∷ after)) in
    rw size (ap (take (length whole)) is ∙ take_at whole (10 ∷ after) (length whole) refl)

-- an identifier that was read in what stands behind a place
module _ (text part rest : List ℕ) (place width : ℕ) (cut : part ≡ take (length text - place) (drop place text)) (run : prefix_len is_hex_digit part ≡ width)
    (hash : behind 35 (drop width part) ≡ Some rest) where
  at_part : (k : ℕ) → get_or part k 0 ≡ get_or text (place + k) 0
  at_part k =
      ap (λ (t : List ℕ). get_or t k 0) (cut ∙ take_all (length text - place) (drop place text) (omega (arith, length-drop place text))) ∙ get_or-drop place text k 0

  pub id_digits : (k : ℕ) → place ≤ k → k < place + width → is_hex_digit (get_or text k 0) ≡ true
  id_digits k from to =
      let here : place + (k - place) ≡ k = omega arith in
      rw here at (ap is_hex_digit (sym (at_part (k - place))) ∙ prefix_len_passes is_hex_digit part (k - place) 0 (omega (arith, run)))

  pub id_mark : get_or text (place + width) 0 ≡ 35
  id_mark =
      let here : width + 0 ≡ width = omega arith in
      sym (at_part width) ∙ (rw here at (sym (get_or-drop width part 0 0))) ∙ begins_with 35 (drop width part) rest hash

-- the text has a line at its front, whose stamp and name were read
module _ (text line after : List ℕ) (place : ℕ) (f : BeginsFramed text place) (inside : place < length line)
    (ends : (text ≡ line ++ 10 ∷ after) ⊎ (text ≡ line ++ 13 ∷ 10 ∷ after)) where
  -- the text begins with it
  begins : (rest : List ℕ) × (text ≡ line ++ rest)
  begins = elim ends [
    | inl feed ↦ (10 ∷ after, feed)
    | inr both ↦ (13 ∷ 10 ∷ after, both)
  ]

  fits : length line ≤ length text
  fits = omega (arith, ap length begins.1, length-append line begins.0)

  taken : take (length line) text ≡ line
  taken = ap (take (length line)) begins.1 ∙ take_at line begins.0 (length line) refl

  pub line_at : (k : ℕ) → k < length line → get_or line k 0 ≡ get_or text k 0
  line_at k lt = ap (λ (t : List ℕ). get_or t k 0) (sym taken) ∙ get_or-take (length line) text k 0 lt

  pub is_framed : IsFramed line place
  is_framed = subst (λ (l : List ℕ). IsFramed l place) taken (f.framed (length line) inside fits)

  -- and nothing in its frame ends it
  module _ (few : length line ≤ 4095)
      (frame_plain : (k : ℕ) → place ≤ k → k < length line → (is_feed (get_or line k 0) ≡ false) × ((13 == get_or line k 0) ≡ false)) where
    -- it ends with no CR
    without_cr : without_return line ≡ line
    without_cr =
        let last = drop-cons line (length line - 1) 0 (omega arith) in
        let other : (13 == get_or line (length line - 1) 0) ≡ false = (frame_plain (length line - 1) (omega arith) (omega arith)).1 in
        rw (last, other) refl

    line_plain : HasNoFeed line
    line_plain = λ k d lt. ap is_feed (get_or_default_zero line k d lt) ∙ no_feed k lt
      where
        no_feed : (k : ℕ) → k < length line → is_feed (get_or line k 0) ≡ false
        no_feed k lt = elim (cases_lt k place) [
          | inl before ↦
              ap is_feed (line_at k lt ∙ sym (get_or-take place text k 0 before)) ∙ f.plain k 0 (omega (arith, length-take-le place text (omega (arith, fits, inside))))
          | inr behind ↦ (frame_plain k behind lt).0
        ]

    -- with an LF behind it, or a CR and an LF
    abbrev whole : List ℕ
    whole = take (length text - length after - 1) text

    ended : (text ≡ whole ++ 10 ∷ after) × HasNoFeed whole × (length whole ≤ length line + 1) × (without_return whole ≡ line)
    ended = elim ends [
      | inl feed ↦ ends_in line feed line_plain (omega arith) without_cr
      | inr both ↦ ends_in (line ++ 13 ∷ []) (both ∙ sym (append_assoc line (13 ∷ []) (10 ∷ after)))
          (All-append (λ c. is_feed c ≡ false) line (13 ∷ []) line_plain (All-cons (λ c. is_feed c ≡ false) 13 [] refl (All-nil (λ c. is_feed c ≡ false))))
          (omega (arith, length-append line (13 ∷ []))) (without_its_cr line)
    ]
      where
        ends_in : (w : List ℕ) → text ≡ w ++ 10 ∷ after → HasNoFeed w → length w ≤ length line + 1 → without_return w ≡ line
            → (text ≡ whole ++ 10 ∷ after) × HasNoFeed whole × (length whole ≤ length line + 1) × (without_return whole ≡ line)
        ends_in w is none few same =
            subst (λ (t : List ℕ). (text ≡ t ++ 10 ∷ after) × HasNoFeed t × (length t ≤ length line + 1) × (without_return t ≡ line)) (sym (front_is text w after is)) (is, none, few, same)

    -- it is the first line, which says this where these identifiers are read
    pub first_line : (known : List KnownId) (said : BusLine) → line_says known line ≡ Ok said → IsFirstLine known text whole after (Some said)
    first_line known said says = record {
      is = ended.0;
      plain = ended.1;
      says = bus_line-short known whole line said (let more = ended.2 in omega arith) (sym ended.3) says;
    }

-- the text has such a line at its front, whose parts were read
module _ (text line after : List ℕ) (place width : ℕ) (f : BeginsFramed text place) (h : HasDigits text line after (place + width + 1)) where
  within : place < length line
  within = let inside = h.inside in omega arith

  pub in_line : (k : ℕ) → k < length line → get_or line k 0 ≡ get_or text k 0
  in_line = line_at text line after place f within h.ends

  pub shorter : length after < length text
  shorter = elim h.ends [
    | inl feed ↦ omega (arith, ap length feed, length-append line (10 ∷ after))
    | inr both ↦ omega (arith, ap length both, length-append line (13 ∷ 10 ∷ after))
  ]

  -- what stands behind the place in the text begins with the same digits as in the line
  pub same_digits : (part : List ℕ) → part ≡ take (length text - place) (drop place text) → take width part ≡ take width (drop place line)
  same_digits part cut =
      let inside = h.inside in
      let rest = begins text line after place f within h.ends in
      let whole : part ≡ drop place text = cut ∙ take_all (length text - place) (drop place text) (omega (arith, length-drop place text)) in
      ap (take width) (whole ∙ (ap (drop place) rest.1 ∙ drop-append-le place line rest.0 (omega arith)))
      ∙ take-append-le width (drop place line) rest.0 (omega (arith, length-drop place line))

  module _ (id : (k : ℕ) → place ≤ k → k < place + width → is_hex_digit (get_or text k 0) ≡ true) (mark : get_or text (place + width) 0 ≡ 35) where
    line_digit : (k : ℕ) → place ≤ k → k < place + width → is_hex_digit (get_or line k 0) ≡ true
    line_digit k from to = ap is_hex_digit (in_line k (let inside = h.inside in omega arith)) ∙ id k from to

    line_mark : get_or line (place + width) 0 ≡ 35
    line_mark = in_line (place + width) (let inside = h.inside in omega arith) ∙ mark

    pub is_usual : IsUsual line place width
    is_usual =
        let inside = h.inside in
        let few = h.few in
        record {
          framed = is_framed text line after place f within h.ends;
          inside = inside;
          few = omega arith;
          even = h.even;
          id = line_digit;
          mark = line_mark;
          digits = h.digits;
        }

    -- no line ends in its frame
    frame_plain : (k : ℕ) → place ≤ k → k < length line → (is_feed (get_or line k 0) ≡ false) × ((13 == get_or line k 0) ≡ false)
    frame_plain k inside lt = elim (cases_lt k (place + width)) [
      | inl digit ↦ plain_digit (get_or line k 0) (line_digit k inside digit)
      | inr later ↦ elim (cases_lt k (place + width + 1)) [
        | inl hash ↦ let here : k ≡ place + width = omega arith in rw (here, line_mark) (refl, refl)
        | inr further ↦ plain_digit (get_or line k 0) (h.digits k further lt)
      ]
    ]

    pub said_line : (known : List KnownId) (said : BusLine) → width ≤ 8 → line_says known line ≡ Ok said
        → IsFirstLine known text (take (length text - length after - 1) text) after (Some said)
    said_line known said narrow says =
        let few = h.few in
        let before = f.before in
        first_line text line after place f within h.ends (omega arith) frame_plain known said says

-- the same of a line of CAN FD, with up to 128 digits behind its flags
module _ (text line after : List ℕ) (place : ℕ) (f : BeginsFramed text place) (inside : place + 6 ≤ length line)
    (ends : (text ≡ line ++ 10 ∷ after) ⊎ (text ≡ line ++ 13 ∷ 10 ∷ after)) (few : length line ≤ place + 134)
    (id : (k : ℕ) → place ≤ k → k < place + 3 → is_hex_digit (get_or text k 0) ≡ true) (mark : get_or text (place + 3) 0 ≡ 35)
    (second : get_or text (place + 4) 0 ≡ 35) (digits : (k : ℕ) → place + 5 ≤ k → k < length line → is_hex_digit (get_or text k 0) ≡ true) where
  beyond : place < length line
  beyond = omega arith

  same : (k : ℕ) → k < length line → get_or line k 0 ≡ get_or text k 0
  same = line_at text line after place f beyond ends

  pub is_fd : IsFd line place
  is_fd = record {
    framed = is_framed text line after place f beyond ends;
    inside = inside;
    few = few;
    id = λ k from to. ap is_hex_digit (same k (omega arith)) ∙ id k from to;
    mark = same (place + 3) (omega arith) ∙ mark;
    second = same (place + 4) (omega arith) ∙ second;
    digits = λ k from to. ap is_hex_digit (same k to) ∙ digits k from to;
  }

  fd_plain : (k : ℕ) → place ≤ k → k < length line → (is_feed (get_or line k 0) ≡ false) × ((13 == get_or line k 0) ≡ false)
  fd_plain k from lt = rw (same k lt) (elim (cases_lt k (place + 3)) [
    | inl digit ↦ plain_digit (get_or text k 0) (id k from digit)
    | inr later ↦ elim (cases_lt k (place + 4)) [
      | inl hash ↦ let here : k ≡ place + 3 = omega arith in rw (here, mark) (refl, refl)
      | inr next ↦ elim (cases_lt k (place + 5)) [
        | inl hash ↦ let here : k ≡ place + 4 = omega arith in rw (here, second) (refl, refl)
        | inr further ↦ plain_digit (get_or text k 0) (digits k further lt)
      ]
    ]
  ])

  pub fd_line : (known : List KnownId) (said : BusLine) → line_says known line ≡ Ok said
      → IsFirstLine known text (take (length text - length after - 1) text) after (Some said)
  fd_line known said says =
      let before = f.before in
      first_line text line after place f beyond ends (omega arith) fd_plain known said says
