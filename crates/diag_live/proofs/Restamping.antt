-- A line with the null stamp says what it said with its own.
use Rattle.diag_can.specs.declared.frame.KnownId.{KnownId}
use Rattle.std.proofs.Common.{suc, ◌≡◌, ◌⊎◌, ℕ, ◌+◌, ◌-◌, ◌*◌, ◌^◌, ◌<◌, ◌≤◌, ◌==◌, nat_le, nat_lt, Bool, true, false, cond, List, [], ◌∷◌, ◌++◌, length, take, drop, get_or, Option, None, Some, Result, Ok, Err, codes, decimal, inl, inr, refl, sym, ap, subst, ◌∙◌, append_assoc, length-append, arith}
use Rattle.std.specs.Prelude.{◌&&◌}
use Rattle.std.specs.List.{after_first, ends_with, list_all, position_or_len, prefix_len, fold}
use Rattle.std.proofs.lemmas.List.{append_cancel_left, take-append-drop}
use Rattle.std.proofs.Math.Seq.{drop-append-add, take-append-add, drop-append_seam}
use Rattle.std.proofs.lemmas.Bool.Decides.{nat_tests}
use Rattle.std.proofs.lemmas.Option.{same_Some}
use Rattle.std.proofs.lemmas.List.Folds.{length-prefix_len}
use lib.Pointwise.{pointwise}
use Rattle.diag_can.specs.Stamp.{behind_name, digits_of, is_digit, stamp_of, ◌>>=◌, decimal_value}
use Rattle.diag_can.specs.Line.{is_decimal, is_time, line_says, stamped, stamped_frame, stamped_line, text_frame, tick_count, tick_line as tick_said}
use Rattle.diag_can.specs.Log.{without_return}
use Rattle.diag_can.specs.BusLine.{bus_line}
use Rattle.diag_can.specs.declared.bus_line.BusLine.{BusLine}
use Rattle.diag_can.specs.declared.bus_line.BusLine.TheVariants.{Ticks}
use Rattle.diag_can.specs.declared.fault.LineFault.{LineFault}
use Rattle.diag_can.specs.declared.fault.LineFault.TheVariants.{BadLine}
use Rattle.diag_can.specs.declared.frame.Frame.{Frame}
use Rattle.std.specs.Int.{IsInRange}
use Rattle.std.proofs.lemmas.Str.Parse.{FoldsDigits, IsDigitsTest, numerals_by_fold}
use Rattle.std.proofs.lemmas.Fmt.{digits_decimal, digits_value-decimal, first_decimal, length-decimal-le}
use Rattle.diag_can.proofs.TickFronts.{begins}
use Rattle.diag_bus.proofs.Stamps.{bind_some}
use Rattle.diag_live.specs.Live.{but_for_moment, is_close, null_stamp, restamped, tick_line}

-- ---- parts of a text

ok_same : {A E : Type 0} {x y : A} → ◌≡◌ {A = Result A E} (Ok x) (Ok y) → x ≡ y
ok_same h = cc

-- no byte closes a stamp
abbrev IsOpen : List ℕ → Type 0
IsOpen [] = Unit {0}
IsOpen (c ∷ text) = (is_close c ≡ false) × IsOpen text

open_join : (a b : List ℕ) → IsOpen a → IsOpen b → IsOpen (a ++ b)
open_join [] b x y = y
open_join (c ∷ a) b x y = (x.0, open_join a b x.1 y)

one_more : (n : ℕ) → suc n ≡ 1 + n
one_more n = omega arith

open_digits : (text : List ℕ) → IsOpen (take (prefix_len is_digit text) text)
open_digits [] = tt
open_digits (c ∷ text) = pick (is_digit c) refl (open_digits text)
  where
    pick : (b : Bool) → is_digit c ≡ b → IsOpen (take (prefix_len is_digit text) text) → IsOpen (take (cond b (1 + prefix_len is_digit text) 0) (c ∷ text))
    pick true digit rest = subst (λ n. IsOpen (take n (c ∷ text))) (one_more (prefix_len is_digit text)) (grind (arith, nat_tests, digit), rest)
    pick false digit rest = tt

-- what stands behind the first closing bracket
after_close : (text rest : List ℕ) → IsOpen text → after_first is_close (text ++ 41 ∷ rest) ≡ rest
after_close text rest opened = ap (λ n. drop (n + 1) (text ++ 41 ∷ rest)) (place text opened) ∙ drop-append-add text (41 ∷ rest) 1
  where
    place : (t : List ℕ) → IsOpen t → position_or_len is_close (t ++ 41 ∷ rest) ≡ length t
    place [] o = refl
    place (c ∷ t) o = rw o.0 (omega (arith, place t o.1))

-- ---- the parts of a stamp

-- a run of digits and what stands behind it
record Run (least : ℕ) (text digits rest : List ℕ) : Type 0 where
  pub is : text ≡ digits ++ rest
  pub some : least ≤ length digits
  pub opened : IsOpen digits

run_of : (least most : ℕ) (text : List ℕ) (r : List ℕ × List ℕ) → digits_of least most text ≡ Some r → Run least text r.0 r.1
run_of least most text r h = pick (nat_le least count && nat_le count most) refl h
  where
    count : ℕ
    count = prefix_len is_digit text

    pick : (b : Bool) → (nat_le least count && nat_le count most) ≡ b → cond b (Some (take count text, drop count text)) None ≡ Some r → Run least text r.0 r.1
    pick true within is =
        subst (λ (q : List ℕ × List ℕ). Run least text q.0 q.1) (same_Some _ _ is) (record {
          is = sym (take-append-drop count text);
          some = grind (arith, nat_tests, within, length-prefix_len is_digit text);
          opened = open_digits text;
        })
    pick false within is = cc is

-- a stamp, in its brackets, and what stands behind it
record Stamp (text rest : List ℕ) : Type 0 where
  pub inner : List ℕ
  pub is : text ≡ 40 ∷ inner ++ 41 ∷ rest
  pub long : 8 ≤ length inner
  pub opened : IsOpen inner

stamp_parts : (text : List ℕ) (m : ℕ × List ℕ) → stamp_of text ≡ Some m → Stamp text m.1
stamp_parts text m h =
    let a = bind_some _ _ m h in
    let b = bind_some _ _ m a.2 in
    let c = bind_some _ _ m b.2 in
    let d = bind_some _ _ m c.2 in
    let e = bind_some _ _ m d.2 in
    let seconds = run_of 1 12 a.0 b.0 b.1 in
    let fraction = run_of 6 9 c.0 d.0 d.1 in
    let dot = begins 46 b.0.1 c.0 c.1 in
    let close = begins 41 d.0.1 e.0 e.1 in
    let rest : e.0 ≡ m.1 = ap (λ (q : ℕ × List ℕ). q.1) (same_Some _ _ e.2) in
    let inner = b.0.0 ++ 46 ∷ d.0.0 in
    let tail : c.0 ≡ d.0.0 ++ 41 ∷ m.1 = fraction.is ∙ ap (λ (t : List ℕ). d.0.0 ++ t) (close ∙ ap (λ (t : List ℕ). 41 ∷ t) rest) in
    record {
      inner = inner;
      is =
          begins 40 text a.0 a.1
          ∙ (ap (λ (t : List ℕ). 40 ∷ t)
          (seconds.is ∙ (ap (λ (t : List ℕ). b.0.0 ++ t) (dot ∙ ap (λ (t : List ℕ). 46 ∷ t) tail)
          ∙ sym (append_assoc b.0.0 (46 ∷ d.0.0) (41 ∷ m.1)))));
      long = omega (arith, length-append b.0.0 (46 ∷ d.0.0), seconds.some, fraction.some);
      opened = open_join b.0.0 (46 ∷ d.0.0) seconds.opened (refl, fraction.opened);
    }

-- ---- the return at the end of a line

ends_in : (c : ℕ) (a rest : List ℕ) → (c == 13) ≡ false → ends_with ◌==◌ (a ++ c ∷ rest) (13 ∷ []) ≡ ends_with ◌==◌ rest (13 ∷ [])
ends_in c a [] other =
    let place : length (a ++ c ∷ []) - 1 ≡ length a = omega (arith, length-append a (c ∷ [])) in
    let last : drop (length (a ++ c ∷ []) - 1) (a ++ c ∷ []) ≡ c ∷ [] = ap (λ n. drop n (a ++ c ∷ [])) place ∙ drop-append_seam a (c ∷ []) in
    let no : (13 == c) ≡ false = grind (arith, nat_tests, other) in
    ap (pointwise ◌==◌ (13 ∷ [])) last ∙ (rw no refl)
ends_in c a (x ∷ rest) other =
    let place : length (a ++ c ∷ x ∷ rest) - 1 ≡ length a + suc (length rest) = omega (arith, length-append a (c ∷ x ∷ rest)) in
    let last : drop (length (a ++ c ∷ x ∷ rest) - 1) (a ++ c ∷ x ∷ rest) ≡ drop (length rest) (x ∷ rest) =
    ap (λ n. drop n (a ++ c ∷ x ∷ rest)) place ∙ drop-append-add a (c ∷ x ∷ rest) (suc (length rest)) in
    let same : length (x ∷ rest) - 1 ≡ length rest = omega arith in
    ap (pointwise ◌==◌ (13 ∷ [])) (last ∙ ap (λ n. drop n (x ∷ rest)) (sym same))

-- the return is looked for behind any other byte
return_law : (c : ℕ) (a rest : List ℕ) → (c == 13) ≡ false → without_return (a ++ c ∷ rest) ≡ a ++ c ∷ without_return rest
return_law c a rest other = ap (λ b. cond b (take (length (a ++ c ∷ rest) - 1) (a ++ c ∷ rest)) (a ++ c ∷ rest)) (ends_in c a rest other)
    ∙ pick rest (ends_with ◌==◌ rest (13 ∷ [])) refl
  where
    same : (n : ℕ) → n ≡ suc n - 1
    same n = omega arith

    pick : (r : List ℕ) (b : Bool) → ends_with ◌==◌ r (13 ∷ []) ≡ b
        → cond b (take (length (a ++ c ∷ r) - 1) (a ++ c ∷ r)) (a ++ c ∷ r) ≡ a ++ c ∷ cond b (take (length r - 1) r) r
    pick r false is = refl
    pick [] true is = absurd (false_true is)
      where
        false_true : false ≡ true → ⊥
        false_true h = cc
    pick (x ∷ r) true is =
        let place : length (a ++ c ∷ x ∷ r) - 1 ≡ length a + suc (length r) = omega (arith, length-append a (c ∷ x ∷ r)) in
        ap (λ n. take n (a ++ c ∷ x ∷ r)) place ∙ (take-append-add a (c ∷ x ∷ r) (suc (length r)) ∙ ap (λ n. a ++ c ∷ take n (x ∷ r)) (same (length r)))

-- a line is what it is without its return, or has it behind that
return_parts : (line : List ℕ) → (without_return line ≡ line) ⊎ (line ≡ without_return line ++ 13 ∷ [])
return_parts line = pick (ends_with ◌==◌ line (13 ∷ [])) refl
  where
    clash : false ≡ true → ⊥
    clash x = cc

    more : (b : Bool) → (b && false) ≡ true → ⊥
    more true h = clash h
    more false h = clash h

    last : (l : List ℕ) → pointwise ◌==◌ (13 ∷ []) l ≡ true → l ≡ 13 ∷ []
    last [] h = absurd (clash h)
    last (x ∷ []) h = grind (arith, nat_tests, h)
    last (x ∷ y ∷ l) h = absurd (more (13 == x) h)

    pick : (b : Bool) → ends_with ◌==◌ line (13 ∷ []) ≡ b
        → (cond b (take (length line - 1) line) line ≡ line) ⊎ (line ≡ cond b (take (length line - 1) line) line ++ 13 ∷ [])
    pick false is = inl refl
    pick true is = inr (sym (take-append-drop (length line - 1) line)
        ∙ ap (λ (t : List ℕ). take (length line - 1) line ++ t) (last (drop (length line - 1) line) is))

-- ---- what a line says

-- the null stamp but for its closing bracket
abbrev null_front : List ℕ
null_front = codes "(0.000000"

at_null : (known : List KnownId) (o : Option (List ℕ)) (m : ℕ) (said : BusLine) → stamped_line known (o >>= λ text. Some (m, text)) ≡ Ok said
    → stamped_line known (o >>= λ text. Some (0, text)) ≡ Ok (but_for_moment said)
at_null known None m said h = cc h
at_null known (Some text) m said h = pick (text_frame known text) h
  where
    pick : (r : Result (Option Frame) LineFault) → stamped m r ≡ Ok said → stamped 0 r ≡ Ok (but_for_moment said)
    pick (Err fault) is = cc is
    pick (Ok frame) is = ap (λ (b : BusLine). Ok (but_for_moment b)) (ok_same is)

-- what a stamped text says with the null stamp
null_says : (known : List KnownId) (o : Option (ℕ × List ℕ)) (said : BusLine) → stamped_line known (o >>= λ s. behind_name s.1 >>= λ text. Some (s.0, text)) ≡ Ok said
    → (m : ℕ × List ℕ) × (o ≡ Some m) × (line_says known (null_front ++ 41 ∷ m.1) ≡ Ok (but_for_moment said))
null_says known None said h = cc h
null_says known (Some m) said h = (m, refl, at_null known (behind_name m.1) m.0 said h)

-- a line without a stamp says no moment
unstamped : (known : List KnownId) (line : List ℕ) (said : BusLine) → (get_or line 0 0 == 40) ≡ false → line_says known line ≡ Ok said → but_for_moment said ≡ said
unstamped known [] said other h = ap but_for_moment (sym (ok_same h)) ∙ ok_same h
unstamped known (c ∷ line) said other h = pick (is_time (c ∷ line)) h
  where
    tick : (o : Option ℕ) → tick_said o ≡ Ok said → but_for_moment said ≡ said
    tick None is = cc is
    tick (Some count) is = ap but_for_moment (sym (ok_same is)) ∙ ok_same is

    none : stamped_frame (c ∷ line) ≡ None
    none = rw other refl

    pick : (b : Bool) → cond b (tick_said (tick_count (drop 4 (c ∷ line)))) (stamped_line known (stamped_frame (c ∷ line))) ≡ Ok said → but_for_moment said ≡ said
    pick true is = tick (tick_count (drop 4 (c ∷ line))) is
    pick false is = cc (sym (ap (stamped_line known) none) ∙ is)

-- a line of at most 4096 bytes
of_size : (known : List KnownId) (line : List ℕ) (said : BusLine) → bus_line known line ≡ Ok said → (length line ≤ 4096) × (line_says known (without_return line) ≡ Ok said)
of_size known line said h = pick (nat_lt 4096 (length line)) refl h
  where
    pick : (b : Bool) → nat_lt 4096 (length line) ≡ b → cond b (Err BadLine) (line_says known (without_return line)) ≡ Ok said
        → (length line ≤ 4096) × (line_says known (without_return line) ≡ Ok said)
    pick true long is = cc is
    pick false long is = (grind (arith, nat_tests, long), is)

bus_line_of : (known : List KnownId) (line : List ℕ) → length line ≤ 4096 → bus_line known line ≡ line_says known (without_return line)
bus_line_of known line short = let no : nat_lt 4096 (length line) ≡ false = grind (arith, nat_tests) in rw no refl

-- a line that begins with a bracket, with its stamp
module _ (known : List KnownId) (l : List ℕ) (said : BusLine) (h : bus_line known (40 ∷ l) ≡ Ok said) where
  abbrev bare : List ℕ
  bare = without_return (40 ∷ l)

  from_bare : (w : List ℕ) → (w ≡ 40 ∷ l) ⊎ (40 ∷ l ≡ w ++ 13 ∷ []) → line_says known w ≡ Ok said
      → (m : ℕ × List ℕ) × (stamp_of w ≡ Some m) × (line_says known (null_front ++ 41 ∷ m.1) ≡ Ok (but_for_moment said))
  from_bare [] (inl same) is = absurd (clash same)
    where
      clash : [] ≡ 40 ∷ l → ⊥
      clash x = cc
  from_bare [] (inr same) is = absurd (clash same)
    where
      clash : 40 ∷ l ≡ 13 ∷ [] → ⊥
      clash x = grind (arith, ap (λ (t : List ℕ). get_or t 0 0) x)
  from_bare (c ∷ w) parts is =
      let first : c ≡ 40 = head parts in
      null_says known (stamp_of (c ∷ w)) said (subst (λ (k : ℕ). line_says known (k ∷ w) ≡ Ok said → stamped_line known (stamped_frame (k ∷ w)) ≡ Ok said) (sym first)
      (λ x. x) is)
    where
      head : (c ∷ w ≡ 40 ∷ l) ⊎ (40 ∷ l ≡ (c ∷ w) ++ 13 ∷ []) → c ≡ 40
      head (inl same) = ap (λ (t : List ℕ). get_or t 0 0) same
      head (inr same) = sym (ap (λ (t : List ℕ). get_or t 0 0) same)

  whole : (w r : List ℕ) (inner : List ℕ) → (w ≡ 40 ∷ l) ⊎ (40 ∷ l ≡ w ++ 13 ∷ []) → w ≡ 40 ∷ inner ++ 41 ∷ r → (rest : List ℕ) × (l ≡ inner ++ 41 ∷ rest)
  whole w r inner (inl same) is = (r, ap (drop 1) (sym same ∙ is))
  whole w r inner (inr same) is = (r ++ 13 ∷ [], ap (drop 1) (same ∙ (ap (λ (t : List ℕ). t ++ 13 ∷ []) is ∙ append_assoc (40 ∷ inner) (41 ∷ r) (13 ∷ []))))

  stamped_says : bus_line known (null_stamp ++ after_first is_close l) ≡ Ok (but_for_moment said)
  stamped_says =
      let size = of_size known (40 ∷ l) said h in
      let found = from_bare bare (parts (return_parts (40 ∷ l))) size.1 in
      let r = found.0.1 in
      let stamp = stamp_parts bare found.0 found.1 in
      let line = whole bare r stamp.inner (parts (return_parts (40 ∷ l))) stamp.is in
      let rest = line.0 in
      let here : 40 ∷ l ≡ (40 ∷ stamp.inner) ++ 41 ∷ rest = ap (λ (t : List ℕ). 40 ∷ t) line.1 in
      let both : (40 ∷ stamp.inner) ++ 41 ∷ without_return rest ≡ (40 ∷ stamp.inner) ++ 41 ∷ r =
      sym (return_law 41 (40 ∷ stamp.inner) rest refl) ∙ (ap without_return (sym here) ∙ stamp.is) in
      let same : without_return rest ≡ r = ap (drop 1) (append_cancel_left (40 ∷ stamp.inner) (41 ∷ without_return rest) (41 ∷ r) both) in
      let after : after_first is_close l ≡ rest = ap (after_first is_close) line.1 ∙ after_close stamp.inner rest stamp.opened in
      let short : length (null_front ++ 41 ∷ rest) ≤ 4096 =
      omega (arith, size.0, stamp.long, ap length line.1, length-append stamp.inner (41 ∷ rest)) in
      ap (λ (t : List ℕ). bus_line known (null_stamp ++ t)) after
      ∙ (bus_line_of known (null_front ++ 41 ∷ rest) short
      ∙ (ap (line_says known) (return_law 41 null_front rest refl ∙ ap (λ (t : List ℕ). null_front ++ 41 ∷ t) same) ∙ found.2))
    where
      parts : (without_return (40 ∷ l) ≡ 40 ∷ l) ⊎ (40 ∷ l ≡ without_return (40 ∷ l) ++ 13 ∷ []) → (bare ≡ 40 ∷ l) ⊎ (40 ∷ l ≡ bare ++ 13 ∷ [])
      parts x = x

pub restamped_says : (known : List KnownId) (line : List ℕ) (said : BusLine) → bus_line known line ≡ Ok said → bus_line known (restamped line) ≡ Ok (but_for_moment said)
restamped_says known [] said h = ap (λ (b : BusLine). Ok (but_for_moment b)) (ok_same h)
restamped_says known (c ∷ l) said h = pick (c == 40) refl
  where
    bare_first : (w : List ℕ) → (w ≡ c ∷ l) ⊎ (c ∷ l ≡ w ++ 13 ∷ []) → (c == 40) ≡ false → (get_or w 0 0 == 40) ≡ false
    bare_first [] parts other = refl
    bare_first (x ∷ w) (inl same) other = rw (ap (λ (t : List ℕ). get_or t 0 0) same) other
    bare_first (x ∷ w) (inr same) other = rw (sym (ap (λ (t : List ℕ). get_or t 0 0) same)) other

    pick : (b : Bool) → (c == 40) ≡ b → bus_line known (cond b (null_stamp ++ after_first is_close l) (c ∷ l)) ≡ Ok (but_for_moment said)
    pick true same =
        let is : c ≡ 40 = grind (arith, nat_tests) in
        stamped_says known l said (subst (λ (k : ℕ). bus_line known (k ∷ l) ≡ Ok said) is h)
    pick false other =
        let size = of_size known (c ∷ l) said h in
        let plain = unstamped known (without_return (c ∷ l)) said (bare_first (without_return (c ∷ l)) (return_parts (c ∷ l)) other) size.1 in
        h ∙ ap (λ (b : BusLine). Ok b) (sym plain)

-- ---- a line of ticks

-- all digits
abbrev IsDigits : List ℕ → Type 0
IsDigits text = list_all is_digit text ≡ true

digits_parts : (c : ℕ) (text : List ℕ) → IsDigits (c ∷ text) → IsInRange 48 57 c × IsDigits text
digits_parts c text h = pick (is_digit c) refl h
  where
    pick : (b : Bool) → is_digit c ≡ b → (b && list_all is_digit text) ≡ true → IsInRange 48 57 c × IsDigits text
    pick true digit rest = ((grind (arith, nat_tests), grind (arith, nat_tests)), rest)
    pick false digit rest = absurd (clash rest)
      where
        clash : false ≡ true → ⊥
        clash x = cc

tells : IsDigitsTest IsDigits
tells = record {
  empty = refl;
  parts = digits_parts;
  more = λ c text range rest. let digit : is_digit c ≡ true = grind (arith, nat_tests, range) in rw digit rest;
}

folds : FoldsDigits (λ n text. fold (λ m c. m * 10 + (c - 48)) n text)
folds = record { empty = λ n. refl; more = λ n c text range. refl }

no_return : (text : List ℕ) → IsDigits text → without_return text ≡ text
no_return text digits = pick (return_parts text)
  where
    last : (front : List ℕ) → IsDigits (front ++ 13 ∷ []) → ⊥
    last [] h = absurd (clash h)
      where
        clash : false ≡ true → ⊥
        clash x = cc
    last (c ∷ front) h = last front (digits_parts c (front ++ 13 ∷ []) h).1

    pick : (without_return text ≡ text) ⊎ (text ≡ without_return text ++ 13 ∷ []) → without_return text ≡ text
    pick (inl same) = same
    pick (inr same) = absurd (last (without_return text) (subst IsDigits same digits))

pub decimal_digits : (count : ℕ) → count < 2 ^ 64 → list_all is_digit (decimal count) ≡ true
decimal_digits count small = digits_decimal (numerals_by_fold IsDigits tells _ folds) count small

pub tick_says : (known : List KnownId) (count : ℕ) → 1 ≤ count → count ≤ 60000 → bus_line known (tick_line count) ≡ Ok (Ticks count)
tick_says known count some few =
    let small : count < 2 ^ 64 = omega arith in
    let model = numerals_by_fold IsDigits tells _ folds in
    let digits = digits_decimal model count small in
    let value : decimal_value (decimal count) ≡ count = digits_value-decimal model count small in
    let length_few = length-decimal-le 5 count (omega arith) (omega (arith, few)) small in
    let first = first_decimal count (omega (arith, some)) small in
    let short : length (tick_line count) ≤ 4096 = omega (arith, length_few) in
    let bare : without_return (tick_line count) ≡ tick_line count =
    return_law 32 (codes "tick") (decimal count) refl ∙ ap (λ (t : List ℕ). codes "tick" ++ 32 ∷ t) (no_return (decimal count) digits) in
    bus_line_of known (tick_line count) short ∙ (ap (line_says known) bare ∙ says (decimal count) digits first value)
  where
    says : (text : List ℕ) → IsDigits text → 48 < get_or text 0 0 → decimal_value text ≡ count → line_says known (codes "tick " ++ text) ≡ Ok (Ticks count)
    says [] digits first value = absurd (omega (arith, first))
    says (c ∷ text) digits first value =
        let zero : (c == 48) ≡ false = grind (arith, nat_tests, first) in
        let whole : is_decimal (c ∷ text) ≡ true = rw (zero, digits) refl in
        let low : nat_le 1 count ≡ true = grind (arith, nat_tests, some) in
        let high : nat_le count 60000 ≡ true = grind (arith, nat_tests, few) in
        rw (whole, value, low, high) refl
