-- What a stamp tells, whatever stands behind it.
use Rattle.std.proofs.Common.{◌≡◌, ◌⊎◌, ℕ, ◌+◌, ◌-◌, ◌≤◌, ◌==◌, nat_le, Bool, true, false, cond, List, [], ◌∷◌, ◌++◌, length, take, drop, Option, None, Some, Result, Ok, Err, codes, inl, inr, refl, sym, ap, subst, ◌∙◌, append_assoc, length-append, arith}
use Rattle.std.specs.Prelude.{◌&&◌, not}
use Rattle.std.specs.List.{AllPass, before_first, ends_with, position_or_len, prefix_len}
use Rattle.std.proofs.lemmas.List.{take-append-drop}
use Rattle.std.proofs.lemmas.List.Elements.{All-head, All-tail}
use Rattle.std.proofs.lemmas.List.Folds.{length-prefix_len}
use Rattle.std.proofs.Math.Seq.{drop-append-add, drop-append_seam, take-append_seam}
use Rattle.std.proofs.lemmas.Bool.Decides.{nat_tests}
use Rattle.std.proofs.lemmas.Option.{none-some, same_Some}
use lib.Pointwise.{pointwise}
use Rattle.diag_can.specs.BusLine.{bus_line}
use Rattle.diag_can.specs.Line.{is_time, line_says, stamped, stamped_frame, stamped_line, text_frame, tick_count, tick_line}
use Rattle.diag_can.specs.Log.{without_return}
use Rattle.diag_can.specs.Stamp.{◌>>=◌, behind_name, digits_of, is_digit, moment_of, stamp_of}
use Rattle.diag_can.specs.declared.bus_line.BusLine.TheVariants.{Stamped}
use Rattle.diag_can.specs.declared.fault.LineFault.{LineFault}
use Rattle.diag_can.specs.declared.frame.Frame.{Frame}
use Rattle.diag_can.specs.declared.frame.KnownId.{KnownId}
use Rattle.diag_can.proofs.Runs.{run-passes}
use Rattle.diag_can.proofs.TickFronts.{begins}
use Rattle.diag_can.proofs.UsualLines.{bus_line-says, bus_line-short}
use Rattle.diag_interface.specs.Interface.{is_close, time_alone}

-- a chain that gives something went through
bind_some : {A B : Type 0} (o : Option A) (f : A → Option B) (y : B) → (o >>= f) ≡ Some y → (x : A) × (o ≡ Some x) × (f x ≡ Some y)
bind_some None f y h = absurd (none-some y h)
bind_some (Some x) f y h = (x, refl, h)

-- ---- digits

-- so many digits
record Digits (least most : ℕ) (text : List ℕ) : Type 0 where
  pub all : AllPass is_digit text
  pub some : least ≤ length text
  pub few : length text ≤ most

-- a run of digits, and what stands behind it
record Run (least most : ℕ) (text digits rest : List ℕ) : Type 0 where
  pub is : text ≡ digits ++ rest
  pub digits_are : Digits least most digits

run_of : (least most : ℕ) (text : List ℕ) (r : List ℕ × List ℕ) → digits_of least most text ≡ Some r → Run least most text r.0 r.1
run_of least most text r h = pick (nat_le least count && nat_le count most) refl h
  where
    count : ℕ
    count = prefix_len is_digit text

    both : (a b : Bool) → (a && b) ≡ true → (a ≡ true) × (b ≡ true)
    both true true is = (refl, refl)
    both true false is = absurd (clash is)
      where
        clash : false ≡ true → ⊥
        clash x = cc
    both false b is = absurd (clash is)
      where
        clash : false ≡ true → ⊥
        clash x = cc

    pick : (b : Bool) → (nat_le least count && nat_le count most) ≡ b → cond b (Some (take count text, drop count text)) None ≡ Some r
        → Run least most text r.0 r.1
    pick true within is =
        let parts = both (nat_le least count) (nat_le count most) within in
        let low : least ≤ count = grind (arith, nat_tests, parts.0) in
        let high : count ≤ most = grind (arith, nat_tests, parts.1) in
        subst (λ (q : List ℕ × List ℕ). Run least most text q.0 q.1) (same_Some _ _ is) (record {
          is = sym (take-append-drop count text);
          digits_are = record {
            all = run-passes is_digit text;
            some = omega (arith, low, length-prefix_len is_digit text);
            few = omega (arith, high, length-prefix_len is_digit text);
          };
        })
    pick false within is = cc is

-- digits stop in front of another byte
run_end : (c : ℕ) (rest digits : List ℕ) → AllPass is_digit digits → is_digit c ≡ false → prefix_len is_digit (digits ++ c ∷ rest) ≡ length digits
run_end c rest [] all other = rw other refl
run_end c rest (d ∷ digits) all other =
    let first : is_digit d ≡ true = All-head (λ c. is_digit c ≡ true) d digits all in
    let more = run_end c rest digits (All-tail (λ c. is_digit c ≡ true) d digits all) other in
    rw first (omega (arith, more))

digits_end : (least most c : ℕ) (rest digits : List ℕ) → Digits least most digits → is_digit c ≡ false
    → digits_of least most (digits ++ c ∷ rest) ≡ Some (digits, c ∷ rest)
digits_end least most c rest digits d other =
    let low : nat_le least (length digits) ≡ true = grind (arith, nat_tests, d.some) in
    let high : nat_le (length digits) most ≡ true = grind (arith, nat_tests, d.few) in
    rw (run_end c rest digits d.all other, low, high, take-append_seam digits (c ∷ rest), drop-append_seam digits (c ∷ rest)) refl

-- ---- a stamp

-- its digits
record Stamp (moment : ℕ) (seconds fraction : List ℕ) : Type 0 where
  pub seconds_are : Digits 1 12 seconds
  pub fraction_is : Digits 6 9 fraction
  pub moment_is : moment ≡ moment_of seconds fraction

abbrev stamp_text : List ℕ → List ℕ → List ℕ
stamp_text seconds fraction = 40 ∷ seconds ++ 46 ∷ fraction

record Stands (text : List ℕ) (m : ℕ × List ℕ) : Type 0 where
  pub seconds : List ℕ
  pub fraction : List ℕ
  pub stamp : Stamp m.0 seconds fraction
  pub is : text ≡ stamp_text seconds fraction ++ 41 ∷ m.1

stamp_parts : (text : List ℕ) (m : ℕ × List ℕ) → stamp_of text ≡ Some m → Stands text m
stamp_parts text m h =
    let a = bind_some _ _ m h in
    let b = bind_some _ _ m a.2 in
    let c = bind_some _ _ m b.2 in
    let d = bind_some _ _ m c.2 in
    let e = bind_some _ _ m d.2 in
    let seconds = run_of 1 12 a.0 b.0 b.1 in
    let fraction = run_of 6 9 c.0 d.0 d.1 in
    let dot = begins 46 b.0.1 c.0 c.1 in
    let close = begins 41 d.0.1 e.0 e.1 in
    let both = same_Some _ _ e.2 in
    let rest : e.0 ≡ m.1 = ap (λ (q : ℕ × List ℕ). q.1) both in
    let tail : c.0 ≡ d.0.0 ++ 41 ∷ m.1 = fraction.is ∙ ap (λ (t : List ℕ). d.0.0 ++ t) (close ∙ ap (λ (t : List ℕ). 41 ∷ t) rest) in
    record {
      seconds = b.0.0;
      fraction = d.0.0;
      stamp = record {
        seconds_are = seconds.digits_are;
        fraction_is = fraction.digits_are;
        moment_is = sym (ap (λ (q : ℕ × List ℕ). q.0) both);
      };
      is =
          begins 40 text a.0 a.1
          ∙ (ap (λ (t : List ℕ). 40 ∷ t)
          (seconds.is ∙ (ap (λ (t : List ℕ). b.0.0 ++ t) (dot ∙ ap (λ (t : List ℕ). 46 ∷ t) tail)
          ∙ sym (append_assoc b.0.0 (46 ∷ d.0.0) (41 ∷ m.1)))));
    }

module _ (moment : ℕ) (seconds fraction : List ℕ) (s : Stamp moment seconds fraction) where
  -- whatever follows it, it is the same
  stamp_again : (rest : List ℕ) → stamp_of (stamp_text seconds fraction ++ 41 ∷ rest) ≡ Some (moment, rest)
  stamp_again rest =
      ap (λ (t : List ℕ). stamp_of (40 ∷ t)) (append_assoc seconds (46 ∷ fraction) (41 ∷ rest))
      ∙ (rw (digits_end 1 12 46 (fraction ++ 41 ∷ rest) seconds s.seconds_are refl, digits_end 6 9 41 rest fraction s.fraction_is refl, s.moment_is) refl)

  short_stamp : length (stamp_text seconds fraction) ≤ 23
  short_stamp = omega (arith, length-append seconds (46 ∷ fraction), s.seconds_are.few, s.fraction_is.few)

  -- nothing closes it before
  open_text : (a b : List ℕ) → position_or_len is_close a ≡ length a → position_or_len is_close (a ++ b) ≡ length a + position_or_len is_close b
  open_text [] b opened = omega arith
  open_text (c ∷ a) b opened = pick (is_close c) refl opened (open_text a b)
    where
      pick : (x : Bool) → is_close c ≡ x → cond (not x) (1 + position_or_len is_close a) 0 ≡ length (c ∷ a)
          → (position_or_len is_close a ≡ length a → position_or_len is_close (a ++ b) ≡ length a + position_or_len is_close b)
          → cond (not x) (1 + position_or_len is_close (a ++ b)) 0 ≡ length (c ∷ a) + position_or_len is_close b
      pick true is opened next = absurd (omega (arith, opened))
      pick false is opened next = let more = next (omega (arith, opened)) in omega (arith, more)

  open_digits : (text : List ℕ) → AllPass is_digit text → position_or_len is_close text ≡ length text
  open_digits [] all = refl
  open_digits (c ∷ text) all =
      let digit : is_digit c ≡ true = All-head (λ c. is_digit c ≡ true) c text all in
      let other : is_close c ≡ false = grind (arith, nat_tests, digit) in
      let more = open_digits text (All-tail (λ c. is_digit c ≡ true) c text all) in
      rw other (omega (arith, more))

  closes : (rest : List ℕ) → position_or_len is_close (stamp_text seconds fraction ++ 41 ∷ rest) ≡ length (stamp_text seconds fraction)
  closes rest =
      let all : position_or_len is_close (stamp_text seconds fraction) ≡ length (stamp_text seconds fraction) =
      let front = open_text seconds (46 ∷ fraction) (open_digits seconds s.seconds_are.all) in
      let back = open_digits fraction s.fraction_is.all in
      omega (arith, front, back, length-append seconds (46 ∷ fraction)) in
      open_text (stamp_text seconds fraction) (41 ∷ rest) all ∙ (omega arith)

  before_close : (rest : List ℕ) → before_first is_close (stamp_text seconds fraction ++ 41 ∷ rest) ≡ stamp_text seconds fraction
  before_close rest = ap (λ n. take n (stamp_text seconds fraction ++ 41 ∷ rest)) (closes rest) ∙ take-append_seam (stamp_text seconds fraction) (41 ∷ rest)

-- ---- the return at the end of a line

-- a line is what it is without its return, or has it behind that
return_parts : (line : List ℕ) → (without_return line ≡ line) ⊎ (line ≡ without_return line ++ 13 ∷ [])
return_parts line = pick (ends_with ◌==◌ line (13 ∷ [])) refl
  where
    clash : false ≡ true → ⊥
    clash x = cc

    more : (b : Bool) → (b && false) ≡ true → ⊥
    more true h = clash h
    more false h = clash h

    last : (l : List ℕ) → pointwise ◌==◌ (13 ∷ []) l ≡ true → l ≡ 13 ∷ []
    last [] h = absurd (clash h)
    last (x ∷ []) h = grind (arith, nat_tests, h)
    last (x ∷ y ∷ l) h = absurd (more (13 == x) h)

    pick : (b : Bool) → ends_with ◌==◌ line (13 ∷ []) ≡ b
        → (cond b (take (length line - 1) line) line ≡ line) ⊎ (line ≡ cond b (take (length line - 1) line) line ++ 13 ∷ [])
    pick false is = inl refl
    pick true is = inr (sym (take-append-drop (length line - 1) line)
        ∙ ap (λ (t : List ℕ). take (length line - 1) line ++ t) (last (drop (length line - 1) line) is))

-- what stands behind a line's stamp stands there with its return
with_return : (line front rest : List ℕ) → without_return line ≡ front ++ rest → (more : List ℕ) × (line ≡ front ++ more)
with_return line front rest is = pick (return_parts line)
  where
    pick : (without_return line ≡ line) ⊎ (line ≡ without_return line ++ 13 ∷ []) → (more : List ℕ) × (line ≡ front ++ more)
    pick (inl same) = (rest, sym same ∙ is)
    pick (inr longer) = (rest ++ 13 ∷ [], longer ∙ (ap (λ (t : List ℕ). t ++ 13 ∷ []) is ∙ append_assoc front rest (13 ∷ [])))

abbrev tail : List ℕ
tail = codes ") other 000#R"

-- that line has none
no_return : (front : List ℕ) → without_return (front ++ tail) ≡ front ++ tail
no_return front =
    let place : length (front ++ tail) - 1 ≡ length front + 12 = omega (arith, length-append front tail) in
    let last : drop (length (front ++ tail) - 1) (front ++ tail) ≡ 82 ∷ [] =
    ap (λ n. drop n (front ++ tail)) place ∙ drop-append-add front tail 12 in
    ap (λ (t : List ℕ). cond (pointwise ◌==◌ (13 ∷ []) t) (take (length (front ++ tail) - 1) (front ++ tail)) (front ++ tail)) last

-- ---- what the line says

-- a line that tells the time has a stamp
stamped_parts : (known : List KnownId) (line : List ℕ) (moment : ℕ) (frame : Option Frame) → line_says known line ≡ Ok (Stamped moment frame)
    → (m : ℕ × List ℕ) × (stamp_of line ≡ Some m) × (m.0 ≡ moment)
stamped_parts known [] moment frame h = cc h
stamped_parts known (c ∷ line) moment frame h = pick (is_time (c ∷ line)) h
  where
    tick : (o : Option ℕ) → tick_line o ≡ Ok (Stamped moment frame) → ⊥
    tick None is = cc is
    tick (Some count) is = cc is

    framed : (m : ℕ) (r : Result (Option Frame) LineFault) → stamped m r ≡ Ok (Stamped moment frame) → m ≡ moment
    framed m (Err fault) is = cc is
    framed m (Ok f) is = cc is

    named : (m : ℕ) (o : Option (List ℕ)) → stamped_line known (o >>= λ text. Some (m, text)) ≡ Ok (Stamped moment frame) → m ≡ moment
    named m None is = cc is
    named m (Some text) is = framed m (text_frame known text) is

    on : (o : Option (ℕ × List ℕ)) → stamped_line known (o >>= λ s. behind_name s.1 >>= λ text. Some (s.0, text)) ≡ Ok (Stamped moment frame)
        → (m : ℕ × List ℕ) × (o ≡ Some m) × (m.0 ≡ moment)
    on None is = cc is
    on (Some m) is = (m, refl, named m.0 (behind_name m.1) is)

    pick : (b : Bool) → cond b (tick_line (tick_count (drop 4 (c ∷ line)))) (stamped_line known (stamped_frame (c ∷ line))) ≡ Ok (Stamped moment frame)
        → (m : ℕ × List ℕ) × (stamp_of (c ∷ line) ≡ Some m) × (m.0 ≡ moment)
    pick true is = absurd (tick (tick_count (drop 4 (c ∷ line))) is)
    pick false is = on (stamp_of (c ∷ line)) is

-- a stamp with that frame behind it
alone_says : (known : List KnownId) (moment : ℕ) (seconds fraction : List ℕ) → Stamp moment seconds fraction
    → line_says known (stamp_text seconds fraction ++ tail) ≡ Ok (Stamped moment None)
alone_says known moment seconds fraction s =
    ap (λ (o : Option (ℕ × List ℕ)). stamped_line known (o >>= λ s. behind_name s.1 >>= λ text. Some (s.0, text)))
    (stamp_again moment seconds fraction s (codes " other 000#R"))

pub time_says : (known : List KnownId) (line : List ℕ) (moment : ℕ) (frame : Option Frame) → bus_line [] line ≡ Ok (Stamped moment frame)
    → bus_line known (time_alone line) ≡ Ok (Stamped moment None)
time_says known line moment frame h =
    let found = stamped_parts [] (without_return line) moment frame (bus_line-says [] line (Stamped moment frame) h) in
    let m = found.0 in
    let parts = stamp_parts (without_return line) m found.1 in
    let front = stamp_text parts.seconds parts.fraction in
    let closed : (more : List ℕ) × (line ≡ front ++ 41 ∷ more) = bracket line front m.1 parts.is in
    let before : before_first is_close line ≡ front = ap (before_first is_close) closed.1 ∙ before_close m.0 parts.seconds parts.fraction parts.stamp closed.0 in
    let short = short_stamp m.0 parts.seconds parts.fraction parts.stamp in
    ap (λ (t : List ℕ). bus_line known (t ++ tail)) before
    ∙ bus_line-short known (front ++ tail) (front ++ tail) (Stamped moment None) (omega (arith, length-append front tail, short)) (sym (no_return front))
    (alone_says known m.0 parts.seconds parts.fraction parts.stamp ∙ ap (λ n. Ok (Stamped n None)) found.2)
  where
    bracket : (line front rest : List ℕ) → without_return line ≡ front ++ 41 ∷ rest → (more : List ℕ) × (line ≡ front ++ 41 ∷ more)
    bracket line front rest is =
        let it = with_return line (front ++ 41 ∷ []) rest (is ∙ sym (append_assoc front (41 ∷ []) rest)) in
        (it.0, it.1 ∙ append_assoc front (41 ∷ []) it.0)
