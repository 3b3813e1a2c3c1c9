-- How late the moment of a line can be.
use Rattle.std.proofs.Common.{◌≡◌, ◌<◌, ◌≤◌, ℕ, Bool, true, false, cond, subst, Option, Some, None, Result, Ok, Err, List, [], ◌∷◌, length, take, drop, refl, ap, arith}
use Rattle.std.proofs.lemmas.List.{length-take}
use Rattle.std.proofs.lemmas.List.Elements.{All-take}
use Rattle.std.proofs.lemmas.Bool.Decides.{nat_tests}
use Rattle.std.proofs.lemmas.Option.{none-some}
use Rattle.std.specs.Prelude.{◌&&◌, nat_le, nat_lt}
use Rattle.std.specs.List.{AllPass, prefix_len}
use Rattle.diag_can.specs.BusLine.{bus_line}
use Rattle.diag_can.specs.Line.{is_time, line_says, stamped, stamped_frame, stamped_line, text_frame, tick_count, tick_line}
use Rattle.diag_can.specs.Log.{without_return}
use Rattle.diag_can.specs.Stamp.{◌>>=◌, behind, behind_name, digits_of, is_digit, moment_of, stamp_of}
use Rattle.diag_can.specs.declared.bus_line.BusLine.{BusLine}
use Rattle.diag_can.specs.declared.bus_line.BusLine.TheVariants.{Empty, Ticks, Stamped}
use Rattle.diag_can.specs.declared.fault.LineFault.{LineFault}
use Rattle.diag_can.specs.declared.fault.LineFault.TheVariants.{BadLine, BadTick}
use Rattle.diag_can.specs.declared.frame.Frame.{Frame}
use Rattle.diag_can.specs.declared.frame.KnownId.{KnownId}
use Rattle.diag_can.proofs.Digits.{decimal_value-lt}
use Rattle.diag_can.proofs.Runs.{run-passes}
use Rattle.diag_bus.specs.Clock.{SaidBelow, moment_end}

-- ---- a stamp

-- a chain that gives something went through
pub bind_some : {A B : Type 0} (o : Option A) (f : A → Option B) (y : B) → (o >>= f) ≡ Some y → (x : A) × (o ≡ Some x) × (f x ≡ Some y)
bind_some None f y h = absurd (none-some y h)
bind_some (Some x) f y h = (x, refl, h)

digits_low : (least most : ℕ) (text : List ℕ) (r : List ℕ × List ℕ) → digits_of least most text ≡ Some r → AllPass is_digit r.0 × (length r.0 ≤ most)
digits_low least most text r h = pick (nat_le least (prefix_len is_digit text)) (nat_le (prefix_len is_digit text) most) refl h
  where
    pick : (a b : Bool) → nat_le (prefix_len is_digit text) most ≡ b
        → cond (a && b) (Some (take (prefix_len is_digit text) text, drop (prefix_len is_digit text) text)) None ≡ Some r
        → AllPass is_digit r.0 × (length r.0 ≤ most)
    pick true true is h =
        let same : (take (prefix_len is_digit text) text, drop (prefix_len is_digit text) text) ≡ r = cc in
        let front : take (prefix_len is_digit text) text ≡ r.0 = ap (λ (p : List ℕ × List ℕ). p.0) same in
        let fits : prefix_len is_digit text ≤ most = grind (arith, nat_tests) in
        let few : length (take (prefix_len is_digit text) text) ≤ most = omega (arith, length-take (prefix_len is_digit text) text, fits) in
        subst (λ (d : List ℕ). AllPass is_digit d × (length d ≤ most)) front (run-passes is_digit text, few)
    pick true false is h = absurd (none-some r h)
    pick false true is h = absurd (none-some r h)
    pick false false is h = absurd (none-some r h)

moment_low : (s f : List ℕ) → AllPass is_digit s → length s ≤ 12 → AllPass is_digit f → moment_of s f < moment_end
moment_low s f digits few fraction =
    let seconds = decimal_value-lt 12 s digits few in
    let three : length (take 3 f) ≤ 3 = omega (arith, length-take 3 f) in
    let part = decimal_value-lt 3 (take 3 f) (All-take (λ c. is_digit c ≡ true) 3 f fraction) three in
    omega (arith, seconds, part)

-- the parts of a stamp, from the last
abbrev closed : List ℕ → List ℕ → List ℕ → Option (ℕ × List ℕ)
closed s f text = Some (moment_of s f, text)

abbrev behind_fraction : List ℕ → List ℕ × List ℕ → Option (ℕ × List ℕ)
behind_fraction s fraction = behind 41 fraction.1 >>= closed s fraction.0

abbrev behind_point : List ℕ → List ℕ → Option (ℕ × List ℕ)
behind_point s text = digits_of 6 9 text >>= behind_fraction s

abbrev behind_seconds : List ℕ × List ℕ → Option (ℕ × List ℕ)
behind_seconds seconds = behind 46 seconds.1 >>= behind_point seconds.0

abbrev behind_open : List ℕ → Option (ℕ × List ℕ)
behind_open text = digits_of 1 12 text >>= behind_seconds

stamp_low : (text : List ℕ) (r : ℕ × List ℕ) → stamp_of text ≡ Some r → r.0 < moment_end
stamp_low text r h =
    let a = bind_some (behind 40 text) behind_open r h in
    let b = bind_some (digits_of 1 12 a.0) behind_seconds r a.2 in
    let c = bind_some (behind 46 b.0.1) (behind_point b.0.0) r b.2 in
    let d = bind_some (digits_of 6 9 c.0) (behind_fraction b.0.0) r c.2 in
    let e = bind_some (behind 41 d.0.1) (closed b.0.0 d.0.0) r d.2 in
    let seconds = digits_low 1 12 a.0 b.0 b.1 in
    let fraction = digits_low 6 9 c.0 d.0 d.1 in
    let low = moment_low b.0.0 d.0.0 seconds.0 seconds.1 fraction.0 in
    one (moment_of b.0.0 d.0.0) e.0 r low e.2
  where
    one : (m : ℕ) (rest : List ℕ) (r : ℕ × List ℕ) → m < moment_end → Some (m, rest) ≡ Some r → r.0 < moment_end
    one m rest r low h =
        let same : (m, rest) ≡ r = cc in
        let is : m ≡ r.0 = ap (λ (p : ℕ × List ℕ). p.0) same in
        omega (arith, low, is)

-- ---- a line

abbrev behind_stamp : ℕ × List ℕ → Option (ℕ × List ℕ)
behind_stamp stamp = behind_name stamp.1 >>= λ text. Some (stamp.0, text)

stamped_low : (line : List ℕ) (r : ℕ × List ℕ) → stamped_frame line ≡ Some r → r.0 < moment_end
stamped_low line r h =
    let a = bind_some (stamp_of line) behind_stamp r h in
    let b = bind_some (behind_name a.0.1) (λ text. (let o : Option (ℕ × List ℕ) = Some (a.0.0, text) in o)) r a.2 in
    let low = stamp_low line a.0 a.1 in
    one a.0.0 b.0 r low b.2
  where
    one : (m : ℕ) (rest : List ℕ) (r : ℕ × List ℕ) → m < moment_end → Some (m, rest) ≡ Some r → r.0 < moment_end
    one m rest r low h =
        let same : (m, rest) ≡ r = cc in
        let is : m ≡ r.0 = ap (λ (p : ℕ × List ℕ). p.0) same in
        omega (arith, low, is)

frame_low : (r : ℕ × List ℕ) (t : Result (Option Frame) LineFault) (said : BusLine) → r.0 < moment_end → stamped r.0 t ≡ Ok said → SaidBelow said moment_end
frame_low r (Err fault) said low h = absurd (clash h)
  where
    clash : Err fault ≡ Ok said → ⊥
    clash h = cc
frame_low r (Ok frame) said low h =
    let same : Stamped r.0 frame ≡ said = cc in
    subst (λ (s : BusLine). SaidBelow s moment_end) same low

line_low : (known : List KnownId) (o : Option (ℕ × List ℕ)) (said : BusLine) → ((r : ℕ × List ℕ) → o ≡ Some r → r.0 < moment_end) → stamped_line known o ≡ Ok said
    → SaidBelow said moment_end
line_low known None said low h = absurd (clash h)
  where
    clash : Err BadLine ≡ Ok said → ⊥
    clash h = cc
line_low known (Some r) said low h = frame_low r (text_frame known r.1) said (low r refl) h

tick_low : (o : Option ℕ) (said : BusLine) → tick_line o ≡ Ok said → SaidBelow said moment_end
tick_low None said h = absurd (clash h)
  where
    clash : Err BadTick ≡ Ok said → ⊥
    clash h = cc
tick_low (Some n) said h =
    let same : Ticks n ≡ said = cc in
    subst (λ (s : BusLine). SaidBelow s moment_end) same tt

says_low : (known : List KnownId) (line : List ℕ) (said : BusLine) → line_says known line ≡ Ok said → SaidBelow said moment_end
says_low known [] said h =
    let same : Empty ≡ said = cc in
    subst (λ (s : BusLine). SaidBelow s moment_end) same tt
says_low known (c ∷ line) said h = pick (is_time (c ∷ line)) h
  where
    pick : (b : Bool) → cond b (tick_line (tick_count (drop 4 (c ∷ line)))) (stamped_line known (stamped_frame (c ∷ line))) ≡ Ok said → SaidBelow said moment_end
    pick true h = tick_low (tick_count (drop 4 (c ∷ line))) said h
    pick false h = line_low known (stamped_frame (c ∷ line)) said (λ r is. stamped_low (c ∷ line) r is) h

-- the seconds of a stamp have at most twelve digits
pub bus_line_low : (known : List KnownId) (line : List ℕ) (said : BusLine) → bus_line known line ≡ Ok said → SaidBelow said moment_end
bus_line_low known line said h = pick (nat_lt 4096 (length line)) h
  where
    clash : Err BadLine ≡ Ok said → ⊥
    clash h = cc

    pick : (b : Bool) → cond b (Err BadLine) (line_says known (without_return line)) ≡ Ok said → SaidBelow said moment_end
    pick true h = absurd (clash h)
    pick false h = says_low known (without_return line) said h
