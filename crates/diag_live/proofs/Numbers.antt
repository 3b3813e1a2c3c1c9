-- The number in the input of a line of the capture; and the ticks that pass.
use Rattle.diag_can.specs.declared.frame.KnownId.{KnownId}
use Rattle.std.proofs.Common.{◌≡◌, ◌⊎◌, ℕ, ◌+◌, ◌-◌, ◌/◌, ◌%◌, ◌<◌, ◌≤◌, ◌==◌, nat_le, min, max, Bool, true, false, cond, List, [], ◌∷◌, ◌++◌, length, map, take, replicate, Option, None, Some, Result, Ok, Err, inl, inr, refl, sym, ap, ◌∙◌, length-append, suc, zero, arith}
use Rattle.std.proofs.lemmas.Bool.Decides.{nat_tests}
use Rattle.std.proofs.lemmas.List.{length-take, take-append-le, take-map}
use Rattle.std.proofs.Math.Seq.{take-append-add}
use Rattle.diag_can.specs.declared.bus_line.BusLine.{BusLine}
use Rattle.diag_can.specs.declared.fault.LineFault.{LineFault}
use Rattle.diag_setup.specs.Setup.{known_ids}
use Rattle.diag_setup.specs.declared.raw.RawSetup.{RawSetup}
use Rattle.diag_bus.specs.Events.{clock_of, fault_or, fault_said, first_fault, first_fault_after, line_fault, line_said, reference, span_said}
use Rattle.diag_bus.specs.declared.fault.BusFault.{BusFault}
use Rattle.diag_bus.specs.declared.fault.BusFault.TheVariants as bus
use Rattle.diag_bus.proofs.Faults.{first_fault_behind}
use Rattle.diag_live.specs.Live.{AreGood, Heard, Taken, Ticked, lines_of, passed}
use Rattle.diag_live.proofs.Records.{AllSay, good_join, lines_of-append}

-- ---- ticks

-- nothing was heard
abbrev pub AreTicks : List Taken → Type 0
AreTicks [] = Unit {0}
AreTicks (Heard bytes ∷ taken) = ⊥
AreTicks (Ticked count ∷ taken) = AreTicks taken

pub ticks_join : (a b : List Taken) → AreTicks a → AreTicks b → AreTicks (a ++ b)
ticks_join [] b x y = y
ticks_join (Heard bytes ∷ a) b x y = absurd x
ticks_join (Ticked count ∷ a) b x y = ticks_join a b x y

pub ticks_taken : (k : ℕ) (a : List Taken) → AreTicks a → AreTicks (take k a)
ticks_taken zero a x = tt
ticks_taken (suc k) [] x = tt
ticks_taken (suc k) (Heard bytes ∷ a) x = absurd x
ticks_taken (suc k) (Ticked count ∷ a) x = ticks_taken k a x

pub nothing_heard : (a : List Taken) → AreTicks a → lines_of a ≡ []
nothing_heard [] x = refl
nothing_heard (Heard bytes ∷ a) x = absurd x
nothing_heard (Ticked count ∷ a) x = nothing_heard a x

pub all_heard : (lines : List (List ℕ)) → lines_of (map Heard lines) ≡ lines
all_heard [] = refl
all_heard (line ∷ lines) = ap (λ (l : List (List ℕ)). line ∷ l) (all_heard lines)

module _ (known : List KnownId) where
  most_ticks : (n : ℕ) → AreTicks (replicate n (Ticked 60000)) × AreGood known (replicate n (Ticked 60000))
  most_ticks zero = (tt, tt)
  most_ticks (suc n) = ((most_ticks n).0, ((omega arith, omega arith), (most_ticks n).1))

  pub passed_ticks : (span : ℕ) → AreTicks (passed span) × AreGood known (passed span)
  passed_ticks span =
      let most = most_ticks (span / 60000) in
      let last = pick (span % 60000 == 0) refl in (
        ticks_join (replicate (span / 60000) (Ticked 60000)) (cond (span % 60000 == 0) [] (Ticked (span % 60000) ∷ [])) most.0 last.0,
        good_join known (replicate (span / 60000) (Ticked 60000)) (cond (span % 60000 == 0) [] (Ticked (span % 60000) ∷ [])) most.1 last.1,
      )
    where
      pick : (b : Bool) → (span % 60000 == 0) ≡ b → AreTicks (cond b [] (Ticked (span % 60000) ∷ [])) × AreGood known (cond b [] (Ticked (span % 60000) ∷ []))
      pick true none = (tt, tt)
      pick false some = (tt, ((grind (arith, nat_tests, some), omega arith), tt))

-- ---- the first fault of a capture whose lines say something

-- it lies among the lines, and is that of a clock
pub record IsAmong (n m count : ℕ) (fault : BusFault) : Type 0 where
  pub low : n ≤ m
  pub high : m < n + count
  pub late : fault ≡ bus.Late

module _ (setup : RawSetup) where
  fault_among : (past lines : List (List ℕ)) (n m : ℕ) (fault : BusFault) → AllSay (known_ids setup) lines → first_fault_after setup past n lines ≡ Some (m, fault)
      → IsAmong n m (length lines) fault
  fault_among past [] n m fault says h = absurd (none h)
    where
      none : {A : Type 0} {x : A} → None ≡ Some x → ⊥
      none x = cc
  fault_among past (line ∷ lines) n m fault says h =
      pick (line_fault setup past line) refl h (fault_among (past ++ line ∷ []) lines (n + 1) m fault says.1)
    where
      same : {x y : ℕ × BusFault} → Some x ≡ Some y → x ≡ y
      same x = cc

      clock : (r : Result BusLine LineFault) (k : ℕ) (f : BusFault) → ((said : BusLine) × (r ≡ Ok said)) → fault_said r k ≡ Some f → f ≡ bus.Late
      clock (Err e) k f said is = cc said.1
      clock (Ok x) k f said is = grind (arith, nat_tests, is)

      pick : (o : Option BusFault) → line_fault setup past line ≡ o → fault_or o n (first_fault_after setup (past ++ line ∷ []) (n + 1) lines) ≡ Some (m, fault)
          → (first_fault_after setup (past ++ line ∷ []) (n + 1) lines ≡ Some (m, fault) → IsAmong (n + 1) m (length lines) fault)
          → IsAmong n m (length (line ∷ lines)) fault
      pick None is found next = let r = next found in record { low = omega (arith, r.low); high = omega (arith, r.high); late = r.late }
      pick (Some f) is found next =
          let number : n ≡ m = ap (λ (q : ℕ × BusFault). q.0) (same found) in
          let kind : f ≡ fault = ap (λ (q : ℕ × BusFault). q.1) (same found) in
          record {
            low = omega (arith, number);
            high = omega (arith, number);
            late = sym kind ∙ clock (line_said setup line) (clock_of setup past + span_said (reference setup past) (line_said setup line)) f says.0 is;
          }

  -- behind lines that are well it lies among those that follow
  pub fault_behind : (lines more : List (List ℕ)) (m : ℕ) (fault : BusFault) → AllSay (known_ids setup) more → first_fault setup lines ≡ None
      → first_fault setup (lines ++ more) ≡ Some (m, fault)
      → IsAmong (length lines + 1) m (length more) fault
  fault_behind lines more m fault says well h = fault_among lines more (length lines + 1) m fault says (sym (first_fault_behind setup lines more well) ∙ h)

-- ---- the number of a line

-- so many lines were heard before the line of that number in the capture
pub heard_before : (taken time : List Taken) (lines : List (List ℕ)) (m : ℕ) → AreTicks time → length taken + 1 ≤ m
    → m < length taken + 1 + (length time + length lines)
    → length (lines_of (take (m - 1) (taken ++ (time ++ map Heard lines)))) + 1 ≡ length (lines_of taken) + max (m - (length taken + length time)) 1
heard_before taken time lines m ticks low high =
    let j = m - 1 - length taken in
    let place : m - 1 ≡ length taken + j = omega (arith, low) in
    let parts : take (m - 1) (taken ++ (time ++ map Heard lines)) ≡ taken ++ take j (time ++ map Heard lines) =
    ap (λ k. take k (taken ++ (time ++ map Heard lines))) place ∙ take-append-add taken (time ++ map Heard lines) j in
    let count : length (lines_of (take (m - 1) (taken ++ (time ++ map Heard lines))))
    ≡ length (lines_of taken) + length (lines_of (take j (time ++ map Heard lines))) =
    ap (λ t. length (lines_of t)) parts
    ∙ (ap length (lines_of-append taken (take j (time ++ map Heard lines))) ∙ length-append (lines_of taken) (lines_of (take j (time ++ map Heard lines)))) in
    pick j place count (cases j (length time))
  where
    split : (a b : ℕ) (t : Bool) → nat_le a b ≡ t → (a ≤ b) ⊎ (b < a)
    split a b true is = inl (grind (arith, nat_tests, is))
    split a b false is = inr (grind (arith, nat_tests, is))

    cases : (a b : ℕ) → (a ≤ b) ⊎ (b < a)
    cases a b = split a b (nat_le a b) refl

    pick : (j : ℕ) → m - 1 ≡ length taken + j
        → length (lines_of (take (m - 1) (taken ++ (time ++ map Heard lines)))) ≡ length (lines_of taken) + length (lines_of (take j (time ++ map Heard lines)))
        → (j ≤ length time) ⊎ (length time < j)
        → length (lines_of (take (m - 1) (taken ++ (time ++ map Heard lines)))) + 1 ≡ length (lines_of taken) + max (m - (length taken + length time)) 1
    pick j place count (inl within) =
        let none : length (lines_of (take j (time ++ map Heard lines))) ≡ 0 =
        ap (λ t. length (lines_of t)) (take-append-le j time (map Heard lines) within) ∙ ap length (nothing_heard (take j time) (ticks_taken j time ticks)) in
        omega (arith, place, count, none, within, low)
    pick j place count (inr behind) =
        let i = j - length time in
        let at : j ≡ length time + i = omega (arith, behind) in
        let front : take j (time ++ map Heard lines) ≡ time ++ map Heard (take i lines) =
        ap (λ k. take k (time ++ map Heard lines)) at
        ∙ (take-append-add time (map Heard lines) i ∙ ap (λ (t : List Taken). time ++ t) (take-map Heard i lines)) in
        let here : lines_of (take j (time ++ map Heard lines)) ≡ take i lines =
        ap lines_of front
        ∙ (lines_of-append time (map Heard (take i lines))
        ∙ (ap (λ (l : List (List ℕ)). l ++ lines_of (map Heard (take i lines))) (nothing_heard time ticks) ∙ all_heard (take i lines))) in
        let some : length (lines_of (take j (time ++ map Heard lines))) ≡ min i (length lines) = ap length here ∙ length-take i lines in
        omega (arith, place, count, some, at, behind, low, high)
