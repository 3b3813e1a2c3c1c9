-- The ticks of each tester, one entry later.
use Rattle.std.proofs.Common.{◌≡◌, ℕ, ◌+◌, ◌*◌, ◌<◌, ◌≤◌, ◌==◌, Bool, true, false, cond, List, [], ◌∷◌, ◌++◌, length, slice_index, slice_set, Option, refl, sym, ap, ◌∙◌, arith, eq-eqb}
use Rattle.std.proofs.lemmas.Bool.{eqb-true}
use Rattle.std.proofs.lemmas.List.{get_or-set_same, get_or-set_other, length-set}
use Rattle.diag_desk.specs.declared.entry.Entry.{Entry}
use Rattle.diag_pdu.specs.declared.step.Step.{Step}
use Rattle.diag_pdu.specs.declared.step.Step.TheVariants.{Request, Ticks}
use Rattle.diag_desk.specs.Entry.{IsEntry, IsStep, AreEntries}
use Rattle.diag_desk.specs.Text.{ticks_in, ticks_of}
use Rattle.diag_desk.specs.Clocks.{Tells}

pub step_bound : (s : Step) (r : Option (List ℕ)) → IsStep s r → ticks_in s ≤ 60000
step_bound (Request request) r h = omega arith
step_bound (Ticks n) r h = omega (arith, h)

pub ticks_bound : (e : Entry) → IsEntry e → ticks_in e.step ≤ 60000
ticks_bound e h = step_bound e.step e.reply h.2

share_bound : (b : Bool) (n : ℕ) → n ≤ 60000 → cond b n 0 ≤ 60000
share_bound true n h = h
share_bound false n h = omega arith

-- no entry has more than 60000 ticks
abbrev pub SmallTicks : List Entry → Type 0
SmallTicks [] = Unit {0}
SmallTicks (e ∷ es) = (ticks_in e.step ≤ 60000) × SmallTicks es

pub small_more : (es : List Entry) (e : Entry) → SmallTicks es → ticks_in e.step ≤ 60000 → SmallTicks (es ++ e ∷ [])
small_more [] e h k = (k, tt)
small_more (x ∷ xs) e h k = (h.0, small_more xs e h.1 k)

small_entries : (es : List Entry) → AreEntries es → SmallTicks es
small_entries [] h = tt
small_entries (e ∷ es) h = (ticks_bound e h.0, small_entries es h.1)

pub small_bound : (t : ℕ) (es : List Entry) → SmallTicks es → ticks_of t es ≤ 60000 * length es
small_bound t [] h = omega arith
small_bound t (e ∷ es) h =
    let first = share_bound (e.who == t) (ticks_in e.step) h.0 in
    let rest = small_bound t es h.1 in
    omega (arith, first, rest)

pub sum_bound : (t : ℕ) (es : List Entry) → AreEntries es → ticks_of t es ≤ 60000 * length es
sum_bound t es h = small_bound t es (small_entries es h)

pub ticks-append : (t : ℕ) (es : List Entry) (e : Entry) → ticks_of t (es ++ e ∷ []) ≡ ticks_of t es + cond (e.who == t) (ticks_in e.step) 0
ticks-append t [] e = omega arith
ticks-append t (x ∷ xs) e = let rest = ticks-append t xs e in omega (arith, rest)

tell_one : (ticks next : List ℕ) (es : List Entry) (e : Entry) (t : ℕ) → t < 9 → e.who < 9 → Tells ticks es
    → next ≡ slice_set ticks e.who (ticks_of e.who es + ticks_in e.step)
    → slice_index next t ≡ ticks_of t (es ++ e ∷ [])
tell_one ticks next es e t lt below h is =
    let inside : e.who < length ticks = omega (arith, h.places) in
    ap (λ l. slice_index l t) is ∙
    elim (e.who == t) as (λ b. (e.who == t) ≡ b → slice_index (slice_set ticks e.who (ticks_of e.who es + ticks_in e.step)) t ≡ ticks_of t (es ++ e ∷ [])) [
      | true ↦ λ k.
          let same : e.who ≡ t = eqb-true e.who t k in
          let more : ticks_of t (es ++ e ∷ []) ≡ ticks_of t es + ticks_in e.step =
          ticks-append t es e ∙ ap (λ b. ticks_of t es + cond b (ticks_in e.step) 0) k in
          ap (λ i. slice_index (slice_set ticks e.who (ticks_of e.who es + ticks_in e.step)) i) (sym same)
          ∙ get_or-set_same ticks e.who (ticks_of e.who es + ticks_in e.step) 0 inside
          ∙ ap (λ i. ticks_of i es + ticks_in e.step) same ∙ sym more
      | false ↦ λ k.
          let less : ticks_of t (es ++ e ∷ []) ≡ ticks_of t es + 0 = ticks-append t es e ∙ ap (λ b. ticks_of t es + cond b (ticks_in e.step) 0) k in
          let other = h.each t lt in
          get_or-set_other ticks e.who t (ticks_of e.who es + ticks_in e.step) 0 (λ s. cc (sym k ∙ eq-eqb e.who t (sym s))) ∙ other ∙ omega (arith, less)
    ] refl

pub tells_more : (ticks next : List ℕ) (es : List Entry) (e : Entry) → e.who < 9 → Tells ticks es
    → next ≡ slice_set ticks e.who (ticks_of e.who es + ticks_in e.step) → Tells next (es ++ e ∷ [])
tells_more ticks next es e below h is = record {
  places = ap length is ∙ length-set ticks e.who (ticks_of e.who es + ticks_in e.step) ∙ h.places;
  each = λ t lt. tell_one ticks next es e t lt below h is;
}

no_share : (b : Bool) (n : ℕ) → n ≡ 0 → cond b n 0 ≡ 0
no_share true n h = h
no_share false n h = refl

-- an entry without ticks moves no clock
pub tells_still : (ticks : List ℕ) (es : List Entry) (e : Entry) → ticks_in e.step ≡ 0 → Tells ticks es → Tells ticks (es ++ e ∷ [])
tells_still ticks es e none h = record {
  places = h.places;
  each = λ t lt.
      let told = h.each t lt in
      let more = ticks-append t es e in
      let still = no_share (e.who == t) (ticks_in e.step) none in
      omega (arith, told, more, still);
}
