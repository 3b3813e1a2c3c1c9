-- Each tester's events of a capture take the time that its lines tell.
use Rattle.std.proofs.Common.{◌≡◌, ◌≤◌, ◌<◌, ℕ, zero, suc, ◌+◌, ◌*◌, ◌/◌, ◌%◌, Bool, true, false, cond, Option, Some, None, Result, Ok, Err, List, [], ◌∷◌, ◌++◌, length, map, refl, ap, ap₂, sym, ◌∙◌, arith}
use Rattle.std.proofs.lemmas.Bool.{eqb-true}
use Rattle.std.proofs.lemmas.Bool.Decides.{nat_tests}
use Rattle.std.proofs.lemmas.List.Sums.{sum_by-append}
use Rattle.std.specs.Prelude.{◌==◌, count_by, replicate}
use Rattle.std.specs.List.{flat_map}
use Rattle.std.specs.Option.{option_to_list}
use Rattle.diag_can.specs.Log.{silence, waited}
use Rattle.diag_can.specs.declared.bus_line.BusLine.{BusLine}
use Rattle.diag_can.specs.declared.bus_line.BusLine.TheVariants as line
use Rattle.diag_can.specs.declared.fault.LineFault.{LineFault}
use Rattle.diag_can.specs.Event.{Event, Physical, Functional, Ticks}
use Rattle.diag_can.specs.declared.frame.Frame.{Frame}
use Rattle.diag_can.specs.declared.log.Timing.TheVariants.{Stamps}
use Rattle.diag_pdu.specs.Cut.{counted_from}
use Rattle.diag_tp.specs.Moments.{is_tick, last_time, moments}
use Rattle.diag_tp.proofs.Moments.{last_time-is, last_time-ticks, moments-append}
use Rattle.diag_setup.specs.Setup.{ids_of}
use Rattle.diag_setup.specs.declared.raw.RawSetup.{RawSetup}
use Rattle.diag_world.specs.Weaving.{all_by, items_of}
use Rattle.diag_world.proofs.Interleavings.{items_of-append}
use Rattle.diag_world.specs.Server.{each_of}
use Rattle.diag_bus.specs.Events.{ClocksLaw, clock_after, events_after, frame_said, frame_to, gives_if_well, line_events, line_said, reference, span_said, time_said}

-- ---- the time of events

last_time-append : (E D : List Event) → last_time (E ++ D) ≡ last_time E + last_time D
last_time-append E D =
    let ticks : Event → ℕ = λ e. cond (is_tick e) 1 0 in
    let both : count_by is_tick (moments E ++ moments D) ≡ count_by is_tick (moments E) + count_by is_tick (moments D) =
    sum_by-append ticks (moments E) (moments D) in
    last_time-is (E ++ D) ∙ (ap (count_by is_tick) (moments-append E D) ∙ (both ∙ sym (ap₂ ◌+◌ (last_time-is E) (last_time-is D))))

last_time-one : (n : ℕ) → last_time (Ticks n ∷ []) ≡ n
last_time-one n = let one = last_time-ticks [] n in omega (arith, one)

last_time-replicate : (k n : ℕ) → last_time (replicate k (Ticks n)) ≡ k * n
last_time-replicate zero n = omega arith
last_time-replicate (suc k) n =
    let both = last_time-append (Ticks n ∷ []) (replicate k (Ticks n)) in
    omega (arith, both, last_time-one n, last_time-replicate k n)

last_time-waited : (ms : ℕ) → last_time (waited ms) ≡ ms
last_time-waited ms =
    let parts = replicate (ms / 60000) (Ticks 60000) in
    let whole = last_time-replicate (ms / 60000) 60000 in
    let rest : last_time (cond (ms % 60000 == 0) [] (Ticks (ms % 60000) ∷ [])) ≡ ms % 60000 = last (ms % 60000) (ms % 60000 == 0) refl in
    last_time-append parts (cond (ms % 60000 == 0) [] (Ticks (ms % 60000) ∷ [])) ∙ omega (arith, whole, rest)
  where
    last : (n : ℕ) (b : Bool) → (n == 0) ≡ b → last_time (cond b [] (Ticks n ∷ [])) ≡ n
    last n true is = sym (eqb-true n 0 is)
    last n false is = last_time-one n

-- ---- an event to each tester

-- those from a on have nothing of a tester before them
none_each : (a n t : ℕ) (e : Event) → t < a → items_of (map (λ u. (u, e)) (counted_from a n)) t ≡ []
none_each a zero t e before = refl
none_each a (suc n) t e before =
    let away : (a == t) ≡ false = grind (arith, nat_tests) in
    let rest = items_of (map (λ u. (u, e)) (counted_from (suc a) n)) t in
    ap (λ b. cond b (e ∷ rest) rest) away ∙ none_each (suc a) n t e (omega arith)

one_each : (a n t : ℕ) (e : Event) → a ≤ t → t < a + n → items_of (map (λ u. (u, e)) (counted_from a n)) t ≡ e ∷ []
one_each a zero t e from to = absurd (omega arith)
one_each a (suc n) t e from to = pick (a == t) refl (λ later. one_each (suc a) n t e later (omega arith))
  where
    rest : List Event
    rest = items_of (map (λ u. (u, e)) (counted_from (suc a) n)) t

    pick : (b : Bool) → (a == t) ≡ b → (suc a ≤ t → rest ≡ e ∷ []) → cond (a == t) (e ∷ rest) rest ≡ e ∷ []
    pick true is next = ap (λ b. cond b (e ∷ rest) rest) is ∙ ap (λ l. e ∷ l) (none_each (suc a) n t e (let same : a ≡ t = eqb-true a t is in omega arith))
    pick false is next = ap (λ b. cond b (e ∷ rest) rest) is ∙ next (grind (arith, nat_tests))

-- of events that each go to all testers, a tester has each
all_each : (n t : ℕ) (events : List Event) → 1 ≤ t → t ≤ n → items_of (flat_map (each_of n) events) t ≡ events
all_each n t [] from to = refl
all_each n t (e ∷ events) from to =
    items_of-append (each_of n e) (flat_map (each_of n) events) t ∙ ap₂ ◌++◌ (one_each 1 n t e from (omega arith)) (all_each n t events from to)

-- ---- frames

-- a frame takes no time
frame_time : (mine a b : Bool) (bytes : List ℕ) (u t : ℕ) → (u == t) ≡ mine
    → last_time (items_of (all_by u (option_to_list (cond a (Some (Physical bytes)) (cond b (Some (Functional bytes)) None)))) t) ≡ 0
frame_time true true b bytes u t is = ap (λ c. last_time (cond c (Physical bytes ∷ []) [])) is ∙ refl
frame_time false true b bytes u t is = ap (λ c. last_time (cond c (Physical bytes ∷ []) [])) is ∙ refl
frame_time true false true bytes u t is = ap (λ c. last_time (cond c (Functional bytes ∷ []) [])) is ∙ refl
frame_time false false true bytes u t is = ap (λ c. last_time (cond c (Functional bytes ∷ []) [])) is ∙ refl
frame_time mine false false bytes u t is = refl

each_frame_time : (setup : RawSetup) (frame : Option Frame) (u t : ℕ) → last_time (items_of (frame_to setup frame u) t) ≡ 0
each_frame_time setup None u t = refl
each_frame_time setup (Some frame) u t =
    frame_time (u == t) (frame.id == (ids_of setup u).request) (frame.id == (ids_of setup u).functional) frame.bytes u t refl

frames_time : (setup : RawSetup) (frame : Option Frame) (us : List ℕ) (t : ℕ) → last_time (items_of (flat_map (frame_to setup frame) us) t) ≡ 0
frames_time setup frame [] t = refl
frames_time setup frame (u ∷ us) t =
    let here = items_of (frame_to setup frame u) t in
    let rest = items_of (flat_map (frame_to setup frame) us) t in
    ap last_time (items_of-append (frame_to setup frame u) (flat_map (frame_to setup frame) us) t)
    ∙ omega (arith, last_time-append here rest, each_frame_time setup frame u t, frames_time setup frame us t)

-- ---- lines

time_of_said : (r : Option ℕ) (said : BusLine) → last_time (time_said r said) ≡ span_said r (Ok said)
time_of_said r line.Empty = refl
time_of_said r (line.Ticks n) = last_time-one n
time_of_said r (line.Stamped moment frame) = last_time-waited (silence Stamps r (Some moment))

line_time : (setup : RawSetup) (r : Option ℕ) (said : Result BusLine LineFault) (t : ℕ) → 1 ≤ t → t ≤ length setup.testers
    → last_time (items_of (gives_if_well setup r said) t) ≡ span_said r said
line_time setup r (Err fault) t from to = refl
line_time setup r (Ok said) t from to =
    let time = flat_map (each_of (length setup.testers)) (time_said r said) in
    let frames = flat_map (frame_to setup (frame_said said)) (counted_from 1 (length setup.testers)) in
    let all = ap last_time (all_each (length setup.testers) t (time_said r said) from to) in
    ap last_time (items_of-append time frames t)
    ∙ omega (
      arith,
      last_time-append (items_of time t) (items_of frames t),
      all,
      frames_time setup (frame_said said) (counted_from 1 (length setup.testers)) t,
      time_of_said r said,
    )

clocks_after : (setup : RawSetup) (past lines : List (List ℕ)) (t : ℕ) → 1 ≤ t → t ≤ length setup.testers
    → last_time (items_of (events_after setup past lines) t) ≡ clock_after setup past lines
clocks_after setup past [] t from to = refl
clocks_after setup past (line ∷ lines) t from to =
    let here = line_events setup past line in
    let rest = events_after setup (past ++ line ∷ []) lines in
    let first = line_time setup (reference setup past) (line_said setup line) t from to in
    ap last_time (items_of-append here rest t)
    ∙ omega (arith, last_time-append (items_of here t) (items_of rest t), first, clocks_after setup (past ++ line ∷ []) lines t from to)

pub clocks : ClocksLaw
clocks setup lines t from to = clocks_after setup [] lines t from to
