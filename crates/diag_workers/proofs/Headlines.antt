-- A crew at fresh seats of one gate plays the logs: what its records and the closed gate say together.
use Rattle.std.proofs.Common.{◌≡◌, ◌≢◌, ◌⊎◌, inl, inr, ℕ, zero, suc, ◌+◌, ◌<◌, ◌≤◌, eqb, true, cond, is_some, List, [], ◌∷◌, ◌++◌, length, map, get_or, refl, sym, add-one, ap, ap₂, subst, ◌∙◌, arith, eq-eqb, ne_eqb, Some, None}
use Rattle.std.specs.Prelude.{slice_get, if◌then◌else◌, ◌==◌}
use Rattle.std.proofs.lemmas.Option.{same_Some, slice_get_within}
use Rattle.std.proofs.lemmas.List.{length-map}
use Rattle.std.proofs.lemmas.Bool.{cases_lt}
use mathlib.Core.Logic.{dite}
use native.Mathlib.Decide.{ℕ_discrete}
use Rattle.atomic_table.specs.Seated.{TableId}
use Rattle.diag_can.specs.Event.{Event}
use Rattle.diag_pdu.specs.declared.setup.LinkSetup.{LinkSetup}
use Rattle.diag_tp.specs.declared.sent.Sent.{Sent}
use Rattle.diag_tp.specs.Gives.{steps}
use Rattle.diag_pdu.specs.Cut.{counted_from}
use Rattle.diag_setup.specs.declared.raw.RawSetup.{RawSetup}
use Rattle.diag_setup.specs.Setup.{link_of}
use Rattle.diag_ecu.specs.State.{opening}
use Rattle.diag_desk.specs.declared.entry.Entry.{Entry}
use Rattle.diag_desk.specs.Entry.{AreEntries}
use Rattle.diag_desk.specs.Legal.{Run, Legal}
use Rattle.diag_desk.specs.Entries.{own, asked}
use Rattle.diag_desk.specs.Timed.{Timed, entries_of, timed}
use Rattle.diag_desk.proofs.TimedLemmas.{own_timed_entries, timed_entries}
use Rattle.diag_port.specs.declared.pace.Pace.{Pace}
use Rattle.diag_port.specs.Late.{pace_of}
use Rattle.diag_port.specs.Releasing.{drawn}
use Rattle.diag_world.specs.Headline.{IsPlay}
use Rattle.diag_world.specs.Weaving.{weave, log_at, AsksItsLog, WeavingLaw}
use Rattle.diag_gate.specs.Views.{own_in, owns_from}
use Rattle.diag_gate.specs.Seats.{SeatView, HostView, of_host, new_host, AllHome, Closed}
use Rattle.diag_workers.specs.declared.working.WorkerRecord.{WorkerRecord}
use Rattle.diag_workers.specs.Crew.{AllWorked, Worked}
use Rattle.diag_workers.specs.Seating.{Out, Back}
use Rattle.diag_gate.proofs.Begins.{own_none, owns_there}
use Rattle.diag_workers.proofs.Recording.{asks_of}

-- ---- seats of one gate, of testers in order

-- seats that have done nothing, of tester n and those after it
abbrev FreshFrom : TableId → ℕ → List SeatView → Type 0
FreshFrom z n [] = Unit {0}
FreshFrom z n (s ∷ seats) = (s.gate ≡ z) × (s.who ≡ n) × (s.own ≡ []) × FreshFrom z (n + 1) seats

abbrev IsFresh : TableId → ℕ → SeatView → Type 0
IsFresh z n s = (s.gate ≡ z) × (s.who ≡ n) × (s.own ≡ [])

fresh_from : (z : TableId) (n : ℕ) (seats : List SeatView) → ((k : ℕ) (d : SeatView) → k < length seats → IsFresh z (n + k) (get_or seats k d))
    → FreshFrom z n seats
fresh_from z n [] each = tt
fresh_from z n (s ∷ seats) each =
    let low : 0 < length (s ∷ seats) = omega arith in
    let here : IsFresh z (n + 0) s = each 0 s low in
    let same : n + 0 ≡ n = omega arith in
    let rest : (k : ℕ) (d : SeatView) → k < length seats → IsFresh z (n + 1 + k) (get_or seats k d) = λ k d h.
    let within : suc k < length (s ∷ seats) = omega arith in
    let shift : n + suc k ≡ n + 1 + k = omega arith in subst (λ (m : ℕ). IsFresh z m (get_or seats k d)) shift (each (suc k) d within) in
    (here.0, here.1 ∙ same, here.2, fresh_from z (n + 1) seats rest)

pub places_are : (z : TableId) (n : ℕ) (seats : List SeatView) → FreshFrom z n seats → map (λ (s : SeatView). s.who) seats ≡ counted_from n (length seats)
places_are z n [] f = refl
places_are z n (s ∷ seats) f = ap₂ (λ (x : ℕ) (xs : List ℕ). x ∷ xs) f.1
    (places_are z (n + 1) seats f.3 ∙ ap (λ (m : ℕ). counted_from m (length seats)) (add-one n))

-- ---- the logs of testers in order, and the entries that their seats have

abbrev entries_at : ℕ → List SeatView → ℕ → List Timed
entries_at n [] t = []
entries_at n (s ∷ seats) t = if n == t then s.own else entries_at (n + 1) seats t

here_reads : (n t : ℕ) (A : Type 0) (x y : A) → n ≡ t → cond (eqb n t) x y ≡ x
here_reads n t A x y is = ap (λ b. cond b x y) (eq-eqb n t is)

past_reads : (n t : ℕ) (A : Type 0) (x y : A) → n ≢ t → cond (eqb n t) x y ≡ y
past_reads n t A x y not = ap (λ b. cond b x y) (ne_eqb n t not)

entries_before : (n : ℕ) (seats : List SeatView) (t : ℕ) → t < n → entries_at n seats t ≡ []
entries_before n [] t h = refl
entries_before n (s ∷ seats) t h =
    let later : t < n + 1 = omega arith in
    past_reads n t (List Timed) s.own (entries_at (n + 1) seats t) (λ e. omega arith) ∙ entries_before (n + 1) seats t later

entries_past : (n : ℕ) (seats : List SeatView) (t : ℕ) → n + length seats ≤ t → entries_at n seats t ≡ []
entries_past n [] t h = refl
entries_past n (s ∷ seats) t h =
    let above : n + 1 + length seats ≤ t = omega arith in
    past_reads n t (List Timed) s.own (entries_at (n + 1) seats t) (λ e. omega arith) ∙ entries_past (n + 1) seats t above

-- the crew's doors have seats
abbrev Done : {D K : Type 0} → (D → SeatView) → (ℕ → LinkSetup) → Pace → (K → List Entry → Type 0) → List (List Event) → List D
    → List (WorkerRecord K × D) → Type 0
Done seat links pace keeps logs doors done = AllWorked links pace (λ d. (seat d).who) (λ d. (seat d).own) (λ d. Some (seat d).gate) keeps logs doors done

abbrev seats_of : {D K : Type 0} → (D → SeatView) → List (WorkerRecord K × D) → List SeatView
seats_of seat done = map (λ r. seat r.1) done

module _ {D K : Type 0} (seat : D → SeatView) (links : ℕ → LinkSetup) (pace : Pace) (keeps : K → List Entry → Type 0) (z : TableId) where
  done_count : (logs : List (List Event)) (doors : List D) (done : List (WorkerRecord K × D)) → Done seat links pace keeps logs doors done
      → (length done ≡ length logs) × (length doors ≡ length logs)
  done_count [] [] [] all = (refl, refl)
  done_count (log ∷ logs) (door ∷ doors) (r ∷ rs) all = let c = done_count logs doors rs all.1 in (ap suc c.0, ap suc c.1)
  done_count [] [] (r ∷ rs) all = absurd all
  done_count [] (door ∷ doors) rs all = absurd all
  done_count (log ∷ logs) [] rs all = absurd all
  done_count (log ∷ logs) (door ∷ doors) [] all = absurd all

  -- each seat is home's
  record Kept (n k : ℕ) (seats : List SeatView) (s : SeatView) : Type 0 where
    gate : s.gate ≡ z
    who : s.who ≡ n + k
    own_is : s.own ≡ entries_at n seats (n + k)

  -- the entries of a seat that was fresh are those that its worker asked
  own_played : (n : ℕ) (log : List Event) (door : D) (r : WorkerRecord K × D) → IsFresh z n (seat door)
      → (w : Worked links pace (λ d. (seat d).who) (λ d. (seat d).own) (λ d. Some (seat d).gate) keeps log door r.0 r.1)
      → (seat r.1).own ≡ w.played.entries
  own_played n log door r f w = w.played.given ∙ ap (λ l. l ++ w.played.entries) f.2

  seats_kept : (n : ℕ) (logs : List (List Event)) (doors : List D) (done : List (WorkerRecord K × D)) → FreshFrom z n (map seat doors)
      → Done seat links pace keeps logs doors done
      → (k : ℕ) (d : SeatView) → k < length done → Kept n k (seats_of seat done) (get_or (seats_of seat done) k d)
  seats_kept n [] [] [] f all k d h = absurd (omega arith)
  seats_kept n (log ∷ logs) (door ∷ doors) (r ∷ rs) f all zero d h =
      let w = all.0 in
      let same : n ≡ n + 0 = omega arith in record {
        gate = same_Some _ _ w.home ∙ f.0;
        who = w.tester ∙ (f.1 ∙ same);
        own_is = sym (here_reads n (n + 0) (List Timed) (seat r.1).own (entries_at (n + 1) (seats_of seat rs) (n + 0)) same);
      }
  seats_kept n (log ∷ logs) (door ∷ doors) (r ∷ rs) f all (suc k) d h =
      let within : k < length rs = omega arith in
      let shift : n + 1 + k ≡ n + suc k = omega arith in
      let rest = seats_kept (n + 1) logs doors rs f.3 all.1 k d within in record {
        gate = rest.gate;
        who = rest.who ∙ shift;
        own_is = rest.own_is
            ∙ (ap (λ (t : ℕ). entries_at (n + 1) (seats_of seat rs) t) shift
            ∙ sym (past_reads n (n + suc k) (List Timed) (seat r.1).own (entries_at (n + 1) (seats_of seat rs) (n + suc k)) (λ e. omega arith)));
      }
  seats_kept n [] [] (r ∷ rs) f all k d h = absurd all
  seats_kept n [] (door ∷ doors) rs f all k d h = absurd all
  seats_kept n (log ∷ logs) [] rs f all k d h = absurd all
  seats_kept n (log ∷ logs) (door ∷ doors) [] f all k d h = absurd all

  asks_at : (n : ℕ) (logs : List (List Event)) (doors : List D) (done : List (WorkerRecord K × D)) (t : ℕ) → FreshFrom z n (map seat doors)
      → Done seat links pace keeps logs doors done
      → asked (entries_of (entries_at n (seats_of seat done) t)) ≡ steps (links t) (log_at n logs t)
  asks_at n [] [] [] t f all = refl
  asks_at n (log ∷ logs) (door ∷ doors) (r ∷ rs) t f all =
      let rest = entries_at (n + 1) (seats_of seat rs) t in
      let rest_log = log_at (n + 1) logs t in
      let entries = (seat r.1).own in
      let played = all.0.played in
      let own = own_played n log door r (f.0, f.1, f.2) all.0 in dite (ℕ_discrete n t)
      (λ is. ap (λ (l : List Timed). asked (entries_of l)) (here_reads n t (List Timed) entries rest is ∙ own)
      ∙ (asks_of (seat door).who (entries_of played.entries) (steps (links (seat door).who) log) played.asked
      ∙ (ap (λ (m : ℕ). steps (links m) log) (f.1 ∙ is) ∙ ap (steps (links t)) (sym (here_reads n t (List Event) log rest_log is)))))
      (λ not. ap (λ (l : List Timed). asked (entries_of l)) (past_reads n t (List Timed) entries rest not)
      ∙ (asks_at (n + 1) logs doors rs t f.3 all.1 ∙ ap (steps (links t)) (sym (past_reads n t (List Event) log rest_log not))))
  asks_at n [] [] (r ∷ rs) t f all = absurd all
  asks_at n [] (door ∷ doors) rs t f all = absurd all
  asks_at n (log ∷ logs) [] rs t f all = absurd all
  asks_at n (log ∷ logs) (door ∷ doors) [] t f all = absurd all

  sent_at : (n : ℕ) (logs : List (List Event)) (doors : List D) (done : List (WorkerRecord K × D)) (i : ℕ) (frames : List Sent)
      → FreshFrom z n (map seat doors) → Done seat links pace keeps logs doors done
      → slice_get (map (λ r. r.0.sent.items) done) i ≡ Some frames
      → frames ≡ drawn (links (n + i)) pace (log_at n logs (n + i)) (entries_at n (seats_of seat done) (n + i))
  sent_at n [] [] [] i frames f all at = absurd (let low = slice_get_within [] i frames at in omega arith)
  sent_at n (log ∷ logs) (door ∷ doors) (r ∷ rs) zero frames f all at =
      let same : n ≡ n + 0 = omega arith in
      let own = own_played n log door r (f.0, f.1, f.2) all.0 in
      sym (same_Some _ _ at) ∙ (all.0.played.sent
      ∙ (ap (λ l. drawn (links (seat door).who) pace log l) (sym own)
      ∙ (λ i. drawn (links ((f.1 ∙ same) i)) pace (sym (here_reads n (n + 0) (List Event) log (log_at (n + 1) logs (n + 0)) same) i)
      (sym (here_reads n (n + 0) (List Timed) (seat r.1).own (entries_at (n + 1) (seats_of seat rs) (n + 0)) same) i))))
  sent_at n (log ∷ logs) (door ∷ doors) (r ∷ rs) (suc i) frames f all at =
      let shift : n + 1 + i ≡ n + suc i = omega arith in
      let t : ℕ = n + suc i in
      let not : n ≢ t = λ e. omega arith in
      sent_at (n + 1) logs doors rs i frames f.3 all.1 at
      ∙ (ap (λ (m : ℕ). drawn (links m) pace (log_at (n + 1) logs m) (entries_at (n + 1) (seats_of seat rs) m)) shift
      ∙ (λ j. drawn (links t) pace (sym (past_reads n t (List Event) log (log_at (n + 1) logs t) not) j)
      (sym (past_reads n t (List Timed) (seat r.1).own (entries_at (n + 1) (seats_of seat rs) t) not) j)))
  sent_at n [] [] (r ∷ rs) i frames f all at = absurd all
  sent_at n [] (door ∷ doors) rs i frames f all at = absurd all
  sent_at n (log ∷ logs) [] rs i frames f all at = absurd all
  sent_at n (log ∷ logs) (door ∷ doors) [] i frames f all at = absurd all

-- ---- a place that is none of the eight has no entry

own_outside : (journal : List Entry) (t : ℕ) → AreEntries journal → (t ≡ 0) ⊎ (8 < t) → own journal t ≡ []
own_outside [] t all out = refl
own_outside (e ∷ es) t all out =
    let not : e.who ≢ t = λ is. elim out [ inl low ↦ omega (arith, low, is, all.0.0) | inr high ↦ omega (arith, high, is, all.0.1) ] in
    past_reads e.who t (List Entry) (e ∷ own es t) (own es t) not ∙ own_outside es t all.1 out

-- nor one with a delay
none_outside : (d : Run) (t : ℕ) → AreEntries d.journal → (t ≡ 0) ⊎ (8 < t) → own_in d.opening d.journal t ≡ []
none_outside d t all out = own_none d.opening t d.journal (own_outside d.journal t all out)

-- at the beginning the host has every tester, and nobody has an entry
pub record Opened (setup : RawSetup) (h : HostView) : Type 0 where
  pub opening_is : h.opening ≡ opening setup
  pub owns : (t : ℕ) → t < 9 → of_host h t ≡ Some []
  pub wide : length h.owns ≡ 9

pub opened : (setup : RawSetup) (h : HostView) (gate : TableId) (d : Run) → d ≡ record { opening = opening setup; journal = [] } → h ≡ new_host gate d
    → Opened setup h
opened setup h gate d is made =
    let fresh : Run = record { opening = opening setup; journal = [] } in
    let none : h.owns ≡ owns_from 0 9 fresh = ap (λ (x : HostView). x.owns) made ∙ ap (λ (r : Run). owns_from 0 9 r) is in record {
      opening_is = ap (λ (x : HostView). x.opening) made ∙ ap (λ (r : Run). r.opening) is;
      owns = λ t low. ap (λ l. get_or l t None) none ∙ owns_there 0 9 t fresh low;
      wide = ap length none;
    }

-- the seats that were given out are fresh
pub out_is_fresh : (setup : RawSetup) (h h1 : HostView) (n : ℕ) (seats : List SeatView) → n ≤ 8 → Opened setup h → Out h h1 n seats → FreshFrom h.gate 1 seats
out_is_fresh setup h h1 n seats few o out = fresh_from h.gate 1 seats (λ k d low.
    let within : k < n = omega (arith, low, out.many) in
    let e = out.each k d within in
    let place : k + 1 < 9 = omega arith in
    let same : k + 1 ≡ 1 + k = omega arith in
    let none : e.0 ≡ [] = same_Some _ _ (sym e.1 ∙ o.owns (k + 1) place) in
    (ap (λ (s : SeatView). s.gate) e.2, ap (λ (s : SeatView). s.who) e.2 ∙ same, ap (λ (s : SeatView). s.own) e.2 ∙ none))

-- the host has its seats again
pub home_again : (setup : RawSetup) (h h1 h2 : HostView) (n : ℕ) (out_seats seats : List SeatView) → n ≤ 8 → length seats ≡ n → Opened setup h
    → Out h h1 n out_seats → Back h1 h2 seats → AllHome h2
home_again setup h h1 h2 n out_seats seats few many o out back zero low = ap is_some (back.rest 0 (inl refl) ∙ ((out.rest 0 (inl refl)).0 ∙ o.owns 0 low))
home_again setup h h1 h2 n out_seats seats few many o out back (suc k) low = elim (cases_lt k n) [ inl lt ↦ back_is lt | inr ge ↦ rest_is ge ]
  where
    nobody : SeatView
    nobody = record { gate = h.gate; who = 0; opening = h.opening; own = []; seen = []; delay = 0; missed = 0 }

    back_is : k < n → is_some (of_host h2 (suc k)) ≡ true
    back_is lt =
        let within : k < length seats = omega (arith, lt, many) in
        let same : k + 1 ≡ suc k = omega arith in
        ap (λ (t : ℕ). is_some (of_host h2 t)) (sym same) ∙ ap is_some (back.each k nobody within)

    rest_is : n ≤ k → is_some (of_host h2 (suc k)) ≡ true
    rest_is ge =
        let past : n < suc k = omega (arith, ge) in
        let past_seats : length seats < suc k = omega (arith, past, many) in
        ap is_some (back.rest (suc k) (inr past_seats) ∙ ((out.rest (suc k) (inr past)).0 ∙ o.owns (suc k) low))

-- ---- the headline

module _ {D K : Type 0} (seat : D → SeatView) (keeps : K → List Entry → Type 0) (setup : RawSetup) (h h1 : HostView) (n : ℕ) (few : n ≤ 8)
    (out_seats : List SeatView) (logs : List (List Event)) (doors : List D) (done : List (WorkerRecord K × D))
    (o : Opened setup h) (out : Out h h1 n out_seats) (doors_are : map seat doors ≡ out_seats)
    (all : Done seat (link_of setup) (pace_of setup) keeps logs doors done) where
  doors_fresh : FreshFrom h.gate 1 (map seat doors)
  doors_fresh = subst (FreshFrom h.gate 1) (sym doors_are) (out_is_fresh setup h h1 n out_seats few o out)

  done_many : length done ≡ n
  done_many =
      let counts = done_count seat (link_of setup) (pace_of setup) keeps h.gate logs doors done all in
      counts.0 ∙ (sym counts.1 ∙ (sym (length-map doors seat) ∙ (ap length doors_are ∙ out.many)))

  pub seats_many : length (seats_of seat done) ≡ n
  seats_many = length-map done (λ r. seat r.1) ∙ done_many

  -- what taking the seats in asks
  pub seats_home : (k : ℕ) (s : SeatView) → k < length (seats_of seat done)
      → ((get_or (seats_of seat done) k s).gate ≡ h.gate) × ((get_or (seats_of seat done) k s).who ≡ k + 1)
  seats_home k s low =
      let within : k < length done = omega (arith, low, length-map done (λ r. seat r.1)) in
      let kept = seats_kept seat (link_of setup) (pace_of setup) keeps h.gate 1 logs doors done doors_fresh all k s within in
      let same : 1 + k ≡ k + 1 = omega arith in
      (kept.gate, kept.who ∙ same)

module _ {D K : Type 0} (seat : D → SeatView) (keeps : K → List Entry → Type 0) (setup : RawSetup) (h h1 h2 : HostView) (n : ℕ) (few : n ≤ 8)
    (out_seats : List SeatView) (logs : List (List Event)) (doors : List D) (done : List (WorkerRecord K × D)) (d : Run)
    (o : Opened setup h) (out : Out h h1 n out_seats) (doors_are : map seat doors ≡ out_seats)
    (all : Done seat (link_of setup) (pace_of setup) keeps logs doors done)
    (back : Back h1 h2 (seats_of seat done)) where
  abbrev rs : List SeatView
  rs = seats_of seat done

  fresh_here : FreshFrom h.gate 1 (map seat doors)
  fresh_here = doors_fresh seat keeps setup h h1 n few out_seats logs doors done o out doors_are all

  many_done : length done ≡ n
  many_done = done_many seat keeps setup h h1 n few out_seats logs doors done o out doors_are all

  many_seats : length (seats_of seat done) ≡ n
  many_seats = seats_many seat keeps setup h h1 n few out_seats logs doors done o out doors_are all

  -- each tester's entries are those of its seat, and nobody else has one
  own_is : Closed h2 d → AreEntries d.journal → (t : ℕ) → own_in d.opening d.journal t ≡ entries_at 1 rs t
  own_is closed placed zero = none_outside d zero placed (inl refl) ∙ sym (entries_before 1 rs zero (let low : 0 < 1 = omega arith in low))
  own_is closed placed (suc k) = elim (cases_lt k n) [
    | inl lt ↦ (
        let within : k < length done = omega (arith, lt, many_done) in
        let low : k < length (seats_of seat done) = omega (arith, lt, many_seats) in
        let kept = seats_kept seat (link_of setup) (pace_of setup) keeps h.gate 1 logs doors done fresh_here all k nobody within in
        let place : k + 1 ≡ suc k = omega arith in
        let same : 1 + k ≡ suc k = omega arith in
        closed.owns (suc k) (get_or (seats_of seat done) k nobody).own (ap (of_host h2) (sym place) ∙ back.each k nobody low)
        ∙ (kept.own_is ∙ ap (entries_at 1 rs) same)
        )
    | inr ge ↦ (
        let past : n < suc k = omega (arith, ge) in
        let past_seats : length (seats_of seat done) < suc k = omega (arith, past, many_seats) in
        let past_own : 1 + length rs ≤ suc k = omega (arith, ge, many_seats) in
        nothing_past (suc k) past past_seats ∙ sym (entries_past 1 rs (suc k) past_own)
        )
  ]
    where
      nobody : SeatView
      nobody = record { gate = h.gate; who = 0; opening = h.opening; own = []; seen = []; delay = 0; missed = 0 }

      nothing_past : (t : ℕ) → n < t → length (seats_of seat done) < t → own_in d.opening d.journal t ≡ []
      nothing_past t past past_seats = elim (cases_lt t 9) [
        | inl low ↦ closed.owns t [] (back.rest t (inr past_seats) ∙ ((out.rest t (inr past)).0 ∙ o.owns t low))
        | inr high ↦ (let far : 8 < t = omega (arith, high) in none_outside d t placed (inr far))
      ]

  pub headline : WeavingLaw → Closed h2 d → AreEntries d.journal → (sent : List (List Sent)) → sent ≡ map (λ r. r.0.sent.items) done
      → IsPlay setup (weave (link_of setup) d.journal logs) logs d sent
  headline law closed placed sent sent_is =
      let same = own_is closed placed in
      let asks : AsksItsLog (link_of setup) d.journal logs =
      λ t. ap asked (sym (own_timed_entries (timed d.opening d.journal) t ∙ ap (λ (l : List Entry). own l t) (timed_entries d.opening d.journal)))
      ∙ ap (λ (l : List Timed). asked (entries_of l)) (same t) ∙ asks_at seat (link_of setup) (pace_of setup) keeps h.gate 1 logs doors done t fresh_here all in
      let woven = law (link_of setup) d.journal logs asks in
      let counts = done_count seat (link_of setup) (pace_of setup) keeps h.gate logs doors done all in record {
        opening = closed.opening ∙ (back.same.1 ∙ (out.same.1 ∙ o.opening_is));
        legal = subst (λ s. Legal s d.journal) (sym closed.opening) closed.legal;
        interleaving = woven.0;
        run = sym woven.1;
        asks = asks;
        testers = ap length sent_is ∙ (length-map done (λ r. r.0.sent.items) ∙ counts.0);
        frames = λ i frames at.
            let place : 1 + i ≡ i + 1 = omega arith in
            sent_at seat (link_of setup) (pace_of setup) keeps h.gate 1 logs doors done i frames fresh_here all (ap (λ l. slice_get l i) (sym sent_is) ∙ at)
            ∙ (ap (λ (t : ℕ). drawn (link_of setup t) (pace_of setup) (log_at 1 logs t) (entries_at 1 rs t)) place
            ∙ ap (λ (l : List Timed). drawn (link_of setup (i + 1)) (pace_of setup) (log_at 1 logs (i + 1)) l) (sym (same (i + 1))));
      }

-- ---- what the calls of a play ask

who_map : {D : Type 0} (seat : D → SeatView) (doors : List D) → map (λ d. (seat d).who) doors ≡ map (λ (s : SeatView). s.who) (map seat doors)
who_map seat [] = refl
who_map seat (d ∷ ds) = ap (λ l. (seat d).who ∷ l) (who_map seat ds)

-- the doors stand in the testers' order
pub doors_placed : {D : Type 0} (seat : D → SeatView) (setup : RawSetup) (h h1 : HostView) (n m : ℕ) (seats : List SeatView) (doors : List D) → n ≤ 8
    → n ≡ m → Opened setup h → Out h h1 n seats → map seat doors ≡ seats
    → map (λ d. (seat d).who) doors ≡ counted_from 1 m
doors_placed seat setup h h1 n m seats doors few same o out doors_are =
    who_map seat doors ∙ (ap (map (λ (s : SeatView). s.who)) doors_are
    ∙ (places_are h.gate 1 seats (out_is_fresh setup h h1 n seats few o out) ∙ ap (counted_from 1) (out.many ∙ same)))

-- a new gate's host is of that gate
pub host_gate : (h : HostView) (gate : TableId) (d : Run) → h ≡ new_host gate d → h.gate ≡ gate
host_gate h gate d made = ap (λ (x : HostView). x.gate) made

-- a seat that was given out is of the host's gate
pub seat_gate : (h h1 : HostView) (n : ℕ) (seats : List SeatView) → Out h h1 n seats → (k : ℕ) (s : SeatView) → k < length seats
    → (get_or seats k s).gate ≡ h.gate
seat_gate h h1 n seats out k s low =
    let within : k < n = omega (arith, low, out.many) in
    ap (λ (x : SeatView). x.gate) (out.each k s within).2
