-- What a seat's steps leave of it.
use Rattle.std.proofs.Common.{◌<◌, ◌≤◌, ◌≡◌, ◌≢◌, ◌↔◌, arith, ℕ, List, [], ◌∷◌, ◌++◌, length, refl, sym, ap, ◌∙◌, subst, append_assoc, Option, Some, None, Result, Ok, Err, MatchResult, IfOk, OnOk, OnErr}
use Rattle.atomic_table.specs.Table.{rest}
use Rattle.atomic_table.specs.Seated.{TableId}
use Rattle.diag_ecu.specs.State.{State}
use Rattle.diag_desk.specs.Entries.{BeginsWith, entry}
use Rattle.diag_desk.specs.Legal.{Legal, Run, after, entered}
use Rattle.diag_desk.specs.Timed.{Timed, delay_to, timed_entry}
use Rattle.diag_desk.specs.declared.entry.Entry.{Entry}
use Rattle.diag_gate.proofs.Owned.{owned}
use Rattle.diag_pdu.specs.declared.step.Step.{Step}
use Rattle.diag_desk.specs.declared.desk.StepFault.{StepFault}
use Rattle.diag_desk.specs.declared.desk.StepFault.TheVariants.{Memory, JournalFull}
use Rattle.diag_gate.specs.declared.view.View.{View}
use Rattle.diag_gate.specs.Views.{IsLegal, own_of, seat_view, holding, letting_go}
use Rattle.diag_gate.specs.Rule.{run}
use Rattle.diag_gate.specs.Plays.{Sat, Taken}
use Rattle.diag_gate.specs.declared.fault.TryFault.{TryFault}
use Rattle.diag_gate.specs.Seats.{SeatView, Finds, Answered, IsFull, Refused, NotMade, as_tried, seat_as, IsSeat, IsGuard}
use Rattle.diag_gate.proofs.Begins.{begins_whole, own-append, own_same}
use Rattle.diag_gate.proofs.Keeps.{own_of_seat}

seat_has : (who : ℕ) (me : Sat) → IsSeat who me → own_of me.0 who ≡ Some me.0.own
seat_has who me is = ap (λ (t : ℕ). own_of me.0 t) (sym (ap (λ (m : Sat). m.0.who) is.is)) ∙ own_of_seat me.0 (ap (λ (m : Sat). m.0.is_seat) is.is)

head_same : (a b : Option Run) (xs ys : List (ℕ × Option Run)) → ◌≡◌ {A = List (ℕ × Option Run)} ((0, a) ∷ xs) ((0, b) ∷ ys) → a ≡ b
head_same a b xs ys e = ap (λ (l : List (ℕ × Option Run)). first l) e
  where
    first : List (ℕ × Option Run) → Option Run
    first [] = a
    first (x ∷ l) = x.1

-- the seat takes the desk
module _ (who : ℕ) (me me1 me2 : Sat) (result : Option Run) (is : IsSeat who me) (t : Taken me.0 me1) (taken : me1.1 ≡ (0, result) ∷ rest me1.1)
    (freed : me2 ≡ (me1.0, (0, None) ∷ rest me1.1)) where
  pub run_is : result ≡ Some (run me.0.opening t.journal)
  run_is = head_same _ _ _ _ (sym taken ∙ ap (λ (m : Sat). m.1) t.after)

  me2_is : me2 ≡ (holding me.0 t.journal, (0, None) ∷ [])
  me2_is = freed ∙ ap (λ (m : Sat). (m.0, (0, None) ∷ rest m.1)) t.after

  pub held_is : IsGuard who me2 (run me.0.opening t.journal)
  held_is = record {
    is = me2_is ∙ (λ i. (holding (ap (λ (m : Sat). m.0) is.is i) t.journal, (0, None) ∷ []))
        ∙ (λ i. (holding (seat_view (opening_is i) who (own_is i) [] (missed_is i)) (seen_is i), (0, None) ∷ []));
    place = is.place;
    desk = λ i. run (opening_is i) (seen_is i);
    entries = (λ i. owned (sym opening_is i) who (sym seen_is i)) ∙ t.owns who me.0.own (seat_has who me is) ∙ own_is;
  }
    where
      opening_is : me.0.opening ≡ me2.0.opening
      opening_is = sym (ap (λ (m : Sat). m.0.opening) me2_is)

      own_is : me.0.own ≡ me2.0.own
      own_is = sym (ap (λ (m : Sat). m.0.own) me2_is)

      missed_is : me.0.missed ≡ me2.0.missed
      missed_is = sym (ap (λ (m : Sat). m.0.missed) me2_is)

      seen_is : t.journal ≡ me2.0.seen
      seen_is = sym (ap (λ (m : Sat). m.0.seen) me2_is)

  pub finds_is : (z0 z : TableId) (delay : ℕ) → z ≡ z0 → Finds (seat_as z0 who delay me) (seat_as z who delay me2)
  finds_is z0 z delay same = record {
    seat = λ i. record {
      gate = same i;
      who = who;
      opening = ap (λ (m : Sat). m.0.opening) me2_is i;
      own = ap (λ (m : Sat). m.0.own) me2_is i;
      seen =
          me2.0.seen;
      delay = delay;
      missed = ap (λ (m : Sat). m.0.missed) me2_is i;
    };
    legal = subst (Legal me.0.opening) (sym seen_is) t.legal;
    begins = subst (λ l. BeginsWith l me.0.seen) (sym seen_is) t.begins;
    entries = ap (owned me.0.opening who) seen_is ∙ t.owns who me.0.own (seat_has who me is);
  }
    where
      seen_is : me2.0.seen ≡ t.journal
      seen_is = ap (λ (m : Sat). m.0.seen) me2_is

-- the seat puts the desk back
pub put_is : (who : ℕ) (me me2 : Sat) (before d : Run) → IsGuard who me before → me2 ≡ (letting_go me.0 d, []) → IsSeat who me2
put_is who me me2 before d is put = record {
  is = put ∙ ap (λ (m : Sat). (letting_go m.0 d, [])) is.is
      ∙ (λ i. (
        seat_view (sym (ap (λ (m : Sat). m.0.opening) put) i) who
            ((ap (λ (t : ℕ). owned d.opening t d.journal) (sym who_is) ∙ sym (ap (λ (m : Sat). m.0.own) put)) i) (sym (ap (λ (m : Sat). m.0.seen) put) i)
            (sym (ap (λ (m : Sat). m.0.missed) put) i),
        [],
      ));
  place = is.place;
}
  where
    who_is : me.0.who ≡ who
    who_is = ap (λ (m : Sat). m.0.who) is.is

abbrev pub Answer : Type 0
Answer = Result (Option (List ℕ)) StepFault

not_full : ◌≡◌ {A = Answer} (Err Memory) (Err JournalFull) → ⊥
not_full e = cc

-- one step at the desk; the delay of the last step was `before`, and is `now`
module _ (who : ℕ) (me me2 : Sat) (d d2 : Run) (z z2 : TableId) (before now : ℕ) (is : IsGuard who me d) (legal : IsLegal d2)
    (put : me2.0 ≡ letting_go me.0 d2) (same : z2 ≡ z) where
  who_is : me.0.who ≡ who
  who_is = ap (λ (m : Sat). m.0.who) is.is

  left_as : (seen : List Entry) (own : List Timed) (delay : ℕ) → d2.journal ≡ seen → owned d2.opening who d2.journal ≡ own → now ≡ delay
      → seat_as z2 who now me2 ≡ record { gate = z; who = who; opening = me.0.opening; own = own; seen = seen; delay = delay; missed = me.0.missed }
  left_as seen own delay seen_is own_is delay_is = λ i. record {
    gate = same i;
    who = who;
    opening = ap (λ (v : View). v.opening) put i;
    own = (ap (λ (v : View). v.own) put ∙ ap (λ (t : ℕ). owned d2.opening t d2.journal) who_is ∙ own_is) i;
    seen = (ap (λ (v : View). v.seen) put ∙ seen_is) i;
    delay = delay_is i;
    missed = ap (λ (v : View). v.missed) put i;
  }

  pub answered_is : (step : Step) (reply : Option (List ℕ)) → d2 ≡ entered d (entry who step reply) → now ≡ delay_to (after d.opening d.journal) who step
      → Answered (seat_as z who before me) (seat_as z2 who now me2) step reply
  answered_is step reply more told =
      let e = entry who step reply in
      let x = timed_entry (after me.0.opening me.0.seen) e in
      let journal_is : d2.journal ≡ me.0.seen ++ e ∷ [] = ap (λ (r : Run). r.journal) more ∙ ap (λ (r : Run). r.journal ++ e ∷ []) is.desk in
      let opening_is : d2.opening ≡ me.0.opening = ap (λ (r : Run). r.opening) more ∙ ap (λ (r : Run). r.opening) is.desk in
      let own_is : owned d2.opening who d2.journal ≡ me.0.own ++ x ∷ [] =
      (λ i. owned (opening_is i) who (journal_is i)) ∙ own-append me.0.opening who me.0.seen (e ∷ [])
      ∙ (λ i. is.entries i ++ own_same (after me.0.opening me.0.seen) who e refl i) in
      let delay_is : now ≡ x.after = told ∙ ap (λ (r : Run). delay_to (after r.opening r.journal) who step) is.desk in
      let n_is = left_as _ _ _ journal_is own_is delay_is in
      let seen_is : d2.journal ≡ me2.0.seen = sym (ap (λ (v : View). v.seen) put) in record {
        found = me.0.seen;
        begins = begins_whole me.0.seen;
        seat = n_is;
        legal = subst (λ (p : State × List Entry). Legal p.0 p.1) (λ i. (opening_is i, seen_is i)) legal;
        entries = (λ i. owned (sym opening_is i) who (sym seen_is i)) ∙ own_is ∙ sym (ap (λ (s : SeatView). s.own) n_is);
      }

  -- the step comes behind what the seat has seen
  pub behind_is : (step : Step) (result : Result (Option (List ℕ)) StepFault) → IfOk result (λ r. d2 ≡ entered d (entry who step r))
      → IfOk result (λ r. me2.0.seen ≡ me.0.seen ++ entry who step r ∷ [])
  behind_is step (Ok r) more =
      ap (λ (v : View). v.seen) put
      ∙ (ap (λ (r : Run). r.journal) more ∙ ap (λ (d : Run). d.journal ++ entry who step r ∷ []) is.desk)
  behind_is step (Err e) more = tt

  pub same_is : d2 ≡ d → now ≡ before → seat_as z2 who now me2 ≡ seat_as z who before me
  same_is none delay_is =
      let journal_is : d2.journal ≡ me.0.seen = ap (λ (r : Run). r.journal) (none ∙ is.desk) in
      let opening_is : d2.opening ≡ me.0.opening = ap (λ (r : Run). r.opening) (none ∙ is.desk) in
      left_as _ _ _ journal_is ((λ i. owned (opening_is i) who (journal_is i)) ∙ is.entries) delay_is

  pub worked_is : (step : Step) (result : Result (Option (List ℕ)) StepFault) (delay : ℕ) → now ≡ delay → IfOk result (λ r. d2 ≡ entered d (entry who step r))
      → OnOk result (delay ≡ delay_to (after d.opening d.journal) who step) → OnErr result ((d2 ≡ d) × (delay ≡ before))
      → ((result ≡ Err JournalFull) ↔ (length d.journal ≡ 1000000)) → length d.journal ≤ 1000000
      → MatchResult result (λ r. Answered (seat_as z who before me) (seat_as z2 who now me2) step r)
      (λ e. (seat_as z2 who now me2 ≡ seat_as z who before me) × IsFull (seat_as z who before me) e)
  worked_is step (Ok r) delay kept ok told err full most = answered_is step r ok (kept ∙ told)
  worked_is step (Err e) delay kept ok told err full most = (same_is err.0 (kept ∙ err.1), full_is e full)
    where
      full_is : (e : StepFault) → (◌≡◌ {A = Answer} (Err e) (Err JournalFull) ↔ (length d.journal ≡ 1000000)) → IsFull (seat_as z who before me) e
      full_is Memory f =
          let apart : length d.journal ≢ 1000000 = λ h. not_full (f.1 h) in
          let below : length d.journal < 1000000 = omega arith in subst (λ (r : Run). length r.journal < 1000000) is.desk below
      full_is JournalFull f = ap (λ (r : Run). length r.journal) (sym is.desk) ∙ f.0 refl

-- one call after another

answers_at : (s : SeatView) (seen : List Entry) (n : SeatView) (step : Step) (reply : Option (List ℕ)) → BeginsWith seen s.seen
    → Answered (record s { seen = seen }) n step reply → Answered s n step reply
answers_at s seen n step reply begins a = record {
  found = a.found;
  begins = (begins.0 ++ a.begins.0, a.begins.1 ∙ ap (λ l. l ++ a.begins.0) begins.1 ∙ append_assoc s.seen begins.0 a.begins.0);
  seat = a.seat;
  legal = a.legal;
  entries = a.entries;
}

-- a step at the journal that was found
pub finds_then_answers : (s h n : SeatView) (step : Step) (reply : Option (List ℕ)) → Finds s h → Answered h n step reply → Answered s n step reply
finds_then_answers s h n step reply f a = answers_at s h.seen n step reply f.begins (subst (λ x. Answered x n step reply) f.seat a)

pub finds_then_refused : (s h n : SeatView) (e : StepFault) → Finds s h → (n ≡ h) × IsFull h e → Refused s n e
finds_then_refused s h n e f r = (subst (Finds s) (sym r.0) f, subst (λ x. IsFull x e) (sym r.0) r.1)

pub made_of : (s h n : SeatView) (step : Step) (result : Result (Option (List ℕ)) StepFault) → Finds s h
    → MatchResult result (λ r. Answered h n step r) (λ e. (n ≡ h) × IsFull h e)
    → MatchResult result (λ r. Answered s n step r) (λ e. Refused s n e)
made_of s h n step (Ok r) f a = finds_then_answers s h n step r f a
made_of s h n step (Err e) f a = finds_then_refused s h n e f a

pub tried_of : (s h n : SeatView) (step : Step) (result : Result (Option (List ℕ)) StepFault) (tried : Result (Option (List ℕ)) TryFault) → Finds s h
    → MatchResult result (λ r. Answered h n step r) (λ e. (n ≡ h) × IsFull h e) → tried ≡ as_tried result
    → MatchResult tried (λ r. Answered s n step r) (λ e. NotMade s n step e)
tried_of s h n step (Ok r) tried f a is =
    subst (λ (t : Result (Option (List ℕ)) TryFault). MatchResult t (λ r. Answered s n step r) (λ e. NotMade s n step e)) (sym is)
    (finds_then_answers s h n step r f a)
tried_of s h n step (Err Memory) tried f a is =
    subst (λ (t : Result (Option (List ℕ)) TryFault). MatchResult t (λ r. Answered s n step r) (λ e. NotMade s n step e)) (sym is)
    (finds_then_refused s h n Memory f a)
tried_of s h n step (Err JournalFull) tried f a is =
    subst (λ (t : Result (Option (List ℕ)) TryFault). MatchResult t (λ r. Answered s n step r) (λ e. NotMade s n step e)) (sym is)
    (finds_then_refused s h n JournalFull f a)

-- a step that was made or refused leaves the opening
pub same_opening : (s n : SeatView) (step : Step) (result : Result (Option (List ℕ)) StepFault)
    → MatchResult result (λ r. Answered s n step r) (λ e. Refused s n e) → n.opening ≡ s.opening
same_opening s n step (Ok r) made = ap (λ (x : SeatView). x.opening) made.seat
same_opening s n step (Err e) made = ap (λ (x : SeatView). x.opening) made.0.seat
