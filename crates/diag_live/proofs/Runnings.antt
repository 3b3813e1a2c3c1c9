-- A live run from its begin to its end.
use Rattle.std.proofs.Common.{◌≡◌, ◌≢◌, ◌⊎◌, ℕ, ◌+◌, ◌-◌, ◌<◌, ◌≤◌, ◌^◌, min, max, Bool, true, false, List, [], ◌∷◌, ◌++◌, length, Option, None, Some, IfSome, IfErr, Result, Ok, Err, inl, inr, refl, sym, ap, subst, ◌∙◌, append_assoc, arith}
use Rattle.std.proofs.lemmas.List.{append-nil}
use Rattle.std.specs.Io.KnownBytes.{Appends, Consumes, IsAtEnd, Keeps}
use Rattle.std.proofs.KnownBytes.{Keeps-refl, Appends-kept, Appends-nil, Appends-trans, Consumes-kept, Consumes-nil, Consumes-trans}
use Rattle.diag_can.specs.BusLine.{HasNoFeed, begun_line, bus_lines, ended_lines}
use Rattle.diag_can.proofs.BusLines.{begun_line-line, bus_lines-begun, bus_lines-ended, ended_lines-line}
use Rattle.diag_setup.specs.Setup.{known_ids}
use Rattle.diag_setup.specs.declared.raw.RawSetup.{RawSetup}
use Rattle.diag_bus.specs.Events.{events_of, first_fault, unless_fault}
use Rattle.diag_bus.specs.Text.{text_of}
use Rattle.diag_bus.proofs.Runs.{run}
use Rattle.diag_text.specs.Bytes.{Sends}
use Rattle.diag_text.specs.declared.fault.RunFault.{RunFault}
use Rattle.diag_text.specs.declared.fault.RunFault.TheVariants as fault
use Rattle.diag_bus.specs.Bus.{TookLines}
use Rattle.diag_run.specs.Devices.{fault_in}
use Rattle.diag_run.proofs.Devices.{some_same}
use Rattle.diag_run.specs.Wanted.{any_lines}
use Rattle.diag_world.specs.Block.{some_in_block}
use Rattle.diag_world.specs.Server.{quiet_of}
use Rattle.diag_live.specs.Live.{AreGood, Taken, capture_of, record_text}
use Rattle.diag_live.specs.Pace.{Did, GaveUp, IsAsked, KeepsPace, Paced, began, heard_bytes, last_feed, taken_at, times_asked, turned}
use Rattle.diag_live.specs.Story.{Asked, Step, Told, Turn, steps_of}
use Rattle.diag_live.specs.declared.bench.Heard.{Heard as AHeard}
use Rattle.diag_live.specs.declared.bench.Heard.TheVariants as heard
use Rattle.diag_live.specs.Serving.{AsksUntilDue, CannotHear, HaltsWith, ServingGoesOn, SoFar, ServingStands, Turned}
use Rattle.diag_live.specs.Stops.{IsLiveCutShort, Lived, Stopped, LiveStopsAt, LiveStopsOn, TookSoFar}
use Rattle.diag_live.specs.declared.serving.Serving.{Serving}
use Rattle.diag_live.proofs.Records.{plain_capture, record_lines}
use Rattle.diag_live.proofs.Servings.{refused_halts}

-- ---- where the lines end

-- the line feed ends the line that is begun, where one is
end_lines : (seen kept : List ℕ) → kept ≡ begun_line seen → bus_lines (seen ++ last_feed kept) ≡ bus_lines seen
end_lines seen [] is = ap bus_lines (append-nil seen)
end_lines seen (c ∷ kept) is =
    let none : HasNoFeed [] = λ k d less. absurd (omega (arith, less)) in
    let some : 0 < length (begun_line seen) = omega (arith, ap length is) in
    let ended : ended_lines (seen ++ 10 ∷ []) ≡ ended_lines seen ++ (begun_line seen ++ []) ∷ [] = ended_lines-line seen [] none in
    bus_lines-ended (seen ++ 10 ∷ []) (begun_line-line seen [] none)
    ∙ (ended ∙ (ap (λ (l : List ℕ). ended_lines seen ++ l ∷ []) (append-nil (begun_line seen)) ∙ sym (bus_lines-begun seen some)))

-- and then no line is begun
end_begun : (seen kept : List ℕ) → kept ≡ begun_line seen → begun_line (seen ++ last_feed kept) ≡ []
end_begun seen [] is = ap begun_line (append-nil seen) ∙ sym is
end_begun seen (c ∷ kept) is = let none : HasNoFeed [] = λ k d less. absurd (omega (arith, less)) in begun_line-line seen [] none

-- ---- what was written and taken

written_now : (setup : RawSetup) (new : Serving) (seen wrote noted : List ℕ) (s : ServingStands new seen wrote noted) → new.capture.bus.setup ≡ setup
    → wrote ≡ text_of setup (capture_of s.taken)
written_now setup new seen wrote noted s same =
    sym (append-nil wrote)
    ∙ (ap (λ (t : List ℕ). wrote ++ t) (sym s.sent)
    ∙ (s.capture.due
    ∙ (ap (λ (u : RawSetup). text_of u (ended_lines noted)) same ∙ ap (text_of setup) s.lines)))

so_far_took : (setup : RawSetup) (serving : Serving) (seen wrote noted : List ℕ) → ServingStands serving seen wrote noted → serving.capture.bus.setup ≡ setup
    → TookSoFar setup seen wrote noted
so_far_took setup serving seen wrote noted s same = record {
  taken = s.taken;
  heard = s.heard;
  good = subst (λ (u : RawSetup). AreGood (known_ids u) s.taken) same s.good;
  well = ap (first_fault setup) (sym s.lines) ∙ subst (λ (u : RawSetup). first_fault u (ended_lines noted) ≡ None) same s.capture.took_lines.well;
  text = written_now setup serving seen wrote noted s same;
  recorded = s.recorded;
}

module _ (setup : RawSetup) where
  stops_at : (came : RunFault) (left : Option (List ℕ)) (seen wrote noted : List ℕ) → LiveStopsOn setup came (bus_lines seen) wrote noted
      → IfSome left (λ rest. LiveStopsOn setup came (bus_lines (seen ++ rest)) wrote noted) → LiveStopsAt setup left came seen wrote noted
  stops_at (fault.Capture n x) left seen wrote noted h l = (h, l)
  stops_at fault.Memory left seen wrote noted h l = (h, l)
  stops_at fault.Write left seen wrote noted h l = (h, l)
  stops_at (fault.Read n) left seen wrote noted h l = absurd h
  stops_at (fault.Otherwise told) left seen wrote noted h l = absurd h
  stops_at (fault.Files a b) left seen wrote noted h l = absurd h
  stops_at (fault.Config x) left seen wrote noted h l = absurd h
  stops_at fault.ConfigLong left seen wrote noted h l = absurd h
  stops_at (fault.Log a b) left seen wrote noted h l = absurd h
  stops_at (fault.JournalLine n) left seen wrote noted h l = absurd h
  stops_at (fault.FileLong n) left seen wrote noted h l = absurd h
  stops_at fault.JournalFull left seen wrote noted h l = absurd h
  stops_at (fault.RecordsDisagree who) left seen wrote noted h l = absurd h
  stops_at (fault.Differs n) left seen wrote noted h l = absurd h

  if_left : (came : RunFault) (left : Option (List ℕ)) (seen wrote noted : List ℕ)
      → ((rest : List ℕ) → LiveStopsOn setup came (bus_lines (seen ++ rest)) wrote noted)
      → IfSome left (λ rest. LiveStopsOn setup came (bus_lines (seen ++ rest)) wrote noted)
  if_left came None seen wrote noted h = tt
  if_left came (Some rest) seen wrote noted h = h rest

  at_end : (came : RunFault) (left : Option (List ℕ)) (seen wrote noted : List ℕ) → IsAtEnd left → LiveStopsOn setup came (bus_lines seen) wrote noted
      → IfSome left (λ rest. LiveStopsOn setup came (bus_lines (seen ++ rest)) wrote noted)
  at_end came None seen wrote noted end h = tt
  at_end came (Some rest) seen wrote noted end h =
      subst (λ (b : List ℕ). LiveStopsOn setup came (bus_lines b) wrote noted) (sym (append-nil seen) ∙ ap (λ (r : List ℕ). seen ++ r) (sym end)) h

  nothing_cut : (lines : List (List ℕ)) → IsLiveCutShort setup lines [] []
  nothing_cut lines = record {
    taken = [];
    next = [];
    heard = (lines, refl);
    good = tt;
    well = refl;
    text = ([], refl);
    more = [];
    recorded = refl;
    front = ([], refl);
  }

  -- memory was refused before anything was heard
  pub refused_first : (came : RunFault) (i i' o r : Option (List ℕ)) → came ≡ fault.Memory → Keeps i i' → Stopped setup i i' o o r r came
  refused_first came i i' o r is kept = subst (Stopped setup i i' o o r r) (sym is) (record {
    seen = [];
    read = Consumes-kept i i i' [] (Consumes-nil i) kept;
    wrote = [];
    sent = Appends-nil o;
    recorded = [];
    kept = Appends-nil r;
    stops = stops_at fault.Memory i' [] [] [] (nothing_cut (bus_lines [])) (if_left fault.Memory i' [] [] [] (λ rest. nothing_cut (bus_lines rest)));
  })

  pub begun : (Does : List Step → Type 0) (serving : Serving) (now : ℕ) (i i' o r : Option (List ℕ)) → Keeps i i' → (s : ServingStands serving [] [] [])
      → s.taken ≡ [] → serving.told ≡ now → Does (Told now ∷ []) → serving.capture.bus.setup ≡ setup
      → SoFar Does setup serving i i' o o r r
  begun Does serving now i i' o r kept s none told did same =
      record {
        set = same;
        seen = [];
        read = Consumes-kept i i i' [] (Consumes-nil i) kept;
        wrote = [];
        sent = Appends-nil o;
        recorded = [];
        kept =
            Appends-nil r;
        stands = s;
        steps = Told now ∷ [];
        did = did;
        paced = subst (λ (t : List Taken). Paced setup (Told now ∷ []) serving.told [] t) (sym none)
            (subst (λ (m : ℕ). Paced setup (Told now ∷ []) m [] []) (sym told) began);
      }

-- ---- a run goes on

module _ {B : Type 0} (story : B → List Step → Type 0) (first was is : B) (setup : RawSetup) (old new : Serving) (i i' i'' o o' o'' r r' r'' : Option (List ℕ))
    (so_far : SoFar (Did story first was) setup old i i' o o' r r') where
  -- what the bench did goes on
  pub did_more : (more : List Step) → Did story was is more → Did story first is (so_far.steps ++ more)
  did_more more did = λ past h. subst (story is) (append_assoc past so_far.steps more) (did (past ++ so_far.steps) (so_far.did past h))

  -- asked until something falls due
  asked_here : (turn : Turn) → AsksUntilDue (Did story was is) old turn → IsAsked setup old.told so_far.stands.taken turn
  asked_here turn asks = record {
    bus = old.capture.bus;
    set = so_far.set;
    took = subst (TookLines any_lines old.capture.bus) so_far.stands.lines so_far.stands.capture.took_lines;
    until = asks.until;
    block = asks.block;
  }

  -- and so do the ticks
  pub paced_more : (turn : Turn) → AsksUntilDue (Did story was is) old turn → (bytes sent noted : List ℕ) → heard_bytes turn.heard ≡ Some bytes
      → (on : ServingGoesOn old new turn.now bytes sent noted)
      → Paced setup (so_far.steps ++ steps_of turn) new.told (so_far.seen ++ bytes)
      (on.stands so_far.seen so_far.wrote so_far.recorded so_far.stands).0.taken
  paced_more turn asks bytes sent noted same on =
      let s = so_far.stands in
      let seen = so_far.seen in
      let steps = so_far.steps ++ steps_of turn in
      let first : Paced setup steps (max old.told turn.now) (seen ++ bytes) (s.taken ++ taken_at old.told turn.now seen bytes) =
      turned so_far.paced turn (asked_here turn asks) bytes same in
      let second : Paced setup steps new.told (seen ++ bytes) (s.taken ++ taken_at old.told turn.now seen bytes) =
      subst (λ (m : ℕ). Paced setup steps m (seen ++ bytes) (s.taken ++ taken_at old.told turn.now seen bytes)) (sym on.told) first in
      subst (λ (t : List Taken). Paced setup steps new.told (seen ++ bytes) t) (sym (on.stands seen so_far.wrote so_far.recorded s).1) second

  abbrev pub turned_on : Turned (Did story was is) old new i' i'' o' o'' r' r'' true → SoFar (Did story first is) setup new i i'' o o'' r r''
  turned_on t =
      let turn = t.0 in
      let bytes = t.2.0 in
      let sent = t.2.2.0 in
      let noted = t.2.2.2.0 in
      let same = t.2.2.2.2.0 in
      let on = t.2.2.2.2.1 in
      record {
        set = on.setup ∙ so_far.set;
        seen = so_far.seen ++ bytes;
        read = Consumes-trans i i' i'' so_far.seen bytes so_far.read t.2.1;
        wrote = so_far.wrote ++ sent;
        sent = Appends-trans o o' o'' so_far.wrote sent so_far.sent t.2.2.1;
        recorded = so_far.recorded ++ noted;
        kept = Appends-trans r r' r'' so_far.recorded noted so_far.kept t.2.2.2.1;
        stands = (on.stands so_far.seen so_far.wrote so_far.recorded so_far.stands).0;
        steps = so_far.steps ++ steps_of turn;
        did = did_more (steps_of turn) t.1.did;
        paced = paced_more turn t.1 bytes sent noted same on;
      }

  -- the input has ended
  pub turned_off : Turned (Did story was is) old new i' i'' o' o'' r' r'' false → Lived (KeepsPace story setup first is) setup i i'' o o'' r r''
  turned_off t =
      let turn = t.0 in
      let end = t.4 in
      let sent = t.5.0 in
      let noted = t.5.2.0 in
      let on = t.5.2.2 in
      let feed = last_feed old.hearing.kept.items in
      let before = so_far.stands in
      let s = (on.stands so_far.seen so_far.wrote so_far.recorded before).0 in
      let kept = before.follows.kept in
      let lines : bus_lines so_far.seen ≡ ended_lines (so_far.seen ++ feed) =
      sym (end_lines so_far.seen old.hearing.kept.items kept) ∙ bus_lines-ended (so_far.seen ++ feed) (end_begun so_far.seen old.hearing.kept.items kept) in
      let same : new.capture.bus.setup ≡ setup = on.setup ∙ so_far.set in
      let read : bus_lines (record_text (capture_of s.taken)) ≡ capture_of s.taken = record_lines (capture_of s.taken) (plain_capture (known_ids new.capture.bus.setup) s.taken s.good) in
      let well : first_fault setup (capture_of s.taken) ≡ None = ap (first_fault setup) (sym s.lines)
      ∙ subst (λ (u : RawSetup). first_fault u (ended_lines (so_far.recorded ++ noted)) ≡ None) same s.capture.took_lines.well in
      let M = events_of setup (bus_lines (record_text (capture_of s.taken))) in
      record {
        bytes = so_far.seen;
        read = Consumes-kept i i' i'' so_far.seen so_far.read t.3;
        end = end;
        taken = s.taken;
        heard = s.heard ∙ sym lines;
        good = subst (λ (u : RawSetup). AreGood (known_ids u) s.taken) same s.good;
        paced = record {
          steps = so_far.steps;
          last = turn;
          did = did_more (steps_of turn) t.1.did;
          told = old.told;
          seen = so_far.seen;
          before = before.taken;
          paced = so_far.paced;
          asked = asked_here turn t.1;
          ended = t.2;
          all = (on.stands so_far.seen so_far.wrote so_far.recorded before).1
              ∙ ap (λ (k : List ℕ). before.taken ++ taken_at old.told turn.now so_far.seen (last_feed k)) before.follows.kept;
        };
        M = M;
        events = ap (unless_fault M) (ap (first_fault setup) read ∙ well);
        run = run setup M;
        text = subst (Appends o o'') (written_now setup new (so_far.seen ++ feed) (so_far.wrote ++ sent) (so_far.recorded ++ noted) s same)
            (Appends-trans o o' o'' so_far.wrote sent so_far.sent t.5.1);
        lines = read;
        recorded = subst (Appends r r'') s.recorded (Appends-trans r r' r'' so_far.recorded noted so_far.kept t.5.2.1);
      }

  -- it can't be heard further
  pub unheard : (came : RunFault) → CannotHear (Did story was is) i' i'' o' o'' r' r'' came → Stopped setup i i'' o o'' r r'' came
  unheard came c = subst (Stopped setup i i'' o o'' r r'') (sym c.0) (record {
    seen = so_far.seen;
    read = Consumes-kept i i' i'' so_far.seen so_far.read c.1;
    wrote = so_far.wrote;
    sent = Appends-kept o o' o'' so_far.wrote so_far.sent c.2;
    recorded = so_far.recorded;
    kept = Appends-kept r r' r'' so_far.recorded so_far.kept c.3;
    stops = (refl, so_far_took setup old so_far.seen so_far.wrote so_far.recorded so_far.stands so_far.set);
  })

  -- the fault came
  pub halted : (came : RunFault) → HaltsWith old i' i'' o' o'' r' r'' came → Stopped setup i i'' o o'' r r'' came
  halted came (inl t) =
      let sent = t.2.0 in
      let noted = t.2.2.0 in
      let halts = t.2.2.2 so_far.seen so_far.wrote so_far.recorded so_far.stands in
      let all : (rest : List ℕ) → LiveStopsOn setup came (bus_lines ((so_far.seen ++ t.0) ++ rest)) (so_far.wrote ++ sent) (so_far.recorded ++ noted) =
      λ rest. subst (λ (u : RawSetup). LiveStopsOn u came (bus_lines ((so_far.seen ++ t.0) ++ rest)) (so_far.wrote ++ sent) (so_far.recorded ++ noted))
      so_far.set (halts rest) in
      record {
        seen = so_far.seen ++ t.0;
        read = Consumes-trans i i' i'' so_far.seen t.0 so_far.read t.1;
        wrote = so_far.wrote ++ sent;
        sent = Appends-trans o o' o'' so_far.wrote sent so_far.sent t.2.1;
        recorded = so_far.recorded ++ noted;
        kept = Appends-trans r r' r'' so_far.recorded noted so_far.kept t.2.2.1;
        stops = stops_at setup came i'' (so_far.seen ++ t.0) (so_far.wrote ++ sent) (so_far.recorded ++ noted)
            (subst (λ (b : List ℕ). LiveStopsOn setup came (bus_lines b) (so_far.wrote ++ sent) (so_far.recorded ++ noted))
            (append-nil (so_far.seen ++ t.0)) (all []))
            (if_left setup came i'' (so_far.seen ++ t.0) (so_far.wrote ++ sent) (so_far.recorded ++ noted) all);
      }
  halted came (inr t) =
      let sent = t.2.0 in
      let noted = t.2.2.0 in
      let feed = last_feed old.hearing.kept.items in
      let halts = t.2.2.2 so_far.seen so_far.wrote so_far.recorded so_far.stands in
      let here : LiveStopsOn setup came (bus_lines so_far.seen) (so_far.wrote ++ sent) (so_far.recorded ++ noted) =
      subst (λ (l : List (List ℕ)). LiveStopsOn setup came l (so_far.wrote ++ sent) (so_far.recorded ++ noted))
      (ap bus_lines (append-nil (so_far.seen ++ feed)) ∙ end_lines so_far.seen old.hearing.kept.items so_far.stands.follows.kept)
      (subst (λ (u : RawSetup). LiveStopsOn u came (bus_lines ((so_far.seen ++ feed) ++ [])) (so_far.wrote ++ sent) (so_far.recorded ++ noted)) so_far.set
      (halts [])) in
      record {
        seen = so_far.seen;
        read = Consumes-kept i i' i'' so_far.seen so_far.read t.0;
        wrote = so_far.wrote ++ sent;
        sent = Appends-trans o o' o'' so_far.wrote sent so_far.sent t.2.1;
        recorded = so_far.recorded ++ noted;
        kept = Appends-trans r r' r'' so_far.recorded noted so_far.kept t.2.2.1;
        stops = stops_at setup came i'' so_far.seen (so_far.wrote ++ sent) (so_far.recorded ++ noted) here
            (at_end setup came i'' so_far.seen (so_far.wrote ++ sent) (so_far.recorded ++ noted) t.1 here);
      }

-- ---- what a turn asks

-- it is asked once more in a turn
pub times_asked-turn : (steps : List Step) (turn : Turn) → times_asked (steps ++ steps_of turn) ≡ times_asked steps + 1
times_asked-turn [] turn = refl
times_asked-turn (Asked until in_block heard ∷ steps) turn = omega (arith, times_asked-turn steps turn)
times_asked-turn (Told now ∷ steps) turn = times_asked-turn steps turn

abbrev pub turn_with : ℕ → Bool → AHeard → ℕ → Turn
turn_with until in_block heard now = record { until = until; in_block = in_block; heard = heard; now = now }

module _ {B : Type 0} (story : B → List Step → Type 0) (b0 b1 b2 : B) (until : ℕ) (in_block : Bool) (came : AHeard) (now : ℕ)
    (asked : (past : List Step) → story b0 past → story b1 (past ++ Asked until in_block came ∷ []))
    (told : (past : List Step) → story b1 past → story b2 (past ++ Told now ∷ [])) where
  -- the bench was asked what comes, and then for the moment
  pub did_turn : Did story b0 b2 (steps_of (turn_with until in_block came now))
  did_turn =
      λ past h. subst (story b2) (append_assoc past (Asked until in_block came ∷ []) (Told now ∷ [])) (told (past ++ Asked until in_block came ∷ []) (asked past h))

  module _ (old : Serving) (due : until ≡ min (old.told + quiet_of old.capture.bus.server.ports) (2 ^ 64 - 1))
      (block : in_block ≡ some_in_block old.capture.bus.server.ports) where
    asks : AsksUntilDue (Did story b0 b2) old (turn_with until in_block came now)
    asks = record { did = did_turn; until = due; block = block }

    module _ (new : Serving) (i i' o o' r r' : Option (List ℕ)) where
      pub turn_goes_on : (bytes : List ℕ) → Consumes i i' bytes → heard_bytes came ≡ Some bytes
          → Sends o o' (λ sent. Sends r r' (λ noted. ServingGoesOn old new now bytes sent noted))
          → Turned (Did story b0 b2) old new i i' o o' r r' true
      turn_goes_on bytes read are d = (turn_with until in_block came now, asks, (bytes, read, (d.0, d.1, (d.2.0, d.2.1, (are, d.2.2)))))

      pub turn_ends : came ≡ heard.End → Keeps i i' → IsAtEnd i'
          → Sends o o' (λ sent. Sends r r' (λ noted. ServingGoesOn old new now (last_feed old.hearing.kept.items) sent noted))
          → Turned (Did story b0 b2) old new i i' o o' r r' false
      turn_ends ended kept end d = (turn_with until in_block came now, asks, ended, kept, end, d)

  pub turn_unheard : came ≡ heard.Fault → (i i' o r : Option (List ℕ)) → Keeps i i' → CannotHear (Did story b0 b2) i i' o o r r (fault.Read 1)
  turn_unheard is i i' o r kept = (refl, kept, Keeps-refl o, Keeps-refl r, (turn_with until in_block came now, is, did_turn))

-- ---- where it gives up

module _ {B : Type 0} (story : B → List Step → Type 0) (first was is : B) (setup : RawSetup) (old : Serving) (i i' i'' o o' o'' r r' r'' : Option (List ℕ))
    (so_far : SoFar (Did story first was) setup old i i' o o' r r') where
  gave_up : (more : List Step) → Did story was is more → (turn : Turn) → turn.heard ≡ heard.Fault → more ≡ steps_of turn → GaveUp story first is
  gave_up more did turn unheard are = record {
    steps = so_far.steps ++ more;
    did = λ past h. subst (story is) (append_assoc past so_far.steps more) (did (past ++ so_far.steps) (so_far.did past h));
    why = inl (so_far.steps, turn, unheard, ap (λ (l : List Step). so_far.steps ++ l) are);
  }

  -- no line says that the input can't be heard
  pub gives_up : (came : RunFault) → HaltsWith old i' i'' o' o'' r' r'' came ⊎ CannotHear (Did story was is) i' i'' o' o'' r' r'' came → came ≡ fault.Read 1
      → GaveUp story first is
  gives_up came (inl h) same = absurd (subst (λ (f : RunFault). LiveStopsOn setup f (bus_lines (so_far.seen)) so_far.wrote so_far.recorded) same (no_read h))
    where
      no_read : HaltsWith old i' i'' o' o'' r' r'' came → LiveStopsOn setup came (bus_lines (so_far.seen)) so_far.wrote so_far.recorded
      no_read (inl t) = absurd (subst (λ (f : RunFault). LiveStopsOn old.capture.bus.setup f (bus_lines ((so_far.seen ++ t.0) ++ [])) (so_far.wrote ++ t.2.0) (so_far.recorded ++ t.2.2.0)) same
          (t.2.2.2 so_far.seen so_far.wrote so_far.recorded so_far.stands []))
      no_read (inr t) = absurd (subst (λ (f : RunFault). LiveStopsOn old.capture.bus.setup f (bus_lines ((so_far.seen ++ last_feed old.hearing.kept.items) ++ [])) (so_far.wrote ++ t.2.0) (so_far.recorded ++ t.2.2.0)) same
          (t.2.2.2 so_far.seen so_far.wrote so_far.recorded so_far.stands []))
  gives_up came (inr c) same = gave_up (steps_of c.4.0) c.4.2 c.4.0 c.4.1 refl

  -- after so many turns
  pub gives_up_behind : 2 ^ 64 - 1 ≤ times_asked so_far.steps → was ≡ is → GaveUp story first is
  gives_up_behind many same = subst (GaveUp story first) same (record { steps = so_far.steps; did = so_far.did; why = inr many })

-- ---- a turn

-- memory was refused where the input is heard
pub turn_refused : (Does : List Step → Type 0) (old : Serving) (i i' o r : Option (List ℕ)) → Keeps i i'
    → HaltsWith old i i' o o r r fault.Memory ⊎ CannotHear Does i i' o o r r fault.Memory
turn_refused Does old i i' o r kept = inl (inl ([], Consumes-kept i i i' [] (Consumes-nil i) kept, ([], Appends-nil o, ([], Appends-nil r, refused_halts old []))))

-- a fault that is answered is this one
pub err_same : {X : Type 0} (f g : RunFault) → ◌≡◌ {A = Result X RunFault} (Err f) (Err g) → f ≡ g
err_same {X} f g same = cc

-- it isn't the config that can't be read
pub no_config : {X : Type 0} (setup : RawSetup) (i i' o o' r r' : Option (List ℕ)) (result : Result X RunFault) → IfErr result (Stopped setup i i' o o' r r')
    → fault_in result ≢ Some (fault.Read 0)
no_config setup i i' o o' r r' (Ok x) stopped is = cc
no_config setup i i' o o' r r' (Err f) stopped is =
    let at : Stopped setup i i' o o' r r' (fault.Read 0) = subst (Stopped setup i i' o o' r r') (some_same f (fault.Read 0) is) stopped in
    let clash = at.stops.0 in omega (arith, clash)
