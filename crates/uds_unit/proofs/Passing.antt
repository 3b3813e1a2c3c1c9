-- What the calls that give events answer, one behind the other.
use Rattle.std.proofs.Common.{◌≡◌, ◌≤◌, ℕ, ◌+◌, ◌-◌, Bool, true, false, List, [], ◌∷◌, ◌++◌, length, Option, None, Result, Ok, Err, refl, ap, subst, sym, ◌∙◌, append_assoc, arith}
use Rattle.std.proofs.lemmas.Bool.{true≢false}
use Rattle.std.proofs.lemmas.List.{append-nil, length-map}
use Rattle.std.proofs.lemmas.Result.{on_ok_weaker}
use Rattle.std.specs.List.{flat_map}
use Rattle.std.specs.Prelude.{OnOk}
use Rattle.std.specs.declared.alloc.AllocError.{AllocError}
use Rattle.diag_can.specs.Event.{Event, Ticks}
use Rattle.diag_can.specs.declared.frame.Frame.{Frame}
use Rattle.diag_pdu.specs.Cut.{counted_from}
use Rattle.diag_setup.specs.declared.raw.RawSetup.{RawSetup}
use Rattle.diag_desk.specs.declared.entry.Entry.{Entry}
use Rattle.diag_desk.specs.Timed.{entries_of}
use Rattle.diag_port.specs.Port.{port_of}
use Rattle.diag_world.specs.Server.{ServerView, Waited, each_of, entries_of_each, server_of}
use Rattle.diag_bus.specs.Events.{frame_to}
use Rattle.diag_bus.specs.Node.{Lasts, OneWentOn}
use Rattle.diag_bus.proofs.Lines.{frames_none}
use Rattle.diag_bus.proofs.Paces.{took_more, took_none, took_one}
use Rattle.uds_unit.specs.Node.{Drew, Gave, Passed, SameShape}
use Rattle.uds_unit.specs.Journal.{entered}
use Rattle.uds_unit.specs.declared.node.Node.{Node}

-- events and further events
pub gave_more : (a b c : Node) (L M : List (ℕ × Event)) → Gave a b L → Gave b c M → Gave a c (L ++ M)
gave_more a b c L M h k = λ opened T setup base told N d.
    subst (λ w. Drew opened T setup c base told w) (append_assoc N L M) (k opened T setup base told (N ++ L) (h opened T setup base told N d))

pub gave_none : (a : Node) → Gave a a []
gave_none a = λ opened T setup base told N d. subst (λ w. Drew opened T setup a base told w) (sym (append-nil N)) d

pub same_more : (a b c : Node) → SameShape a b → SameShape b c → SameShape a c
same_more a b c h k = record { ports = k.ports ∙ h.ports; lists = k.lists ∙ h.lists; wanted = k.wanted ∙ h.wanted }

pub same_none : (a : Node) → SameShape a a
same_none a = record { ports = refl; lists = refl; wanted = refl }

pub passed_none : (a : Node) (span : ℕ) → Passed {A = Unit {0}} {E = AllocError} a a span [] (Ok tt)
passed_none a span = record { ok = gave_none a; shape = same_none a; pace = took_none a.server span }

-- a tester's event that takes no time was given to the server
pub passed_one : {r : Result (Unit {0}) AllocError} {a b : Node} (who : ℕ) (e : Event) → Lasts e 0 → OnOk r (Gave a b ((who, e) ∷ [])) → SameShape a b
    → ((span : ℕ) → Lasts e span → OneWentOn a.server b.server (who - 1) span) → Passed a b 0 ((who, e) ∷ []) r
passed_one {r} {a} {b} who e now gave shape pace = record {
  ok = gave;
  shape = shape;
  pace = took_one a.server a.server b.server 0 (who - 1) 0 0 (omega arith) (took_none a.server 0) (pace 0 now);
}

-- the same, of a time and of events that are equal to these
pub passed_as : {r : Result (Unit {0}) AllocError} {a b : Node} {n m : ℕ} {L M : List (ℕ × Event)} → n ≡ m → L ≡ M → Passed a b n L r → Passed a b m M r
passed_as {r} {a} {b} {n} {m} {L} {M} time events h = subst (λ k. Passed a b k M r) time (subst (λ w. Passed a b n w r) events h)

pub passed_then : {r : Result (Unit {0}) AllocError} {a b c : Node} {n m : ℕ} {L M : List (ℕ × Event)} (all : ℕ) → n + m ≤ all
    → Passed {A = Unit {0}} {E = AllocError} a b n L (Ok tt) → Passed b c m M r → Passed a c all (L ++ M) r
passed_then {r} {a} {b} {c} {n} {m} {L} {M} all fits first second = record {
  ok = on_ok_weaker r (λ gave. gave_more a b c L M first.ok gave) second.ok;
  shape = same_more a b c first.shape second.shape;
  pace = took_more a.server b.server c.server n m all fits first.pace second.pace;
}

unwritten : (K L : List Entry) (wanted : Bool) → wanted ≡ false → entered wanted K ≡ entered wanted L
unwritten K L false is = refl
unwritten K L true is = absurd (true≢false is)

-- ticks of each tester, in which no port does anything, where no journal is wanted
pub passed_quietly : {E : Type 0} (old : Node) (server : ServerView) (n count : ℕ) → old.wanted ≡ false
    → Waited (server_of old.server) (server_of server) n count
    → Passed {A = Unit {0}} {E = E} old (record { server = server; wanted = old.wanted; drawn = old.drawn; text = old.text }) count (each_of n (Ticks count)) (Ok tt)
passed_quietly old server n count unwanted waited = record {
  ok = λ opened T setup base told M d.
      let served = waited.stretched opened T setup M d.journal d.serves in
      let more = entries_of_each n count in
      record {
        journal = d.journal ++ more;
        serves = served.0;
        lists = d.lists;
        frames = λ i frames at. served.1 (i + 1) ∙ d.frames i frames at;
        text = unwritten (entries_of T ++ (d.journal ++ more)) (entries_of T ++ d.journal) old.wanted unwanted ∙ d.text;
      };
  shape = record {
    ports = sym (length-map server.ports port_of) ∙ (waited.many ∙ length-map old.server.ports port_of);
    lists = refl;
    wanted = refl;
  };
  pace = λ time by i port at.
      let went = waited.time i port at in
      omega (arith, went.2, by i went.0 went.1);
}

-- where memory was refused, nothing is said of the events
pub passed_err : {e f : AllocError} {r : Result (Unit {0}) AllocError} {a b : Node} {n : ℕ} {L : List (ℕ × Event)} (all : ℕ) (M : List (ℕ × Event))
    → n ≤ all → r ≡ Err f → Passed {A = Unit {0}} {E = AllocError} a b n L (Err e) → Passed a b all M r
passed_err {r = r} {a = a} {b} {n} all M fits is h = subst (λ (w : Result (Unit {0}) AllocError). Passed a b all M w) (sym is) (record {
  ok = tt;
  shape = h.shape;
  pace = took_more a.server b.server b.server n 0 all (omega (arith, fits)) h.pace (took_none b.server 0);
})

-- a moment without a frame gives what its time does
pub passed_quiet : {r : Result (Unit {0}) AllocError} {a b : Node} {n : ℕ} {L : List (ℕ × Event)} (setup : RawSetup) (frame : Option Frame)
    → frame ≡ None → Passed a b n L r
    → Passed a b n (L ++ flat_map (frame_to setup frame) (counted_from 1 (length setup.testers))) r
passed_quiet {L = L} setup frame none h =
    let testers = counted_from 1 (length setup.testers) in
    passed_as refl (sym (ap (λ f. L ++ flat_map (frame_to setup f) testers) none ∙ ap (λ w. L ++ w) (frames_none setup testers) ∙ append-nil L)) h
