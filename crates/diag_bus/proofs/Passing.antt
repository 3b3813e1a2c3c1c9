-- What the calls that let time pass answer, one behind the other.
use Rattle.std.proofs.Common.{◌≡◌, ◌≤◌, ◌⊎◌, ℕ, ◌+◌, ◌-◌, List, [], ◌∷◌, ◌++◌, append-nil, length, None, Result, Ok, Err, inl, inr, refl, ap, subst, sym, ◌∙◌, arith}
use Rattle.std.specs.Prelude.{OnOk}
use Rattle.std.specs.List.{flat_map}
use Rattle.std.proofs.lemmas.List.{length-map}
use Rattle.std.proofs.lemmas.Result.{on_ok_weaker}
use Rattle.std.specs.declared.alloc.AllocError.{AllocError}
use Rattle.diag_can.specs.declared.bus_line.BusLine.{BusLine}
use Rattle.diag_can.specs.declared.bus_line.BusLine.TheVariants.{Empty, Ticks}
use Rattle.diag_can.specs.Event.{Event}
use Rattle.diag_can.specs.Event as event
use Rattle.diag_pdu.specs.Cut.{counted_from}
use Rattle.diag_setup.specs.declared.raw.RawSetup.{RawSetup}
use Rattle.diag_desk.specs.declared.entry.Entry.{Entry}
use Rattle.diag_port.specs.Port.{port_of}
use Rattle.diag_port.specs.Standing.{entry_of_ticks}
use Rattle.diag_world.specs.Server.{ServerView, Waited, each_of, quiet_of, server_of}
use Rattle.diag_bus.specs.Filled.{AreFilled}
use Rattle.diag_bus.specs.Node.{AreSentBy, Gave, IsRest, Lasts, OneSentIn, OneWentOn, Passed, SameShape, lists_of}
use Rattle.diag_bus.specs.declared.line_frames.LineFrames.{LineFrames}
use Rattle.diag_bus.specs.Events.{frame_said, frame_to}
use Rattle.diag_bus.specs.Sink.{StaysFor}
use Rattle.diag_bus.specs.declared.node.Node.{Node}
use Rattle.diag_bus.proofs.Nodes.{gave_more, gave_none, gave_quiet, same_more, same_none}
use Rattle.diag_bus.proofs.Lines.{frames_none}
use Rattle.diag_bus.proofs.Paces.{sent_more, sent_none, sent_then, took_more, took_none, took_one}

-- what a sink keeps whatever it took: it is kept by nothing, and by one step behind the other
pub record IsKept {S : Type 0} (stays : S → S → Type 0) : Type 0 where
  pub none : (x : S) → stays x x
  pub more : {x y z : S} → stays x y → stays y z → stays x z

-- the setup that it is for, and what it is asked for
pub stays_kept : {S A : Type 0} (is_for : S → RawSetup → Type 0) (aim : S → A) → IsKept (StaysFor is_for aim)
stays_kept is_for aim = record {
  none = λ x. (λ setup h. h, refl);
  more = λ {x} {y} {z} first second. (λ setup h. second.0 setup (first.0 setup h), second.1 ∙ first.1);
}

module _ {S : Type 0} (took : S → RawSetup → List (List ℕ) → List Entry → Type 0) (stays : S → S → Type 0) where
  pub passed_none : IsKept stays → (a : Node) (x : S) (span : ℕ) → Passed {A = Unit {0}} {E = AllocError} took stays a x a x span [] (Ok tt)
  passed_none kept a x span = record { ok = gave_none took a x; kept = kept.none x; shape = same_none a; pace = took_none a.server span; sent = sent_none a span }

  -- a tester's event that takes no time was given to the server
  pub passed_one : {r : Result (Unit {0}) AllocError} {a b : Node} {x y : S} (who : ℕ) (e : Event) → Lasts e 0
      → OnOk r (Gave took a x b y ((who, e) ∷ [])) → stays x y → SameShape a b
      → ((span : ℕ) → Lasts e span → OneWentOn a.server b.server (who - 1) span)
      → OnOk r ((span : ℕ) → Lasts e span → OneSentIn a b (who - 1) span)
      → Passed took stays a x b y 0 ((who, e) ∷ []) r
  passed_one {r} {a} {b} who e now gave kept shape pace sent =
      let none = took_none a.server 0 in
      record {
        ok = gave;
        kept = kept;
        shape = shape;
        pace = took_one a.server a.server b.server 0 (who - 1) 0 0 (omega arith) none (pace 0 now);
        sent = on_ok_weaker r (λ sent. sent_then a a b 0 (who - 1) 0 0 (omega arith) none (sent_none a 0) (sent 0 now)) sent;
      }

  -- the same, of a time and of events that are equal to these
  pub passed_as : {r : Result (Unit {0}) AllocError} {a b : Node} {x y : S} {n m : ℕ} {L M : List (ℕ × Event)} → n ≡ m → L ≡ M
      → Passed took stays a x b y n L r → Passed took stays a x b y m M r
  passed_as {r} {a} {b} {x} {y} {n} {m} {L} {M} time events h =
      subst (λ k. Passed took stays a x b y k M r) time (subst (λ w. Passed took stays a x b y n w r) events h)

  -- the same of another node to begin with, whose ports aren't known to be quiet for so long
  pub passed_from : {r : Result (Unit {0}) AllocError} {b c : Node} {x y : S} {n : ℕ} {L : List (ℕ × Event)} (a : Node) → b.server ≡ a.server → b.drawn ≡ a.drawn
      → IsRest b.server b.rest → Passed took stays b x c y n L r → Passed took stays a x c y n L r
  passed_from {r} {b} {c} {x} {y} {n} {L} a server drawn known h =
      subst (λ (s : ServerView). Passed took stays (record { server = s; drawn = a.drawn; rest = a.rest }) x c y n L r) server
      (subst (λ (d : LineFrames). Passed took stays (record { server = b.server; drawn = d; rest = a.rest }) x c y n L r) drawn (record {
        ok = on_ok_weaker r (λ gave setup base past M d. gave setup base past M (record {
          journal = d.journal;
          serves = d.serves;
          lists = d.lists;
          frames = d.frames;
          entries = d.entries;
          run = d.run;
          entered = d.entered;
        })) h.ok;
        kept = h.kept;
        shape = record { ports = h.shape.ports; lists = h.shape.lists; filled = h.shape.filled; rest = λ _. h.shape.rest known };
        pace = h.pace;
        sent = h.sent;
      }))

  pub passed_then : IsKept stays → {r : Result (Unit {0}) AllocError} {a b c : Node} {x y z : S} {n m : ℕ} {L M : List (ℕ × Event)} (all : ℕ) → n + m ≤ all
      → Passed {A = Unit {0}} {E = AllocError} took stays a x b y n L (Ok tt) → Passed took stays b y c z m M r → Passed took stays a x c z all (L ++ M) r
  passed_then kept {r} {a} {b} {c} {x} {y} {z} {n} {m} {L} {M} all fits first second = record {
    ok = on_ok_weaker r (λ gave. gave_more took first.ok gave) second.ok;
    kept = kept.more first.kept second.kept;
    shape = same_more a b c first.shape second.shape;
    pace = took_more a.server b.server c.server n m all fits first.pace second.pace;
    sent = on_ok_weaker r (λ sent. sent_more a b c n m all fits first.pace first.sent sent) second.sent;
  }

  -- ticks of each tester, in which no port does anything, and of which the sink isn't told
  pub passed_quietly : {E : Type 0} → IsKept stays → (old new : Node) (x : S) (n count rest : ℕ)
      → ((x : S) (setup : RawSetup) (lines : List (List ℕ)) (K : List Entry) (who count : ℕ) → took x setup lines K
      → took x setup lines (K ++ entry_of_ticks who count ∷ []))
      → Waited (server_of old.server) (server_of new.server) n count
      → quiet_of (server_of old.server).ports ≤ quiet_of (server_of new.server).ports + count
      → IsRest old.server rest → new.rest ≡ rest - count → new.drawn ≡ old.drawn
      → Passed {A = Unit {0}} {E = E} took stays old x new x count (each_of n (event.Ticks count)) (Ok tt)
  passed_quietly kept old new x n count rest skips waited quieter most left same = record {
    ok = gave_quiet took old new x n count skips waited same;
    kept = kept.none x;
    shape = record {
      ports = sym (length-map new.server.ports port_of) ∙ (waited.many ∙ length-map old.server.ports port_of);
      lists = ap (λ (f : LineFrames). length f.lists.items) same;
      filled = λ known. subst (λ (f : LineFrames). AreFilled f.filled (lists_of f)) (sym same) known;
      rest = λ known. omega (arith, quieter, most, left);
    };
    pace = λ time by i port at.
        let went = waited.time i port at in
        omega (arith, went.2, by i went.0 went.1);
    sent = λ time last by fits sent. subst (λ (f : LineFrames). AreSentBy (lists_of f) last) (sym same) sent;
  }

  -- where memory was refused, nothing is said of the events
  pub passed_err : {e f : AllocError} {r : Result (Unit {0}) AllocError} {a b : Node} {x y : S} {n : ℕ} {L : List (ℕ × Event)} (all : ℕ) (M : List (ℕ × Event))
      → n ≤ all → r ≡ Err f → Passed {A = Unit {0}} {E = AllocError} took stays a x b y n L (Err e) → Passed took stays a x b y all M r
  passed_err {r = r} {a = a} {b} {x} {y} {n} all M fits is h = subst (λ (w : Result (Unit {0}) AllocError). Passed took stays a x b y all M w) (sym is) (record {
    ok = tt;
    kept = h.kept;
    shape = h.shape;
    pace = took_more a.server b.server b.server n 0 all (omega (arith, fits)) h.pace (took_none b.server 0);
    sent = tt;
  })

-- ---- a line without a frame

pub no_frame : (said : BusLine) → (said ≡ Empty) ⊎ ((count : ℕ) × (said ≡ Ticks count)) → frame_said said ≡ None
no_frame said (inl is) = ap frame_said is
no_frame said (inr is) = ap frame_said is.1

-- gives what its time does
pub passed_quiet : {S : Type 0} (took : S → RawSetup → List (List ℕ) → List Entry → Type 0) (stays : S → S → Type 0)
    {r : Result (Unit {0}) AllocError} {a b : Node} {x y : S} {n : ℕ} {L : List (ℕ × Event)} (setup : RawSetup) (said : BusLine)
    → frame_said said ≡ None → Passed took stays a x b y n L r
    → Passed took stays a x b y n (L ++ flat_map (frame_to setup (frame_said said)) (counted_from 1 (length setup.testers))) r
passed_quiet took stays {L = L} setup said none h =
    let testers = counted_from 1 (length setup.testers) in
    passed_as took stays refl (sym (ap (λ f. L ++ flat_map (frame_to setup f) testers) none ∙ ap (λ w. L ++ w) (frames_none setup testers) ∙ append-nil L)) h
