-- What the server stands for in the midst of a call, beside what the call has drawn and entered so far.
use Rattle.std.specs.Prelude.{◌≡◌, ℕ, ◌+◌, OnOk, List, ◌++◌, length, map, Some, Result, slice_get}
use Rattle.diag_can.specs.Event.{Event}
use Rattle.diag_tp.specs.declared.sent.Sent.{Sent}
use Rattle.diag_setup.specs.declared.raw.RawSetup.{RawSetup}
use Rattle.diag_ecu.specs.State.{State}
use Rattle.diag_desk.specs.declared.entry.Entry.{Entry}
use Rattle.diag_desk.specs.Timed.{Timed, entries_of, timed}
use Rattle.diag_world.specs.Server.{ServesFrom, sent_by, server_of}
use Rattle.diag_bus.specs.Node.{HasTime, TookTime}
use Rattle.uds_unit.specs.Journal.{entered}
use Rattle.uds_unit.specs.declared.node.Node.{Node}

-- the frames of each tester in this call
abbrev pub lists_of : Node → List (List Sent)
lists_of node = map (λ frames. frames.items) node.drawn.items

-- The server took M, of whose run the ECU was set to `opened` behind the entries T. Each tester was sent its frames of the
-- call behind those that it had been sent, and the text stands behind what was handed out of it.
pub record Drew (opened : State) (T : List Timed) (setup : RawSetup) (node : Node) (base : ℕ → List Sent)
    (told : List ℕ) (M : List (ℕ × Event)) : Type 0 where
  pub journal : List Entry
  pub serves : ServesFrom opened T setup (server_of node.server) M journal
  pub lists : length node.drawn.items ≡ length setup.testers
  pub frames : (i : ℕ) (frames : List Sent) → slice_get (lists_of node) i ≡ Some frames
      → sent_by setup M (T ++ timed opened journal) (i + 1) ≡ base (i + 1) ++ frames
  pub text : entered node.wanted (entries_of T ++ journal) ≡ told ++ node.text.items

-- the server was given these events: whatever it stood for, it stands for them behind it
abbrev pub Gave : Node → Node → List (ℕ × Event) → Type 0
Gave old new more =
    (opened : State) (T : List Timed) (setup : RawSetup) (base : ℕ → List Sent) (told : List ℕ) (M : List (ℕ × Event))
    → Drew opened T setup old base told M
    → Drew opened T setup new base told (M ++ more)

-- as many testers as before, and a journal where one was wanted
pub record SameShape (old new : Node) : Type 0 where
  pub ports : length new.server.ports ≡ length old.server.ports
  pub lists : length new.drawn.items ≡ length old.drawn.items
  pub wanted : new.wanted ≡ old.wanted

-- the server is that of so many testers, and so much may pass
pub record IsReady (node : Node) (testers span : ℕ) : Type 0 where
  pub in_setup : length node.server.ports ≡ testers
  pub lists : length node.drawn.items ≡ testers
  pub early : HasTime node.server span

-- the server was given these events, by which at most so much passed, or those of them that there was memory for
pub record Passed {A E : Type 0} (old new : Node) (span : ℕ) (more : List (ℕ × Event))
    (result : Result A E) : Type 0 where
  pub ok : OnOk result (Gave old new more)
  pub shape : SameShape old new
  pub pace : TookTime old.server new.server span
