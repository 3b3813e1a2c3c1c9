-- What is written for a capture: the reply lines, each beside the line of the capture that draws it.
use Rattle.std.specs.Prelude.{◌≡◌, ℕ, ◌+◌, ◌-◌, List, [], ◌∷◌, ◌++◌, length, map, drop, Option, Some, None, Result, Ok, Err}
use Rattle.std.specs.List.{flat_map}
use Rattle.diag_can.specs.Reply.{reply_line}
use Rattle.diag_can.specs.declared.bus_line.BusLine.{BusLine}
use Rattle.diag_can.specs.declared.bus_line.BusLine.TheVariants.{Empty, Ticks, Stamped}
use Rattle.diag_can.specs.declared.fault.LineFault.{LineFault}
use Rattle.diag_can.specs.Event.{Event}
use Rattle.diag_tp.specs.declared.sent.Sent.{Sent}
use Rattle.diag_pdu.specs.declared.step.Step.{Step}
use Rattle.diag_tp.specs.Gives.{steps}
use Rattle.diag_pdu.specs.Cut.{counted_from}
use Rattle.diag_setup.specs.declared.raw.RawSetup.{RawSetup}
use Rattle.diag_setup.specs.Rows.{in_order}
use Rattle.diag_setup.specs.Setup.{flags_of, link_of, name_of}
use Rattle.diag_ecu.specs.State.{State, opening}
use Rattle.diag_desk.specs.declared.entry.Entry.{Entry}
use Rattle.diag_desk.specs.Entries.{asked, asked_by, entry, own}
use Rattle.diag_desk.specs.Legal.{Legal, after, after_step, reply_to}
use Rattle.diag_desk.specs.Text.{journal_text_at}
use Rattle.diag_desk.specs.Timed.{own_timed, timed}
use Rattle.diag_port.specs.Late.{pace_of}
use Rattle.diag_port.specs.Releasing.{drawn}
use Rattle.diag_world.specs.Server.{sent_to}
use Rattle.diag_world.specs.Weaving.{items_of, steps_of}
use Rattle.diag_bus.specs.Drawn.{Drawn}
use Rattle.diag_bus.specs.Events.{events_of, line_said}
use Rattle.diag_bus.specs.declared.clock.Start.{Start}

-- ---- the run

-- the one legal journal that asks these steps
abbrev pub answered : State → List (ℕ × Step) → List Entry
answered s [] = []
answered s (p ∷ steps) = entry p.0 p.1 (reply_to s p.0 p.1) ∷ answered (after_step s p.0 p.1) steps

-- the journal of an interleaving
abbrev pub run_of : RawSetup → List (ℕ × Event) → List Entry
run_of setup M = answered (opening setup) (steps_of (link_of setup) M)

-- the frames that a tester is sent
abbrev pub sent_of : RawSetup → List (ℕ × Event) → ℕ → List Sent
sent_of setup M t = sent_to setup M (run_of setup M) t

-- ---- the bus's own time

abbrev pub start_said : ℕ → Result BusLine LineFault → (ℕ → Option Start) → Option Start
start_said before (Ok (Stamped moment frame)) others = Some (record { moment = moment; before = before })
start_said before (Ok (Ticks count)) others = others (before + count)
start_said before (Ok Empty) others = others before
start_said before (Err fault) others = others before

-- the moment of the first stamped line, and the time that tick lines before it gave, so much having gone before these
abbrev pub start_after : RawSetup → ℕ → List (List ℕ) → Option Start
start_after setup before [] = None
start_after setup before (line ∷ lines) = start_said before (line_said setup line) (λ sum. start_after setup sum lines)

-- a link's time as a moment of the bus
abbrev pub bus_moment : Option Start → ℕ → ℕ
bus_moment None at = at
bus_moment (Some start) at = start.moment + (at - start.before)

-- ---- the text

abbrev pub time_of : Drawn → ℕ
time_of drawn = drawn.sent.at

abbrev pub drawn_for : ℕ → Sent → Drawn
drawn_for t sent = record { who = t; sent = sent }

-- the frames that a tester is sent with M and not with its front L
abbrev pub drawn_by : RawSetup → List (ℕ × Event) → List (ℕ × Event) → ℕ → List Drawn
drawn_by setup L M t = map (drawn_for t) (drop (length (sent_of setup L t)) (sent_of setup M t))

-- the testers' frames one list behind the other, where the first list is that of tester n
abbrev pub gathered : ℕ → List (List Sent) → List Drawn
gathered n [] = []
gathered n (frames ∷ lists) = map (drawn_for n) frames ++ gathered (n + 1) lists

-- those of all testers: the earlier time first, at one time the testers in order, of one tester as drawn
abbrev pub frames_by : RawSetup → List (ℕ × Event) → List (ℕ × Event) → List Drawn
frames_by setup L M = in_order time_of (flat_map (drawn_by setup L M) (counted_from 1 (length setup.testers)))

abbrev pub line_of : RawSetup → Option Start → Drawn → List ℕ
line_of setup start drawn =
    reply_line (name_of setup drawn.who) (flags_of setup drawn.who) (bus_moment start drawn.sent.at) drawn.sent.frame

-- the reply lines of frames of the tester at this index, from 0, as they stand
abbrev pub own_text : RawSetup → Option Start → ℕ → List Sent → List ℕ
own_text setup start index frames = flat_map (λ sent. line_of setup start (drawn_for (index + 1) sent)) frames

-- the reply lines of the testers' lists
abbrev pub drawn_text : RawSetup → Option Start → List (List Sent) → List ℕ
drawn_text setup start lists = flat_map (line_of setup start) (in_order time_of (gathered 1 lists))

-- what a line writes after these lines
abbrev pub line_text : RawSetup → List (List ℕ) → List ℕ → List ℕ
line_text setup past line = flat_map (line_of setup (start_after setup 0 (past ++ line ∷ [])))
    (frames_by setup (events_of setup past) (events_of setup (past ++ line ∷ [])))

abbrev pub text_after : RawSetup → List (List ℕ) → List (List ℕ) → List ℕ
text_after setup past [] = []
text_after setup past (line ∷ lines) =
    line_text setup past line ++ text_after setup (past ++ line ∷ []) lines

-- what the lines write
abbrev pub text_of : RawSetup → List (List ℕ) → List ℕ
text_of setup lines = text_after setup [] lines

-- ---- the journal

-- the text of the journal of the lines' run
abbrev pub journal_text_of : RawSetup → List (List ℕ) → List ℕ
journal_text_of setup lines = journal_text_at (run_of setup (events_of setup lines))

-- the ECU after the lines
abbrev pub ecu_after : RawSetup → List (List ℕ) → State
ecu_after setup lines = after (opening setup) (run_of setup (events_of setup lines))

-- ---- the headline, of an interleaving whose journal isn't kept

-- The journal is one legal run of the sequential server from the opening, and no other is the run of M; its steps of
-- each tester are what that tester's events give; each tester's frames are what its flow control draws from those
-- replies, each placed when the setup's rows of answers let it go, behind its response pending and behind the replies before.
pub record IsRun (setup : RawSetup) (M : List (ℕ × Event)) (journal : List Entry)
    (sent : ℕ → List Sent) : Type 0 where
  pub legal : Legal (opening setup) journal
  pub run : asked_by journal ≡ steps_of (link_of setup) M
  pub only : (other : List Entry)
      → Legal (opening setup) other
      → asked_by other ≡ steps_of (link_of setup) M
      → other ≡ journal
  pub asks : (t : ℕ) → asked (own journal t) ≡ steps (link_of setup t) (items_of M t)
  pub frames : (t : ℕ) → sent t ≡ drawn (link_of setup t) (pace_of setup) (items_of M t)
      (own_timed (timed (opening setup) journal) t)

-- of every interleaving the journal and the frames that are computed are its run
abbrev pub RunLaw : Type 0
RunLaw = (setup : RawSetup) (M : List (ℕ × Event)) → IsRun setup M (run_of setup M) (sent_of setup M)
