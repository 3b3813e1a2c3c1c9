-- A unit that takes a call more.
use Rattle.std.proofs.Common.{◌≡◌, ◌≤◌, ℕ, ◌+◌, Vec, Global, List, [], ◌++◌, length, Option, Some, None, ap, ap₂, subst, sym, ◌∙◌, append_assoc, arith}
use Rattle.std.proofs.lemmas.List.{append-nil, length-map, map-append}
use Rattle.std.specs.List.{flat_map}
use Rattle.std.specs.Prelude.{slice_get}
use Rattle.diag_can.specs.Log.{waited}
use Rattle.diag_can.specs.declared.bus_line.BusLine.TheVariants.{Stamped}
use Rattle.diag_can.specs.Event.{Event}
use Rattle.diag_can.specs.declared.frame.Frame.{Frame}
use Rattle.diag_pdu.specs.Cut.{counted_from}
use Rattle.diag_tp.specs.declared.sent.Sent.{Sent}
use Rattle.diag_setup.specs.declared.raw.RawSetup.{RawSetup}
use Rattle.diag_setup.specs.Rows.{in_order}
use Rattle.diag_ecu.specs.State.{State}
use Rattle.diag_desk.specs.Legal.{after}
use Rattle.diag_desk.specs.Timed.{Timed, entries_of, timed}
use Rattle.diag_world.proofs.Serving.{entries_timed}
use Rattle.diag_world.specs.Server.{ServerView, ServesFrom, WasSet, each_of, sent_by, server_of}
use Rattle.diag_bus.specs.Events.{frame_to, said_gives}
use Rattle.diag_bus.specs.Node.{IsBy, TookTime}
use Rattle.diag_bus.specs.Text.{gathered, time_of}
use Rattle.diag_bus.specs.Drawn.{Drawn}
use Rattle.uds_unit.specs.Device.{AreSound, DeviceState, IsClock, Stands, TookCall, latest_ms}
use Rattle.uds_unit.specs.Node.{Drew, Gave, IsReady, SameShape, lists_of}
use Rattle.uds_unit.specs.History.{Call, At, History, all_more, beginning, entries_in, frames_more, gone_on, history, journal_of, next_of, sent_in, set_to, taken, timed_of}
use Rattle.uds_unit.specs.Journal.{entered}
use Rattle.uds_unit.specs.Moments.{clock_at, reference_of, span_at, time_of_clock}
use Rattle.uds_unit.specs.declared.clock.Clock.{Clock}
use Rattle.uds_unit.specs.declared.node.Node.{Node}
use Rattle.uds_unit.proofs.Queued.{gathered_is}
use Rattle.uds_unit.proofs.Run.{history_more, run_from, span_is}

-- what a contract sees of a unit with this server
abbrev pub seen : RawSetup → Node → Option Clock → List Drawn → DeviceState
seen setup node clock waiting = record {
  setup = setup;
  server = node.server;
  wanted = node.wanted;
  text = node.text.items;
  clock = clock;
  waiting = waiting;
}

-- what a moment and the frame then give
abbrev pub events_at : RawSetup → Option Clock → ℕ → Option Frame → List (ℕ × Event)
events_at setup clock moment frame =
    flat_map (each_of (length setup.testers)) (waited (span_at clock moment))
    ++ flat_map (frame_to setup frame) (counted_from 1 (length setup.testers))

-- those are the events of a stamped line
same_events : (setup : RawSetup) (clock : Option Clock) (moment : ℕ) (frame : Option Frame)
    → events_at setup clock moment frame ≡ said_gives setup (reference_of clock) (Stamped moment frame)
same_events setup clock moment frame =
    ap (λ ms. flat_map (each_of (length setup.testers)) (waited ms) ++ flat_map (frame_to setup frame) (counted_from 1 (length setup.testers)))
    (sym (span_is clock moment))

-- ---- what a call draws

-- a call begins: the testers' lists are empty, and of the text so much was handed out
drew_none : (setup : RawSetup) (node : Node) (h : History) (told : List ℕ)
    → ServesFrom h.opened h.past setup (server_of node.server) h.events (journal_of setup h)
    → length node.drawn.items ≡ length setup.testers
    → ((i : ℕ) (frames : List Sent) → slice_get (lists_of node) i ≡ Some frames → frames ≡ [])
    → entered node.wanted (entries_in setup h) ≡ told ++ node.text.items
    → Drew h.opened h.past setup node (sent_in setup h) told h.events
drew_none setup node h told serves lists empty text = record {
  journal = journal_of setup h;
  serves = serves;
  lists = lists;
  frames = λ i frames at. sym (append-nil (sent_in setup h (i + 1))) ∙ ap (λ w. sent_in setup h (i + 1) ++ w) (sym (empty i frames at));
  text = text;
}

-- the server took what a moment and the frame then give
module _ (setup : RawSetup) (h : History) (moment : ℕ) (frame : Option Frame) (node : Node) (told : List ℕ)
    (drew : Drew h.opened h.past setup node (sent_in setup h) told (gone_on setup h moment frame).events) where
  abbrev next : History
  next = gone_on setup h moment frame

  -- the journal is the one of the history
  journal_is : drew.journal ≡ journal_of setup next
  journal_is = run_from h.opened h.past setup (server_of node.server) next.events drew.journal drew.serves

  -- the frames of the lists are those that the testers are sent more
  frames_next : (i : ℕ) (frames : List Sent) → slice_get (lists_of node) i ≡ Some frames
      → sent_in setup next (i + 1) ≡ sent_in setup h (i + 1) ++ frames
  frames_next i frames at =
      ap (λ K. sent_by setup next.events (h.past ++ timed h.opened K) (i + 1)) (sym journal_is) ∙ drew.frames i frames at

  all_is : all_more setup h next ≡ in_order time_of (gathered 1 (lists_of node))
  all_is =
      let many : length (lists_of node) ≡ length setup.testers = length-map node.drawn.items (λ f. f.items) ∙ drew.lists in
      ap (in_order time_of) (ap (λ n. flat_map (frames_more setup h next) (counted_from 1 n)) (sym many)
      ∙ gathered_is (sent_in setup h) (sent_in setup next) 1 (lists_of node) frames_next)

  stands_next : (clock : Option Clock) (waiting waiting' handed : List Drawn) → clock ≡ h.clock → h.sent ≡ handed ++ waiting
      → waiting' ≡ waiting ++ in_order time_of (gathered 1 (lists_of node))
      → Stands (seen setup node (Some (clock_at clock moment)) waiting') (taken setup h moment frame) handed told
  stands_next clock waiting waiting' handed clock_is sent queued = record {
    serves = subst (λ K. ServesFrom h.opened h.past setup (server_of node.server) next.events K) journal_is drew.serves;
    clock = ap (λ c. Some (clock_at c moment)) clock_is;
    sent = ap₂ ◌++◌ sent all_is
        ∙ (append_assoc handed waiting (in_order time_of (gathered 1 (lists_of node))) ∙ ap (λ w. handed ++ w) (sym queued));
    text = ap (λ K. entered node.wanted (entries_of h.past ++ K)) (sym journal_is) ∙ drew.text;
  }

-- a call begins, what it gives is given to the server, and what that drew is due
pub took_call : (setup : RawSetup) (old begun done : Node) (clock : Option Clock) (waiting waiting' : List Drawn) (moment : ℕ) (frame : Option Frame)
    → ((i : ℕ) (frames : List Sent) → slice_get (lists_of begun) i ≡ Some frames → frames ≡ []) → begun.text.items ≡ old.text.items
    → begun.server ≡ old.server → SameShape old begun → length old.drawn.items ≡ length setup.testers
    → Gave begun done (events_at setup clock moment frame)
    → waiting' ≡ waiting ++ in_order time_of (gathered 1 (lists_of done))
    → TookCall (seen setup old clock waiting) (seen setup done (Some (clock_at clock moment)) waiting') (At moment frame)
took_call setup old begun done clock waiting waiting' moment frame empty text server first lists gave queued = λ calls handed told stands.
    let h = history setup calls in
    let serves = subst (λ (s : ServerView). ServesFrom h.opened h.past setup (server_of s) h.events (journal_of setup h)) (sym server) stands.serves in
    let written : entered begun.wanted (entries_in setup h) ≡ told ++ begun.text.items =
    ap (λ w. entered w (entries_in setup h)) first.wanted ∙ (stands.text ∙ ap (λ w. told ++ w) (sym text)) in
    let given = gave h.opened h.past setup (sent_in setup h) told h.events
    (drew_none setup begun h told serves (first.lists ∙ lists) empty written) in
    let events : h.events ++ events_at setup clock moment frame ≡ (gone_on setup h moment frame).events =
    ap (λ w. h.events ++ w) (same_events setup clock moment frame ∙ ap (λ c. said_gives setup (reference_of c) (Stamped moment frame)) stands.clock) in
    let drew = subst (λ M. Drew h.opened h.past setup done (sent_in setup h) told M) events given in
    subst (λ (g : History). Stands (seen setup done (Some (clock_at clock moment)) waiting') g handed told)
    (sym (history_more setup (beginning setup) calls (At moment frame)))
    (stands_next setup h moment frame done told drew clock waiting waiting' handed stands.clock stands.sent queued)

-- ---- time

time_more : (clock : Option Clock) (moment : ℕ) → IsClock clock
    → time_of_clock (Some (clock_at clock moment)) ≡ time_of_clock clock + span_at clock moment
time_more None moment h = omega arith
time_more (Some clock) moment h = omega (arith, h.0)

clock_more : (clock : Option Clock) (moment : ℕ) → moment ≤ latest_ms → IsClock clock → IsClock (Some (clock_at clock moment))
clock_more None moment most h = (omega arith, most)
clock_more (Some clock) moment most h = (omega (arith, h.0), omega (arith, h.1, most))

clock_early : (clock : Option Clock) → IsClock clock → time_of_clock clock ≤ latest_ms
clock_early None h = omega arith
clock_early (Some clock) h = omega (arith, h.1)

-- so much may pass
pub ready : (setup : RawSetup) (old begun : Node) (clock : Option Clock) (moment : ℕ) → moment ≤ latest_ms → AreSound setup old clock
    → begun.server ≡ old.server → SameShape old begun → IsReady begun (length setup.testers) (span_at clock moment)
ready setup old begun clock moment most sound server first =
    let time = time_more clock moment sound.3 in
    let early = clock_early (Some (clock_at clock moment)) (clock_more clock moment most sound.3) in
    record {
      in_setup = first.ports ∙ sound.0;
      lists = first.lists ∙ sound.1;
      early = record {
        time = time_of_clock clock;
        by = subst (λ (s : ServerView). IsBy s (time_of_clock clock)) (sym server) sound.2;
        early = omega (arith, time, early);
      };
    }

-- what holds whatever the unit took
pub sound_more : (setup : RawSetup) (old begun done : Node) (clock : Option Clock) (moment : ℕ) → moment ≤ latest_ms → AreSound setup old clock
    → begun.server ≡ old.server → SameShape old begun → SameShape begun done → TookTime begun.server done.server (span_at clock moment)
    → AreSound setup done (Some (clock_at clock moment))
sound_more setup old begun done clock moment most sound server first second took = (
  second.ports ∙ (first.ports ∙ sound.0),
  second.lists ∙ (first.lists ∙ sound.1),
  λ i port at.
      (let low = took (time_of_clock clock) (subst (λ (s : ServerView). IsBy s (time_of_clock clock)) (sym server) sound.2) i port at in
      let time = time_more clock moment sound.3 in
      omega (arith, low, time)),
  clock_more clock moment most sound.3,
)

-- ---- what the ECU's own software sets

pub set_call : (setup : RawSetup) (old new : Node) (clock : Option Clock) (waiting : List Drawn) (call : Call) (ecu : State)
    → WasSet (server_of old.server) (server_of new.server) ecu → new.wanted ≡ old.wanted → new.text ≡ old.text
    → ((h : History) → after h.opened (journal_of setup h) ≡ old.server.ecu → next_of setup h call ≡ set_to setup h ecu)
    → TookCall (seen setup old clock waiting) (seen setup new clock waiting) call
set_call setup old new clock waiting call ecu was wanted text next = λ calls handed told stands.
    let h = history setup calls in
    let is : next_of setup h call ≡ set_to setup h ecu = next h (sym stands.serves.ecu) in
    let behind = was.stretched h.opened h.past setup h.events (journal_of setup h) stands.serves in
    let none = run_from ecu (timed_of setup h) setup (server_of new.server) h.events [] behind in
    let entries : entries_of (timed_of setup h) ++ [] ≡ entries_in setup h =
    append-nil (entries_of (timed_of setup h)) ∙ (map-append (λ (x : Timed). x.entry) h.past (timed h.opened (journal_of setup h))
    ∙ ap (λ w. entries_of h.past ++ w) (entries_timed h.opened (journal_of setup h))) in
    subst (λ (g : History). Stands (seen setup new clock waiting) g handed told)
    (sym (history_more setup (beginning setup) calls call ∙ is)) (record {
      serves = subst (λ K. ServesFrom ecu (timed_of setup h) setup (server_of new.server) h.events K) none behind;
      clock = stands.clock;
      sent = stands.sent;
      text = ap (λ K. entered new.wanted (entries_of (timed_of setup h) ++ K)) (sym none)
          ∙ (ap₂ entered wanted entries ∙ (stands.text ∙ ap (λ (t : Vec ℕ Global). told ++ t.items) (sym text)));
    })
