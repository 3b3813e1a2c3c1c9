-- A node whose server was given an event of one tester.
use Rattle.std.proofs.Common.{◌≡◌, ◌<◌, ◌≤◌, ℕ, ◌+◌, ◌-◌, Bool, Option, Some, None, true, List, [], ◌∷◌, ◌++◌, get_or, length, map, refl, ap, subst, sym, ◌∙◌, arith}
use Rattle.std.proofs.lemmas.List.{append-nil, map-set}
use Rattle.std.proofs.lemmas.Option.{slice_get_read, slice_get-map}
use Rattle.std.specs.Prelude.{IfSome, if◌then◌else◌, slice_get, slice_set}
use Rattle.std.specs.Option.{option_map, option_to_list}
use Rattle.std.specs.Vec.{with_item}
use Rattle.diag_can.specs.Event.{Event}
use Rattle.diag_tp.specs.SentFrames.{SentList}
use Rattle.diag_tp.specs.declared.sent.Sent.{Sent}
use Rattle.diag_setup.specs.declared.raw.RawSetup.{RawSetup}
use Rattle.diag_ecu.specs.State.{State, opening}
use Rattle.diag_desk.specs.Legal.{after, after_step}
use Rattle.diag_desk.specs.Text.{ticks_of}
use Rattle.diag_desk.specs.declared.entry.Entry.{Entry}
use Rattle.diag_port.specs.Standing.{HasKept}
use Rattle.diag_world.specs.Server.{ServerState, ServerView, Serves, Settled, closing_time, server_of}
use Rattle.diag_bus.specs.Node.{Gave, IsRest, Lasts, OneSentIn, SameShape, lists_of}
use Rattle.diag_bus.specs.Sink.{Enters, journal_of}
use Rattle.diag_bus.specs.Filled.{filled_at}
use Rattle.diag_bus.specs.declared.filled.Filled.{Filled}
use Rattle.diag_bus.specs.declared.node.Node.{Node}
use Rattle.diag_bus.proofs.Nodes.{clock_told, drew_more}
use Rattle.diag_bus.proofs.Filling.{ports_moved, ports_same, rest_stays, shape_after, shape_same}
use Rattle.diag_bus.proofs.Paces.{sent_one}

-- the node with this list at an index
abbrev pub node_with : Node → ServerView → ℕ → SentList → Filled → ℕ → Node
node_with old server i list filled rest = record {
  server = server;
  drawn = record { lists = with_item old.drawn.lists i list; filled = filled };
  rest = rest;
}

-- the list of the tester `who` stands at its index i in the line
pub record IsListAt (old : Node) (who i : ℕ) (list : SentList) : Type 0 where
  pub is : who ≡ i + 1
  pub within : i < length old.drawn.lists.items
  pub read : list ≡ get_or old.drawn.lists.items i list

-- the tester's list stands where it was read
pub list_at : (old : Node) {who i : ℕ} {list : SentList} → who ≤ length old.server.ports → length old.drawn.lists.items ≡ length old.server.ports
    → who ≡ i + 1 → list ≡ get_or old.drawn.lists.items i list → IsListAt old who i list
list_at old in_setup lists is read = record { is = is; within = omega (arith, in_setup, lists, is); read = read }

-- what a sink is told of an event, with or without an entry
abbrev pub Tells : {S : Type 0} → (S → RawSetup → List (List ℕ) → List Entry → Type 0) → S → S → State → ℕ → Option Entry → Type 0
Tells took old new ecu now None = new ≡ old
Tells took old new ecu now (Some k) = Enters took old new ecu now k

-- as whoever has it entered tells it, who has the sink at hand
module _ {S Y : Type 0} (took : S → RawSetup → List (List ℕ) → List Entry → Type 0) (stays : S → S → Type 0) (none : (x : S) → stays x x) (sink_of : Y → S)
    (old new : Y) (ecu : State) (now : ℕ) where
  abbrev pub Keeping : Y → ℕ → Entry → Y → Type 0
  Keeping a before k b = Enters took (sink_of a) (sink_of b) ecu before k × stays (sink_of a) (sink_of b)

  pub tells_kept : (asked : Option Entry) → HasKept Keeping old new now asked → Tells took (sink_of old) (sink_of new) ecu now asked
  tells_kept None kept = ap sink_of kept
  tells_kept (Some k) kept = kept.0

  pub stays_told : (asked : Option Entry) → HasKept Keeping old new now asked → stays (sink_of old) (sink_of new)
  stays_told None kept = subst (stays (sink_of old)) (sym (ap sink_of kept)) (none (sink_of old))
  stays_told (Some k) kept = kept.1

-- the sink took the entry, where there is one
told : {S : Type 0} (took : S → RawSetup → List (List ℕ) → List Entry → Type 0) (setup : RawSetup) (server : ServerState) (M : List (ℕ × Event)) (sink sink' : S)
    (past : List (List ℕ)) (J K : List Entry) (now : ℕ) (asked : Option Entry) → Serves setup server M J → J ≡ journal_of setup past ++ K
    → IfSome asked (λ k. now ≡ ticks_of k.who J) → Tells took sink sink' server.ecu now asked → took sink setup past K
    → took sink' setup past (K ++ option_to_list asked)
told took setup server M sink sink' past J K now None served run clock same h =
    subst (took sink' setup past) (sym (append-nil K)) (subst (λ s. took s setup past K) (sym same) h)
told took setup server M sink sink' past J K now (Some k) served run clock enters h =
    enters setup past K (served.ecu ∙ (ap (after (opening setup)) run ∙ after_append (opening setup) (journal_of setup past) K))
    (clock ∙ ap (ticks_of k.who) run) h
  where
    after_append : (s : State) (A B : List Entry) → after s (A ++ B) ≡ after (after s A) B
    after_append s [] B = refl
    after_append s (a ∷ A) B = after_append (after_step s a.who a.step) A B

-- a node with another list in its place
module _ {old : Node} {who i : ℕ} {list : SentList} (here : IsListAt old who i list) where
  -- the frames that were drawn
  found : slice_get (lists_of old.drawn) i ≡ Some list.items
  found =
      let drawn = old.drawn.lists.items in
      slice_get-map (λ f. f.items) drawn i
      ∙ ap (option_map (λ f. f.items)) (slice_get_read drawn (length drawn) i list refl here.within here.read)

  -- and those with more behind them
  grown : (list' : SentList) (more : List Sent) → list'.items ≡ list.items ++ more
      → map (λ f. f.items) (slice_set old.drawn.lists.items i list') ≡ slice_set (lists_of old.drawn) i (list.items ++ more)
  grown list' more is =
      map-set (λ f. f.items) old.drawn.lists.items i list' ∙ ap (λ (w : List Sent). slice_set (lists_of old.drawn) i w) is

  -- the shape that it had, where the event was refused
  pub shape_refused : (server : ServerView) (list' : SentList) → server_of server ≡ server_of old.server
      → list'.items ≡ list.items → SameShape old (node_with old server i list' old.drawn.filled old.rest)
  shape_refused server list' same kept =
      shape_same old (node_with old server i list' old.drawn.filled old.rest) i list' list (ports_same old.server server same) refl here.read kept refl
      (rest_stays old.server server old.rest same)

-- a node in which the server took the event
module _ {old : Node} {who i : ℕ} {list : SentList} (here : IsListAt old who i list) (server : ServerView) (list' : SentList)
    (filled : Filled) (rest : ℕ) {e : Event} {asked : Option Entry} {more : List Sent}
    (settled : Settled (server_of old.server) (server_of server) who e asked more) where
  -- its entry is entered with what the tester's clock told, and the frames that the server handed out are drawn
  pub gave_one : {S : Type 0} (took : S → RawSetup → List (List ℕ) → List Entry → Type 0) (sink sink' : S) → list'.items ≡ list.items ++ more
      → settled.moved.before.link.now ≤ closing_time → IfSome asked (λ k. k.who ≡ who)
      → Tells took sink sink' (server_of old.server).ecu settled.moved.before.link.now asked
      → Gave took old sink (node_with old server i list' filled rest) sink' ((who, e) ∷ [])
  gave_one took sink sink' grew early by tells = λ setup base past M h.
      let place : who ≡ (who - 1) + 1 = omega (arith, here.is) in
      let now = settled.moved.before.link.now in
      drew_more took setup old (node_with old server i list' filled rest) sink sink' base past M who i e asked list.items more
      settled here.is (found here) (grown here list' more grew)
      (λ J K served run. told took setup (server_of old.server) M sink sink' past J K now asked served run
      (clock_told setup (server_of old.server) M J who (who - 1) settled.moved.before asked served place settled.moved.found early by) tells)
      h

  -- no frame is later than its time
  pub sent_in_one : list'.items ≡ list.items ++ more → (span : ℕ) → Lasts e span
      → OneSentIn old (node_with old server i list' filled rest) (who - 1) span
  sent_in_one grew span most =
      sent_one old (node_with old server i list' filled rest) (who - 1) i span e asked list.items more settled.moved most (found here)
      (grown here list' more grew)

  -- it has the shape that it had
  pub shape_one : (is_empty : Bool) → filled ≡ (if is_empty then old.drawn.filled else filled_at old.drawn.filled i) → (is_empty ≡ true → list'.items ≡ [])
      → (IsRest old.server old.rest → IsRest server rest) → SameShape old (node_with old server i list' filled rest)
  shape_one is_empty fill none known =
      shape_after old (node_with old server i list' filled rest) i list' is_empty (ports_moved old.server server who e asked more settled)
      here.within refl fill none known
