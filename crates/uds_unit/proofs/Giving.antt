-- A call in which the server was given an event of one tester.
use Rattle.std.proofs.Common.{◌≡◌, ◌<◌, ◌≤◌, ℕ, min, ◌+◌, ◌-◌, Option, Some, None, Vec, Global, List, [], ◌∷◌, ◌++◌, get_or, length, map, refl, ap, subst, sym, ◌∙◌, append_assoc, arith, inl, inr}
use Rattle.std.proofs.lemmas.List.{length-map, length-set, map-set}
use Rattle.std.proofs.lemmas.Option.{slice_get_read, slice_get-map}
use Rattle.std.specs.Prelude.{IfSome, slice_get, slice_set}
use Rattle.std.specs.Option.{option_map, option_to_list}
use Rattle.std.specs.Vec.{with_item}
use Rattle.diag_can.specs.Event.{Event}
use Rattle.diag_tp.specs.SentFrames.{SentList}
use Rattle.diag_tp.specs.declared.sent.Sent.{Sent}
use Rattle.diag_tp.specs.Link.{last_tick}
use Rattle.diag_tp.specs.Moments.{last_time}
use Rattle.diag_setup.specs.declared.raw.RawSetup.{RawSetup}
use Rattle.diag_ecu.specs.State.{State}
use Rattle.diag_desk.specs.declared.entry.Entry.{Entry}
use Rattle.diag_desk.specs.Text.{ticks_of}
use Rattle.diag_desk.specs.Timed.{Timed, entries_of, timed}
use Rattle.diag_port.specs.Port.{PortState, port_of}
use Rattle.diag_world.specs.Server.{ServerState, ServerView, ServesFrom, Settled, closing_time, sent_by, server_of}
use Rattle.diag_world.specs.Weaving.{items_of}
use Rattle.diag_world.proofs.Times.{ticks_stretched}
use Rattle.diag_world.proofs.Worlds.{set_cases, other_place}
use Rattle.uds_unit.specs.Node.{Gave, SameShape, lists_of}
use Rattle.uds_unit.specs.Journal.{entered, entry_added}
use Rattle.uds_unit.specs.declared.node.Node.{Node}
use Rattle.uds_unit.proofs.Entered.{entered_more}

-- ---- the clock of a tester

whose : (asked : Option Entry) (who now : ℕ) (K : List Entry) → IfSome asked (λ k. k.who ≡ who) → now ≡ ticks_of who K
    → IfSome asked (λ k. now ≡ ticks_of k.who K)
whose None who now K by is = tt
whose (Some k) who now K by is = is ∙ ap (λ t. ticks_of t K) (sym by)

-- a link's clock tells the ticks that its tester has in all entries
clock_told : (opened : State) (T : List Timed) (setup : RawSetup) (server : ServerState) (M : List (ℕ × Event)) (K : List Entry) (who i : ℕ)
    (port : PortState) (asked : Option Entry)
    → ServesFrom opened T setup server M K → who ≡ i + 1 → slice_get server.ports i ≡ Some port → port.link.now ≤ closing_time
    → IfSome asked (λ k. k.who ≡ who) → IfSome asked (λ k. port.link.now ≡ ticks_of k.who (entries_of T ++ K))
clock_told opened T setup server M K who i port asked h is found early by =
    let time : port.link.now ≡ min (last_time (items_of M who)) last_tick =
    subst (λ t. port.link.now ≡ min (last_time (items_of M t)) last_tick) (sym is) (h.ports i port found).stands.stands.now in
    let exact : port.link.now ≡ last_time (items_of M who) = under port.link.now (last_time (items_of M who)) early time in
    whose asked who port.link.now (entries_of T ++ K) by (exact ∙ sym (ticks_stretched opened T setup server M K who h))
  where
    under : (now time : ℕ) → now ≤ closing_time → now ≡ min time last_tick → now ≡ time
    under now time early is = omega (arith, early, is)

-- ---- one event more

-- the call with this list at a place
abbrev pub node_with : Node → ServerView → ℕ → SentList → Vec ℕ Global → Node
node_with old server i list text = record { server = server; wanted = old.wanted; drawn = with_item old.drawn i list; text = text }

-- the list of the tester `who` stands at its place i
pub record IsListAt (old : Node) (who i : ℕ) (list : SentList) : Type 0 where
  pub is : who ≡ i + 1
  pub within : i < length old.drawn.items
  pub read : list ≡ get_or old.drawn.items i list

-- the tester's list stands where it was read
pub list_at : (old : Node) {who i : ℕ} {list : SentList} → who ≤ length old.server.ports → length old.drawn.items ≡ length old.server.ports
    → who ≡ i + 1 → list ≡ get_or old.drawn.items i list → IsListAt old who i list
list_at old in_setup lists is read = record { is = is; within = omega (arith, in_setup, lists, is); read = read }

ports_moved : (old new : ServerView) (who : ℕ) (e : Event) (asked : Option Entry) (more : List Sent)
    → Settled (server_of old) (server_of new) who e asked more → length new.ports ≡ length old.ports
ports_moved old new who e asked more settled =
    sym (length-map new.ports port_of) ∙ (ap length settled.moved.set
    ∙ (length-set (map port_of old.ports) (who - 1) settled.moved.after ∙ length-map old.ports port_of))

ports_same : (old new : ServerView) → server_of new ≡ server_of old → length new.ports ≡ length old.ports
ports_same old new same =
    sym (length-map new.ports port_of) ∙ (ap (λ (s : ServerState). length s.ports) same ∙ length-map old.ports port_of)

-- a call with another list in its place
module _ {old : Node} {who i : ℕ} {list : SentList} (here : IsListAt old who i list) where
  -- the frames that were drawn
  found : slice_get (lists_of old) i ≡ Some list.items
  found =
      let drawn = old.drawn.items in
      slice_get-map (λ f. f.items) drawn i
      ∙ ap (option_map (λ f. f.items)) (slice_get_read drawn (length drawn) i list refl here.within here.read)

  -- and those with more behind them
  grown : (list' : SentList) (more : List Sent) → list'.items ≡ list.items ++ more
      → map (λ f. f.items) (slice_set old.drawn.items i list') ≡ slice_set (lists_of old) i (list.items ++ more)
  grown list' more is =
      map-set (λ f. f.items) old.drawn.items i list' ∙ ap (λ (w : List Sent). slice_set (lists_of old) i w) is

  -- the shape that it had, where the event was refused
  pub shape_refused : (server : ServerView) (list' : SentList) (text : Vec ℕ Global) → server_of server ≡ server_of old.server
      → SameShape old (node_with old server i list' text)
  shape_refused server list' text same = record {
    ports = ports_same old.server server same;
    lists = length-set old.drawn.items i list';
    wanted = refl;
  }

  -- the server took the event: the tester's list has grown by the frames, and the others are as they were; the entry was
  -- written
  module _ (server : ServerView) (list' : SentList) (text : Vec ℕ Global) {e : Event} {asked : Option Entry} {more : List Sent}
      (settled : Settled (server_of old.server) (server_of server) who e asked more) where
    pub gave_one : list'.items ≡ list.items ++ more → settled.moved.before.link.now ≤ closing_time → IfSome asked (λ k. k.who ≡ who)
        → text.items ≡ old.text.items ++ entry_added old.wanted settled.moved.before.link.now asked
        → Gave old (node_with old server i list' text) ((who, e) ∷ [])
    gave_one grew early by written = λ opened T setup base told M h.
        let now = settled.moved.before.link.now in
        let place : who ≡ (who - 1) + 1 = omega (arith, here.is) in
        let served = settled.stretched opened T setup M h.journal h.serves in
        let K' = h.journal ++ option_to_list asked in
        let M' = M ++ (who, e) ∷ [] in
        let clock = clock_told opened T setup (server_of old.server) M h.journal who (who - 1) settled.moved.before asked h.serves place
        settled.moved.found early by in
        record {
          journal = K';
          serves = served.serves;
          lists = length-set old.drawn.items i list' ∙ h.lists;
          frames = λ j fs at. elim (set_cases (lists_of old) i j (list.items ++ more) fs (subst (λ ls. slice_get ls j ≡ Some fs) (grown list' more grew) at)) [
            | inl p ↦ (
                let there : who ≡ j + 1 = omega (arith, here.is, p.0) in
                subst (λ t. sent_by setup M' (T ++ timed opened K') t ≡ base t ++ fs) there
                (served.grown ∙ (ap (λ w. w ++ more) (subst (λ t. sent_by setup M (T ++ timed opened h.journal) t ≡ base t ++ list.items) (sym here.is)
                (h.frames i list.items found))
                ∙ (append_assoc (base who) list.items more ∙ ap (λ w. base who ++ w) (sym p.1)))))
            | inr p ↦ served.others (j + 1) (other_place i j who here.is p.0) ∙ h.frames j fs p.1
          ];
          text = ap (entered old.wanted) (sym (append_assoc (entries_of T) h.journal (option_to_list asked)))
              ∙ (entered_more old.wanted (entries_of T ++ h.journal) asked now clock
              ∙ (ap (λ w. w ++ entry_added old.wanted now asked) h.text
              ∙ (append_assoc told old.text.items (entry_added old.wanted now asked)
              ∙ ap (λ w. told ++ w) (sym written))));
        }

    -- it has the shape that it had
    pub shape_one : SameShape old (node_with old server i list' text)
    shape_one = record {
      ports = ports_moved old.server server who e asked more settled;
      lists = length-set old.drawn.items i list';
      wanted = refl;
    }
