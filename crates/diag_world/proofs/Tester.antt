-- What a call at a tester's port says of the server.
use Rattle.std.proofs.Common.{◌≡◌, ◌<◌, ◌≤◌, ℕ, ◌+◌, ◌-◌, Option, Some, None, List, [], get_or, length, refl, ap, ap₂, subst, sym, ◌∙◌, arith}
use Rattle.std.proofs.lemmas.List.{length-map}
use Rattle.std.proofs.Math.Seq.{map-set_same}
use Rattle.std.proofs.lemmas.Option.{get_or_from_slice_get, slice_get_read, slice_get-map}
use Rattle.std.specs.Prelude.{slice_get, slice_set}
use Rattle.std.specs.Option.{option_map}
use Rattle.diag_can.specs.Event.{Event}
use Rattle.diag_tp.specs.declared.sent.Sent.{Sent}
use Rattle.diag_setup.specs.Setup.{link_of}
use Rattle.diag_ecu.specs.State.{State, opening}
use Rattle.diag_desk.specs.declared.entry.Entry.{Entry}
use Rattle.diag_desk.specs.Timed.{Timed, own_timed, timed}
use Rattle.diag_port.specs.declared.port.Port.{Port}
use Rattle.diag_port.specs.Late.{pace_of}
use Rattle.diag_port.specs.Port.{Grew, PortState, port_of}
use Rattle.diag_port.specs.Standing.{HasKept, PortStands, PortTook, TookEvent}
use Rattle.diag_world.specs.Server.{Answered, EachRun, IsEarly, PortWent, TesterTook, ServerState, ServerTook, ServerView, Settled, closing_time, server_of, state_at}
use Rattle.diag_world.specs.Weaving.{items_of}
use Rattle.diag_world.proofs.Serving.{port_at, same_who, server_went}
use Rattle.diag_world.specs.LazyPort.{caught_up}
use Rattle.diag_world.specs.declared.lazy_port.LazyPort.{LazyPort}
use Rattle.diag_world.proofs.Lazy.{seen_ports}

-- a server of this ECU and these ports
abbrev view_of : State → List Port → ServerView
view_of ecu ports = record { ecu = ecu; ports = ports }

-- a contract sees the server of these as `now`, and the port of the tester `who` stands at its place i
pub record IsAt (ecu : State) (ports : List Port) (now : ServerView) (who i : ℕ) (port : Port) : Type 0 where
  pub seen : view_of ecu ports ≡ now
  pub is : who ≡ i + 1
  pub found : slice_get ports i ≡ Some port

-- the tester's port stands where it was read, and as it is once it has caught up
module _ {ecu : State} (ports : List LazyPort) {now : ServerView} (passed at : ℕ) {who : ℕ} {lazy : LazyPort} (seen : view_of ecu (seen_ports passed ports) ≡ now)
    (in_setup : who ≤ length now.ports) (place : who ≡ at + 1) (read : lazy ≡ get_or ports at lazy) where
  pub lazy_at : slice_get ports at ≡ Some lazy
  lazy_at =
      let within : at < length ports = omega (
        arith,
        in_setup,
        ap (λ (v : ServerView). length v.ports) seen,
        length-map ports (λ l. caught_up passed l),
        place,
      ) in
      slice_get_read ports (length ports) at lazy refl within read

  pub port_there : (port : Port) → port ≡ caught_up passed lazy → IsAt ecu (seen_ports passed ports) now who at port
  port_there port is = record {
    seen = seen;
    is = place;
    found = slice_get-map (λ l. caught_up passed l) ports at ∙ (ap (option_map (λ l. caught_up passed l)) lazy_at ∙ ap Some (sym is));
  }

-- a port took an event, and the ECU of whoever took its step answered it
module _ {X Y : Type 0} (keeps : X → State → ℕ → Entry → X → Type 0) (ecu_of : Y → State) (keeper_of : Y → X) (taker taker' : Y) (old new : PortState)
    (who : ℕ) (e : Event) (out out' : List Sent) where
  abbrev Answers : Y → ℕ → Timed → Y → Type 0
  Answers a before x b = Answered keeps (ecu_of a) (ecu_of b) (keeper_of a) (keeper_of b) before x

  answered : (asked : Option Timed) → old.link.now ≤ closing_time → HasKept Answers taker taker' old.link.now asked
      → Grew out out' (λ more. PortTook old new who e asked more)
      → TesterTook keeps (ecu_of taker) (ecu_of taker') old new (keeper_of taker) (keeper_of taker') who e out out'
  answered None early kept sent = record {
    asked = None;
    kept = ap keeper_of kept;
    sent = record {
      more = sent.more;
      grown = sent.grown;
      holds = record { early = early; answer = tt; goes_on = ap ecu_of kept; took = sent.holds };
    };
  }
  answered (Some x) early kept sent = record {
    asked = Some x.entry;
    kept = kept.0;
    sent = record {
      more = sent.more;
      grown = sent.grown;
      holds = record {
        early = early;
        answer = kept.1;
        goes_on = kept.3;
        took = subst (λ y. PortTook old new who e (Some y) sent.more) kept.2 sent.holds;
      };
    };
  }

  pub tester_took : old.link.now ≤ closing_time → TookEvent Answers old new taker taker' who e out out'
      → TesterTook keeps (ecu_of taker) (ecu_of taker') old new (keeper_of taker) (keeper_of taker') who e out out'
  tester_took early took = answered took.asked early took.kept took.sent

-- what stands at one place is one
same_item : {X : Type 0} (x y : X) (o : Option X) → o ≡ Some x → o ≡ Some y → x ≡ y
same_item x y o at at' = cc

-- what is known of the tester there
module _ {ecu : State} {ports : List Port} {now : ServerView} {who i : ℕ} {port : Port} (here : IsAt ecu ports now who i port) where
  seen_at : slice_get now.ports i ≡ Some port
  seen_at = subst (λ (v : ServerView). slice_get v.ports i ≡ Some port) here.seen here.found

  -- the port stands at the tester's place in what the contract sees
  pub seen_there : slice_get now.ports (who - 1) ≡ Some port
  seen_there =
      let place : i ≡ who - 1 = omega (arith, here.is) in
      subst (λ k. slice_get now.ports k ≡ Some port) place seen_at

  -- and stands for the tester's part of each run
  pub port_here : EachRun (server_of now) (λ setup M K.
      PortStands (link_of setup who) (pace_of setup) (port_of port) (items_of M who) (own_timed (timed (opening setup) K) who))
  port_here = λ setup M K h. port_at (opening setup) [] setup now M K who i port h here.is seen_at

  -- and so does its state
  state_there : slice_get (server_of now).ports (who - 1) ≡ Some (port_of port)
  state_there = slice_get-map port_of now.ports (who - 1) ∙ ap (option_map port_of) seen_there

  -- the clock of a tester that is early tells no more than the closing time
  pub early_here : IsEarly now (who - 1) → port.link.state.now ≤ closing_time
  early_here early = early (port_of port) state_there

  -- and the other way round
  pub early_there : port.link.state.now ≤ closing_time → IsEarly now (who - 1)
  early_there early = λ other found.
      let same : port_of port ≡ other = same_item (port_of port) other _ state_there found in
      subst (λ (S : PortState). S.link.now ≤ closing_time) same early

  -- a port that stands for the same leaves the server what it was
  pub same_here : (ecu' : State) (port' : Port) → port_of port' ≡ port_of port → ecu' ≡ ecu → state_at ecu' (slice_set ports i port') ≡ server_of now
  same_here ecu' port' same still =
      let read : port ≡ get_or ports i port = sym (get_or_from_slice_get ports i port port here.found) in
      let kept = map-set_same port_of ports i port' port (same ∙ ap port_of read) in
      ap₂ (λ ecu (ls : List PortState). (let s : ServerState = record { ecu = ecu; ports = ls } in s)) still kept ∙ ap server_of here.seen

  -- the server settled an event as the port took it
  settled_here : (ecu' : State) (port' : Port) (e : Event) (asked : Option Entry) (more : List Sent)
      → PortWent ecu ecu' (port_of port) (port_of port') who e asked more
      → Settled (server_of now) (state_at ecu' (slice_set ports i port')) who e asked more
  settled_here ecu' port' e asked more went =
      let next = view_of ecu' (slice_set ports i port') in
      subst (λ (v : ServerView). Settled (server_of v) (server_of next) who e asked more) here.seen
      (server_went (view_of ecu ports) next who i e asked port port' more here.is here.found refl went)

  -- and took it for a keeper
  pub took_here : {X : Type 0} (keeps : X → State → ℕ → Entry → X → Type 0) (keeper keeper' : X) (ecu' : State) (port' : Port) (e : Event) (out out' : List Sent)
      → TesterTook keeps ecu ecu' (port_of port) (port_of port') keeper keeper' who e out out'
      → ServerTook keeps (server_of now) (state_at ecu' (slice_set ports i port')) keeper keeper' who e out out'
  took_here keeps keeper keeper' ecu' port' e out out' took =
      let went = took.sent.holds in
      let settled = settled_here ecu' port' e took.asked took.sent.more went in
      let before : port_of port ≡ settled.moved.before = same_item (port_of port) settled.moved.before _ state_there settled.moved.found in
      record {
        asked = took.asked;
        by = same_who ecu who took.asked went.took.by;
        sent = record { more = took.sent.more; grown = took.sent.grown; holds = settled };
        early = subst (λ (S : PortState). S.link.now ≤ closing_time) before went.early;
        kept = subst (λ (v : ServerView). HasKept (λ k. keeps k v.ecu) keeper keeper' settled.moved.before.link.now took.asked) here.seen
            (subst (λ (S : PortState). HasKept (λ k. keeps k ecu) keeper keeper' S.link.now took.asked) before took.kept);
      }
