-- Ticks in which a port does nothing.
use Rattle.std.proofs.Common.{◌≡◌, ◌≤◌, ◌<◌, ℕ, min, ◌+◌, Option, Some, None, List, [], ◌∷◌, ◌++◌, map, length, refl, ap, subst, sym, ◌∙◌, arith}
use Rattle.std.proofs.lemmas.List.{append-nil}
use Rattle.diag_can.specs.Event.{Ticks, Event}
use Rattle.diag_pdu.specs.declared.setup.LinkSetup.{LinkSetup}
use Rattle.diag_pdu.proofs.Lists.{length-zero}
use Rattle.diag_tp.specs.declared.sent.Sent.{Sent}
use Rattle.diag_tp.specs.Moments.{history, last_time, now}
use Rattle.diag_tp.specs.Wire.{Placed, stamped, wire}
use Rattle.diag_tp.specs.Link.{StandsFor, last_tick, pending, quiet, quiet_later}
use Rattle.diag_tp.specs.State.{LinkState, due}
use Rattle.diag_sides.specs.declared.sending.Phase.{Phase}
use Rattle.diag_sides.specs.declared.sending.Phase.TheVariants.{AwaitsFlow, InBlock}
use Rattle.diag_sides.specs.declared.sending.Sending.{Sending}
use Rattle.diag_sides.specs.Receiver.{Receiving}
use Rattle.diag_sides.specs.Sender.{in_phase, kept_as}
use Rattle.diag_sides.specs.Quiet.{always, current_later, phase_later, reception_later}
use Rattle.diag_tp.proofs.Silence.{current_none, current_still, due_later, quiet_drained, quiet_left, reception_none, reception_still, same_link, stands_ticks}
use Rattle.diag_port.specs.declared.held.Later.{Later}
use Rattle.diag_port.specs.declared.port.Port.{Port}
use Rattle.diag_port.specs.Held.{until_due}
use Rattle.diag_port.specs.Late.{Late, NoneIsDue, held_late, placed_late}
use Rattle.diag_port.specs.Port.{HandedOut, IsAtRest, Passed, PortFor, PortState, port_later, port_of, port_quiet, whole_later}
use Rattle.diag_port.proofs.LateLemmas.{goes_silent}
use Rattle.diag_port.proofs.PortLemmas.{asked_on, history_ticks, later_due, not_due_within}
use Rattle.diag_port.proofs.Within.{within_none}

-- ---- a link

-- no ticks
later_none : (link : LinkState) → link.now ≤ last_tick → quiet_later 0 link ≡ link
unfolding quiet_later
later_none link told = same_link _ link refl (omega (arith, told)) (reception_none link.partial) refl (ap (λ o. kept_as o link.sender.waiting) (current_none link.sender.current))

-- ticks after ticks
reception_more : (n m : ℕ) (o : Option Receiving) → reception_later m (reception_later n o) ≡ reception_later (n + m) o
reception_more n m None = refl
reception_more n m (Some p) = let e : p.silence + n + m ≡ p.silence + (n + m) = omega arith in rw e refl

phase_more : (n m : ℕ) (p : Phase) → phase_later m (phase_later n p) ≡ phase_later (n + m) p
phase_more n m (AwaitsFlow ticks) = ap AwaitsFlow (omega arith)
phase_more n m (InBlock rest gap ticks) = ap (InBlock rest gap) (omega arith)

current_more : (n m : ℕ) (o : Option Sending) → current_later m (current_later n o) ≡ current_later (n + m) o
current_more n m None = refl
current_more n m (Some c) = ap (λ p. Some (in_phase c p)) (phase_more n m c.phase)

later_more : (n m : ℕ) (link : LinkState) → quiet_later m (quiet_later n link) ≡ quiet_later (n + m) link
unfolding quiet_later
later_more n m link =
    same_link _ _ refl (omega arith) (reception_more n m link.partial) refl (ap (λ o. kept_as o link.sender.waiting) (current_more n m link.sender.current))

-- no frame falls due
later_drained : (n : ℕ) (link : LinkState) → pending link ≡ 0 → pending (quiet_later n link) ≡ 0
unfolding pending
later_drained n link none = ap length (due_later n link) ∙ none

-- where nothing is due, all was handed out
pub all_out : (s : LinkSetup) (link : LinkState) (E : List Event) (A : List Placed) (Q : List Sent) → StandsFor s link E A Q → pending link ≡ 0 → Q ≡ wire s E A
unfolding pending
all_out s link E A Q h none =
    sym (append-nil Q) ∙ (ap (λ (d : List (List ℕ)). Q ++ map (stamped s (last_time E)) d) (sym (length-zero (due link) none)) ∙ h.out)

-- ticks in which nothing falls due and nothing ends
stands_later : (s : LinkSetup) (link : LinkState) (E : List Event) (A : List Placed) (Q : List Sent) (n : ℕ) → 1 ≤ n → n < quiet link → pending link ≡ 0
    → StandsFor s link E A Q → StandsFor s (quiet_later n link) (E ++ Ticks n ∷ []) A Q
unfolding quiet_later
stands_later s link E A Q n some few none stands =
    let q = quiet_drained link none in
    stands_ticks s link (quiet_later n link) E A Q n some (omega arith) none refl
    (ap (λ o. kept_as o link.sender.waiting) (sym (current_still link.setup n link.sender.current (omega arith)).0))
    (sym (reception_still link.setup.n_cr n link.partial (omega arith))) refl refl stands

-- ---- a port

pub later_now : (n : ℕ) (port : PortState) → (port_later n port).link.now ≡ min (port.link.now + n) last_tick
unfolding quiet_later
later_now n port = refl

pub whole_none : (port : Port) → port.link.state.now ≤ last_tick → whole_later 0 port ≡ port
whole_none port told = rw (later_none port.link.state told) refl

pub whole_more : (n m : ℕ) (port : Port) → whole_later m (whole_later n port) ≡ whole_later (n + m) port
whole_more n m port = rw (later_more n m port.link.state) refl

-- a quiet time has at least a tick
some_until : (t : ℕ) (H : List Later) → NoneIsDue t H → 1 ≤ until_due t H
some_until t [] h = omega arith
some_until t (x ∷ H) h = omega (arith, h)

pub some_quiet : (port : Port) → IsAtRest port → 1 ≤ port_quiet (port_of port)
some_quiet port rest =
    let link = quiet_drained port.link.state rest.drained in
    let due = some_until port.link.state.now port.held.messages rest.none_due in
    omega (arith, link, due)

-- in it nothing falls due
pub rest_later : (n : ℕ) (port : Port) → IsAtRest port → n < port_quiet (port_of port) → IsAtRest (whole_later n port)
rest_later n port rest few =
    let t = port.link.state.now in
    record {
      drained = later_drained n port.link.state rest.drained;
      none_due = later_due (t + n) (whole_later n port).link.state.now port.held.messages (omega (arith, later_now n (port_of port)))
          (not_due_within t n port.held.messages (omega (arith, few)));
      rooms = rest.rooms;
    }

-- a long silence is one move
port_stands_later : (s : LinkSetup) (port : PortState) (E : List Event) (L : List Late) (Q : List Sent) (n : ℕ) → 1 ≤ n → n < port_quiet port
    → pending port.link ≡ 0 → last_time E ≤ last_tick → PortFor s port E L Q → PortFor s (port_later n port) (E ++ Ticks n ∷ []) L Q
port_stands_later s port E L Q n some few none time h =
    let past = history E in
    let clock : port.link.now ≡ last_time E = h.stands.now ∙ omega (arith, time) in
    let due : n < until_due (last_time E) port.held = subst (λ t. n < until_due t port.held) clock (omega (arith, few)) in
    let goes = goes_silent n past L h.asked (subst (λ H. NoneIsDue (now past + n) H) h.held (not_due_within (now past) n port.held due)) in
    let hist = history_ticks E n in
    record {
      stands = subst (λ A. StandsFor s (quiet_later n port.link) (E ++ Ticks n ∷ []) A Q) (sym (ap (λ p. placed_late p 0 L) hist ∙ goes.placed))
          (stands_later s port.link E (placed_late past 0 L) Q n some (omega (arith, few)) none h.stands);
      held = h.held ∙ (sym goes.held ∙ ap (λ p. held_late p 0 L) (sym hist));
      asked = asked_on E n L h.asked;
    }

-- in which nothing is handed out
pub passed_later : (port : PortState) (n : ℕ) → 1 ≤ n → n < port_quiet port → pending port.link ≡ 0 → Passed port (port_later n port) n []
passed_later port n some few none = (
  within_none _ _,
  λ s E L Q h time.
      let after = port_stands_later s port E L Q n some few none (omega (arith, time)) h in
      let whole : HandedOut s (port_later n port) (E ++ Ticks n ∷ []) L Q = record {
        stands = after;
        all = all_out s (quiet_later n port.link) (E ++ Ticks n ∷ []) _ Q after.stands (later_drained n port.link none);
      } in
      subst (λ q. HandedOut s (port_later n port) (E ++ Ticks n ∷ []) L q) (sym (append-nil Q)) whole,
)

-- of a quiet time so much is left once n ticks have passed
pub port_quiet_left : (n m : ℕ) (port : PortState) → pending port.link ≡ 0 → 1 ≤ m → n + m < always → m < port_quiet (port_later n port)
    → port.link.now + n ≤ last_tick → n + m < port_quiet port
port_quiet_left n m port none some least few told =
    let link = (quiet_left n port.link none).1 m some least (omega (arith, few)) in
    let time = later_now n port in
    let due = due_left n m port.link.now port.held least (subst (λ t. m < until_due t port.held) (time ∙ omega (arith, told)) (omega (arith, few))) in
    omega (arith, link, due)
  where
    due_left : (n m t : ℕ) (H : List Later) → n + m < always → m < until_due (t + n) H → n + m < until_due t H
    due_left n m t [] least h = least
    due_left n m t (x ∷ H) least h = omega (arith, h)

-- and it is less by so many at most
pub port_rest_left : (n : ℕ) (port : PortState) → pending port.link ≡ 0 → port_quiet port ≤ port_quiet (port_later n port) + n
port_rest_left n port none =
    let link = (quiet_left n port.link none).0 in
    let time = later_now n port in
    let due = due_rest n port.link.now (port_later n port).link.now port.held (omega (arith, time)) in
    omega (arith, link, due)
  where
    due_rest : (n t t' : ℕ) (H : List Later) → t' ≤ t + n → until_due t H ≤ until_due t' H + n
    due_rest n t t' [] le = omega arith
    due_rest n t t' (x ∷ H) le = omega (arith, le)
