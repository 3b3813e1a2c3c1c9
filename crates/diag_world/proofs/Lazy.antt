-- Ports that take ticks late in which they do nothing.
use Rattle.std.proofs.Common.{◌≡◌, ◌≤◌, ◌<◌, ℕ, zero, suc, ◌+◌, ◌-◌, min, Some, None, List, [], ◌∷◌, length, map, refl, ap, ap₂, subst, sym, ◌∙◌, arith, inl, inr}
use Rattle.std.proofs.lemmas.List.{map-set}
use Rattle.std.proofs.lemmas.Option.{slice_get-map}
use Rattle.std.specs.Option.{option_map}
use Rattle.std.specs.Prelude.{slice_get, slice_set, Result, Ok, Err, OnOk, OnErr}
use Rattle.diag_can.specs.Event.{Event, Physical, Functional, Ticks}
use Rattle.diag_tp.specs.declared.sent.Sent.{Sent}
use Rattle.diag_tp.specs.Link.{last_tick}
use Rattle.diag_ecu.specs.Elapse.{elapse_each}
use Rattle.diag_ecu.specs.State.{State}
use Rattle.diag_ecu.proofs.TickLemmas.{one_more}
use Rattle.diag_desk.specs.declared.entry.Entry.{Entry}
use Rattle.diag_port.specs.declared.port.Port.{Port}
use Rattle.diag_port.specs.Port.{IsAtRest, PortState, port_of, port_quiet, time_after, whole_later}
use Rattle.diag_port.specs.Standing.{entry_of_ticks}
use Rattle.diag_port.proofs.Quiet.{later_now, passed_later, port_quiet_left, port_rest_left, rest_later, some_quiet, whole_more, whole_none}
use Rattle.diag_port.proofs.Standing.{ticks_took}
use Rattle.diag_world.specs.LazyPort.{AreLazy, IsLazy, caught_up}
use Rattle.diag_world.specs.Server.{AreEarly, TesterTook, TookNothing, ServerView, Waited, closing_time, quiet_of, server_of, state_at}
use Rattle.diag_world.specs.declared.lazy_port.LazyPort.{LazyPort}
use Rattle.diag_world.proofs.Serving.{server_went}
use Rattle.diag_world.proofs.Waiting.{quiet_each, waited_more, waited_none}
use Rattle.diag_world.proofs.Worlds.{map_cases, set_cases}

-- ---- ticks that pass for a port

-- a port that has caught up, at which nothing is due
pub caught_still : (passed : ℕ) (lazy : LazyPort) → lazy.taken ≡ passed → IsAtRest lazy.port → passed ≤ lazy.port.link.state.now
    → lazy.port.link.state.now ≤ last_tick → IsLazy passed lazy
caught_still passed lazy taken rest told fits =
    let some = some_quiet lazy.port rest in
    record { rest = rest; marked = omega (arith, taken); told = omega (arith, taken, told); fits = fits; idle = omega (arith, taken, some) }

-- a port catches up
pub caught : (passed : ℕ) (lazy new : LazyPort) → passed ≤ last_tick → IsLazy passed lazy → new.port ≡ caught_up passed lazy → new.taken ≡ passed → IsLazy passed new
caught passed lazy new fits h port taken =
    let n = passed - lazy.taken in
    let rest : IsAtRest new.port = subst IsAtRest (sym port) (rest_later n lazy.port h.rest h.idle) in
    let clock : new.port.link.state.now ≡ min (lazy.port.link.state.now + n) last_tick = ap (λ (p : Port). p.link.state.now) port ∙ later_now n (port_of lazy.port) in
    caught_still passed new taken rest (omega (arith, clock, h.marked, h.told, fits)) (omega (arith, clock))

-- what it is then, it is at once
pub seen_caught : (passed : ℕ) (lazy : LazyPort) → lazy.taken ≡ passed → lazy.port.link.state.now ≤ last_tick → caught_up passed lazy ≡ lazy.port
seen_caught passed lazy taken told =
    let none : passed - lazy.taken ≡ 0 = omega (arith, taken) in
    rw none (whole_none lazy.port told)

-- ticks pass in which it does nothing
pub record HasPassed (passed passed' count : ℕ) (lazy : LazyPort) : Type 0 where
  pub sum : passed' ≡ passed + count
  pub after : IsLazy passed' lazy
  pub seen : caught_up passed' lazy ≡ whole_later count (caught_up passed lazy)

pub has_passed : (passed passed' count : ℕ) (lazy : LazyPort) → passed' ≡ min (passed + count) last_tick → IsLazy passed lazy → 1 ≤ count → count ≤ 60000
    → count < port_quiet (port_of (caught_up passed lazy)) → (caught_up passed lazy).link.state.now ≤ closing_time → HasPassed passed passed' count lazy
has_passed passed passed' count lazy is h some most few early =
    let n = passed - lazy.taken in
    let clock = later_now n (port_of lazy.port) in
    let sum : passed' ≡ passed + count = omega (arith, is, clock, early, h.marked, h.told, most) in
    let more : passed' - lazy.taken ≡ n + count = omega (arith, sum, h.marked) in
    let left = port_quiet_left n count (port_of lazy.port) h.rest.drained some (omega (arith, clock, early, h.marked, h.told, most)) few
    (omega (arith, clock, early)) in
    record {
      sum = sum;
      after = record {
        rest = h.rest;
        marked = omega (arith, sum, h.marked);
        told = h.told;
        fits = h.fits;
        idle = omega (arith, more, left);
      };
      seen = rw (more, sym (whole_more n count lazy.port)) refl;
    }

-- ---- ticks that pass for all ports

-- nothing is due, no port does anything in so many ticks, and none has come past its closing time
pub record AreQuiet (count : ℕ) (ports : List Port) : Type 0 where
  pub rest : (i : ℕ) (port : Port) → slice_get ports i ≡ Some port → IsAtRest port
  pub quiet : count < quiet_of (map port_of ports)
  pub early : AreEarly (map port_of ports)

-- of the first of them
abbrev pub first_later : ℕ → ℕ → List Port → List Port
first_later count zero ports = ports
first_later count (suc n) [] = []
first_later count (suc n) (port ∷ ports) = whole_later count port ∷ first_later count n ports

pub all_later : (count : ℕ) (ports : List Port) → first_later count (length ports) ports ≡ map (λ port. whole_later count port) ports
all_later count [] = refl
all_later count (port ∷ ports) = ap (λ ls. whole_later count port ∷ ls) (all_later count ports)

next_as_before : (count n : ℕ) (ports : List Port) (port : Port) → slice_get ports n ≡ Some port → slice_get (first_later count n ports) n ≡ Some port
next_as_before count zero ports port at = at
next_as_before count (suc n) [] port at = at
next_as_before count (suc n) (p ∷ ports) port at = next_as_before count n ports port at

next_later : (count n : ℕ) (ports : List Port) (port : Port) → slice_get ports n ≡ Some port
    → first_later count (suc n) ports ≡ slice_set (first_later count n ports) n (whole_later count port)
next_later count n [] port at = absurd (clash at)
  where
    clash : None ≡ Some port → ⊥
    clash h = cc
next_later count zero (p ∷ ports) port at = let same : p ≡ port = cc in rw same refl
next_later count (suc n) (p ∷ ports) port at = ap (λ ls. whole_later count p ∷ ls) (next_later count n ports port at)

-- so many ticks of the first n testers
waited_first : (ecu : State) (count : ℕ) (ports : List Port) → 1 ≤ count → count ≤ 60000 → AreQuiet count ports → (n : ℕ) → n ≤ length ports
    → Waited (state_at ecu ports) (state_at (elapse_each ecu n count) (first_later count n ports)) n count
waited_first ecu count ports some most h zero within = waited_none (state_at ecu ports) count
waited_first ecu count ports some most h (suc n) within =
    let found = item_at ports n (omega arith) in
    let port = found.0 in
    let port' = whole_later count port in
    let here = next_as_before count n ports port found.1 in
    let at_first : slice_get (map port_of ports) n ≡ Some (port_of port) = slice_get-map port_of ports n ∙ ap (option_map port_of) found.1 in
    let few = quiet_each (map port_of ports) n count (port_of port) h.quiet at_first in
    let before : ServerView = record { ecu = elapse_each ecu n count; ports = first_later count n ports } in
    let next : ServerView = record { ecu = elapse_each ecu (suc n) count; ports = first_later count (suc n) ports } in
    let one : suc n ≡ n + 1 = omega arith in
    let passed = passed_later (port_of port) count some few (h.rest n port found.1).drained in
    let all = waited_more (state_at ecu ports) (server_of before) (server_of next) n (suc n) count one (waited_first ecu count ports some most h n (omega arith))
    (server_went before next (suc n) n (Ticks count) (Some (entry_of_ticks (suc n) count)) port port' [] one here (next_later count n ports port found.1)
    (record {
      early = h.early n (port_of port) at_first;
      answer = refl;
      goes_on = sym (one_more ecu n (suc n) (suc n) count one one);
      took = ticks_took (port_of port) (port_of port') (suc n) count [] most (later_now count (port_of port)) refl passed;
    })) in
    subst (λ m. Waited (state_at ecu ports) (server_of next) m count) (sym one) all
  where
    item_at : (xs : List Port) (i : ℕ) → i < length xs → (x : Port) × (slice_get xs i ≡ Some x)
    item_at [] i within = absurd (omega (arith, within))
    item_at (x ∷ xs) zero within = (x, refl)
    item_at (x ∷ xs) (suc i) within = item_at xs i (omega (arith, within))

pub waited_all : (ecu : State) (count : ℕ) (ports : List Port) → 1 ≤ count → count ≤ 60000 → AreQuiet count ports
    → Waited (state_at ecu ports) (state_at (elapse_each ecu (length ports) count) (map (λ port. whole_later count port) ports)) (length ports) count
waited_all ecu count ports some most h =
    subst (λ ls. Waited (state_at ecu ports) (state_at (elapse_each ecu (length ports) count) ls) (length ports) count) (all_later count ports)
    (waited_first ecu count ports some most h (length ports) (omega arith))

-- and all are quiet for so much less at most
pub rest_all : (count : ℕ) (ports : List Port) → ((i : ℕ) (port : Port) → slice_get ports i ≡ Some port → IsAtRest port)
    → quiet_of (map port_of ports) ≤ quiet_of (map port_of (map (λ port. whole_later count port) ports)) + count
rest_all count [] rest = omega arith
rest_all count (port ∷ ports) rest =
    let here = port_rest_left count (port_of port) (rest zero port refl).drained in
    let others = rest_all count ports (λ i p at. rest (suc i) p at) in
    omega (arith, here, others)

-- what is seen of lazy ports
abbrev pub seen_ports : ℕ → List LazyPort → List Port
seen_ports passed ports = map (λ lazy. caught_up passed lazy) ports

pub seen_rest : (passed : ℕ) (ports : List LazyPort) → AreLazy passed ports
    → (i : ℕ) (port : Port) → slice_get (seen_ports passed ports) i ≡ Some port → IsAtRest port
seen_rest passed ports h i port at =
    let t = map_cases (λ lazy. caught_up passed lazy) ports i port at in
    let lazy = h i t.0 t.1 in
    subst IsAtRest (sym t.2) (rest_later (passed - t.0.taken) t.0.port lazy.rest lazy.idle)

pub are_quiet : (passed count : ℕ) (ports : List LazyPort) (seen : List Port) → seen_ports passed ports ≡ seen → AreLazy passed ports
    → count < quiet_of (map port_of seen) → AreEarly (map port_of seen) → AreQuiet count (seen_ports passed ports)
are_quiet passed count ports seen is h quiet early = record {
  rest = seen_rest passed ports h;
  quiet = subst (λ ls. count < quiet_of (map port_of ls)) (sym is) quiet;
  early = subst (λ ls. AreEarly (map port_of ls)) (sym is) early;
}

pub all_passed : (passed passed' count : ℕ) (ports : List LazyPort) → passed' ≡ min (passed + count) last_tick → AreLazy passed ports → 1 ≤ count → count ≤ 60000
    → AreQuiet count (seen_ports passed ports) → (i : ℕ) (lazy : LazyPort) → slice_get ports i ≡ Some lazy → HasPassed passed passed' count lazy
all_passed passed passed' count ports is h some most quiet i lazy at =
    let seen = seen_ports passed ports in
    let there : slice_get (map port_of seen) i ≡ Some (port_of (caught_up passed lazy)) =
    slice_get-map port_of seen i ∙ ap (option_map port_of) (slice_get-map (λ l. caught_up passed l) ports i ∙ ap (option_map (λ l. caught_up passed l)) at) in
    has_passed passed passed' count lazy is (h i lazy at) some most
    (quiet_each (map port_of seen) i count (port_of (caught_up passed lazy)) quiet.quiet there) (quiet.early i (port_of (caught_up passed lazy)) there)

pub seen_passed : (passed passed' count : ℕ) (ports : List LazyPort)
    → ((i : ℕ) (lazy : LazyPort) → slice_get ports i ≡ Some lazy → HasPassed passed passed' count lazy)
    → seen_ports passed' ports ≡ map (λ port. whole_later count port) (seen_ports passed ports)
seen_passed passed passed' count [] h = refl
seen_passed passed passed' count (lazy ∷ ports) h =
    ap₂ (λ (l : Port) (ls : List Port). l ∷ ls) (h zero lazy refl).seen (seen_passed passed passed' count ports (λ i l at. h (suc i) l at))

-- a port that has caught up is written in its place
pub set_seen : (passed i : ℕ) (ports : List LazyPort) (lazy : LazyPort) → lazy.taken ≡ passed → lazy.port.link.state.now ≤ last_tick
    → seen_ports passed (slice_set ports i lazy) ≡ slice_set (seen_ports passed ports) i lazy.port
set_seen passed i ports lazy taken told =
    map-set (λ l. caught_up passed l) ports i lazy ∙ ap (λ v. slice_set (seen_ports passed ports) i v) (seen_caught passed lazy taken told)

pub set_lazy : (passed i : ℕ) (ports : List LazyPort) (lazy : LazyPort) → AreLazy passed ports → IsLazy passed lazy → AreLazy passed (slice_set ports i lazy)
set_lazy passed i ports lazy h one = λ j l at. elim (set_cases ports i j lazy l at) [
  | inl p ↦ subst (λ x. IsLazy passed x) (sym p.1) one
  | inr p ↦ h j l p.1
]

-- ---- an event of a port that has caught up

told_on : (now : ℕ) (e : Event) → now ≤ last_tick → now ≤ time_after now e
told_on now (Ticks n) told = omega (arith, told)
told_on now (Physical bytes) told = omega arith
told_on now (Functional bytes) told = omega arith

-- its clock doesn't go back
pub told_after : {X U V : Type 0} (keeps : X → State → ℕ → Entry → X → Type 0) (unkept : X → X → Type 0) (ecu ecu' : State) (old new : PortState) (keeper keeper' : X) (who : ℕ) (e : Event)
    (out out' : List Sent) (r : Result U V) → old.link.now ≤ last_tick
    → OnOk r (TesterTook keeps ecu ecu' old new keeper keeper' who e out out') → OnErr r (TookNothing unkept ecu ecu' old new keeper keeper' out out')
    → (old.link.now ≤ new.link.now) × (new.link.now ≤ last_tick)
told_after keeps unkept ecu ecu' old new keeper keeper' who e out out' (Ok x) told took err =
    let went = took.sent.holds in
    let on = told_on old.link.now e told in
    (omega (arith, on, went.took.time), omega (arith, went.early, went.took.most))
told_after keeps unkept ecu ecu' old new keeper keeper' who e out out' (Err y) told took err =
    let same : new.link.now ≡ old.link.now = ap (λ (l : PortState). l.link.now) err.0 in
    (omega (arith, same), omega (arith, same, told))

-- what the server is seen to be then
pub seen_after : (passed i : ℕ) (ports : List LazyPort) (lazy : LazyPort) → lazy.taken ≡ passed → (told : lazy.port.link.state.now ≤ last_tick) (ecu : State)
    → state_at ecu (seen_ports passed (slice_set ports i lazy)) ≡ state_at ecu (slice_set (seen_ports passed ports) i lazy.port)
seen_after passed i ports lazy taken told ecu = ap (state_at ecu) (set_seen passed i ports lazy taken told)

pub caught_told : (passed : ℕ) (lazy : LazyPort) (port : Port) → port ≡ caught_up passed lazy → port.link.state.now ≤ last_tick
caught_told passed lazy port is =
    let clock = ap (λ (p : Port). p.link.state.now) is ∙ later_now (passed - lazy.taken) (port_of lazy.port) in
    omega (arith, clock)

-- a port stands as it is seen
pub seen_at : (passed i j : ℕ) (ports : List LazyPort) (lazy : LazyPort) (seen : List Port) → seen_ports passed ports ≡ seen → j ≡ i
    → slice_get ports i ≡ Some lazy → slice_get seen j ≡ Some (caught_up passed lazy)
seen_at passed i j ports lazy seen is same at =
    sym (ap (λ ls. slice_get ls j) is) ∙ (ap (λ k. slice_get (seen_ports passed ports) k) same
    ∙ (slice_get-map (λ l. caught_up passed l) ports i ∙ ap (option_map (λ l. caught_up passed l)) at))
