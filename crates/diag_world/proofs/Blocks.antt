-- Whether a block is under way: ticks in which a port does nothing leave that as it is.
use Rattle.std.proofs.Common.{◌≡◌, ◌||◌, ℕ, ◌-◌, Option, Some, None, List, [], ◌∷◌, map, refl, sym, ap₂}
use Rattle.std.specs.List.{list_any}
use Rattle.diag_sides.specs.declared.sending.Phase.{Phase}
use Rattle.diag_sides.specs.declared.sending.Phase.TheVariants.{AwaitsFlow, InBlock}
use Rattle.diag_sides.specs.declared.sending.Sending.{Sending}
use Rattle.diag_sides.specs.Block.{is_in_block, waits_for_gap}
use Rattle.diag_sides.specs.Quiet.{current_later, phase_later}
use Rattle.diag_tp.specs.Link.{quiet_later}
use Rattle.diag_port.specs.Block.{port_in_block}
use Rattle.diag_port.specs.Port.{port_of}
use Rattle.diag_world.specs.Block.{some_in_block}
use Rattle.diag_world.specs.LazyPort.{caught_up}
use Rattle.diag_world.specs.declared.lazy_port.LazyPort.{LazyPort}

phase_stays : (n : ℕ) (p : Phase) → waits_for_gap (phase_later n p) ≡ waits_for_gap p
phase_stays n (AwaitsFlow ticks) = refl
phase_stays n (InBlock rest gap ticks) = refl

current_stays : (n : ℕ) (o : Option Sending) → is_in_block (current_later n o) ≡ is_in_block o
current_stays n None = refl
current_stays n (Some c) = phase_stays n c.phase

-- at a port that catches up
pub caught_in_block : (passed : ℕ) (lazy : LazyPort) → port_in_block (port_of (caught_up passed lazy)) ≡ port_in_block (port_of lazy.port)
unfolding quiet_later
caught_in_block passed lazy = current_stays (passed - lazy.taken) lazy.port.link.state.sender.current

-- and at some of them
pub some_caught : (passed : ℕ) (ports : List LazyPort)
    → list_any (λ lazy. port_in_block (port_of lazy.port)) ports ≡ some_in_block (map port_of (map (λ lazy. caught_up passed lazy) ports))
some_caught passed [] = refl
some_caught passed (lazy ∷ ports) = ap₂ (λ a b. a || b) (sym (caught_in_block passed lazy)) (some_caught passed ports)
