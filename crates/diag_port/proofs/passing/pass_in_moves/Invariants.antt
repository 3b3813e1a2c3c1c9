use Rattle.std.proofs.Common.{◌≡◌, ◌+◌, ◌-◌, ◌<◌, ◌≤◌, List, [], ◌∷◌, ◌++◌, min}
use Rattle.diag_can.specs.Event.{Event as AnEvent, Ticks}
use Rattle.diag_pdu.specs.declared.setup.LinkSetup.{LinkSetup}
use Rattle.diag_tp.specs.declared.sent.Sent.{Sent}
use Rattle.diag_tp.specs.Moments.{history, last_time}
use Rattle.diag_tp.specs.Wire.{wire}
use Rattle.diag_tp.specs.Link.{last_tick}
use Rattle.diag_port.specs.Late.{Late, placed_late}
use Rattle.diag_port.specs.Port.{AreWithin, Grew, HasRoomFor, IsAtRest, PortFor, port_of, unsent_of}
use Rattle.diag_port.proofs.passing.pass_in_moves.Given as goal

abbrev pub invariant-loop-left : goal.invariant-loop-left
invariant-loop-left l = record {
  range : l.left ≤ l.fn.count;
  rest : IsAtRest l.port;
  pace : l.port.pace ≡ l.fn.port.pace;
  room : HasRoomFor l.port.link.state (unsent_of l.port) l.out;
  began : l.left ≡ l.fn.count → l.port.link.state.now ≡ l.fn.port.link.state.now;
  time : l.left < l.fn.count → l.port.link.state.now ≡ min (l.fn.port.link.state.now + (l.fn.count - l.left)) last_tick;
  later : l.fn.port.link.state.now ≤ l.port.link.state.now;
  grew : Grew l.fn.out.items l.out.items (λ more. AreWithin l.fn.port.link.state.now l.port.link.state.now more
      × ((s : LinkSetup) (E : List AnEvent) (L : List Late) (Q : List Sent) → PortFor s (port_of l.fn.port) E L Q → last_time E + l.fn.count ≤ last_tick
      → PortFor s (port_of l.port) (E ++ Ticks (l.fn.count - l.left) ∷ []) L (Q ++ more)
      × (l.left < l.fn.count → Q ++ more ≡ wire s (E ++ Ticks (l.fn.count - l.left) ∷ []) (placed_late (history (E ++ Ticks (l.fn.count - l.left) ∷ [])) 0 L))));
}

abbrev pub decreases-loop-left : goal.decreases-loop-left
decreases-loop-left l = l.left
