use Rattle.std.proofs.Common.{◌≡◌, ◌≤◌, ◌+◌, ◌++◌, List, length}
use Rattle.diag_can.specs.Event.{Event as AnEvent}
use Rattle.diag_pdu.specs.declared.setup.LinkSetup.{LinkSetup}
use Rattle.diag_tp.specs.declared.sent.Sent.{Sent}
use Rattle.diag_tp.specs.Moments.{last_moment}
use Rattle.diag_tp.specs.Wire.{Placed}
use Rattle.diag_tp.specs.Link.{StandsFor, pending}
use Rattle.diag_port.specs.Late.{released, still}
use Rattle.diag_port.specs.Port.{unsent_of}
use Rattle.diag_port.proofs.passing.release.Given as goal

-- some of what is due was given to the link, and the rest is still to be
abbrev pub invariant-loop-later : goal.invariant-loop-later
invariant-loop-later l = record {
  now : l.now ≡ l.initial.port.link.state.now;
  pace : l.port.pace ≡ l.initial.port.pace;
  time : l.port.link.state.now ≡ l.initial.port.link.state.now;
  setup : l.port.link.state.setup ≡ l.initial.port.link.state.setup;
  stands : (s : LinkSetup) (E : List AnEvent) (A : List Placed) (Q : List Sent) → StandsFor s l.initial.port.link.state E A Q
      → (A' : List Placed) × (StandsFor s l.port.link.state E A' Q
      × (A ++ released (last_moment E) l.now l.initial.port.held.messages ≡ A' ++ released (last_moment E) l.now l.port.held.messages));
  held : still l.now l.initial.port.held.messages ≡ still l.now l.port.held.messages;
  rooms : length l.port.held.messages ≤ l.port.link.reply_room;
  due : pending l.port.link.state + length l.port.held.messages
      ≤ pending l.initial.port.link.state + length l.initial.port.held.messages;
  unsent : unsent_of l.port ≤ unsent_of l.initial.port;
}

abbrev pub decreases-loop-later : goal.decreases-loop-later
decreases-loop-later l = length l.port.held.messages
