-- Whether a block is under way at a port.
use Rattle.std.specs.Prelude.{Bool}
use Rattle.diag_tp.specs.Block.{link_in_block}
use Rattle.diag_port.specs.Port.{PortState}

-- a ConsecutiveFrame of a reply is still to go, behind its separation time
abbrev pub port_in_block : PortState → Bool
port_in_block port = link_in_block port.link
