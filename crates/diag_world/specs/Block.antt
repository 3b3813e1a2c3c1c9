-- Whether a block is under way at a server.
use Rattle.std.specs.Prelude.{Bool, List}
use Rattle.std.specs.List.{list_any}
use Rattle.diag_port.specs.Block.{port_in_block}
use Rattle.diag_port.specs.Port.{PortState}

-- to some tester a ConsecutiveFrame of a reply is still to go, behind its separation time
abbrev pub some_in_block : List PortState → Bool
some_in_block ports = list_any port_in_block ports
