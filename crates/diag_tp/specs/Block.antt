-- Whether a block is under way on a link.
use Rattle.std.specs.Prelude.{Bool}
use Rattle.diag_sides.specs.Block.{is_in_block}
use Rattle.diag_tp.specs.State.{LinkState}

-- a ConsecutiveFrame of a reply is still to go, behind its separation time
abbrev pub link_in_block : LinkState → Bool
link_in_block link = is_in_block link.sender.current
