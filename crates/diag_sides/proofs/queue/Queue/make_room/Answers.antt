use Rattle.std.proofs.Common.{rules}
use Rattle.diag_sides.proofs.queue.Queue.make_room.Goals as goal

pub returns-then-len-min-clause-ok : goal.returns-then-len-min-clause-ok
returns-then-len-min-clause-ok c = search rules
