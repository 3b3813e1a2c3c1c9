use Rattle.std.proofs.Common.{arith}
use Rattle.std.proofs.lemmas.List.Sums.{sum_by-le}
use Rattle.diag_pdu.specs.Cut.{frames_of}
use Rattle.diag_sides.proofs.queue.Queue.frames.Goals as goal

pub returns-clause-few : goal.returns-clause-few
returns-clause-few c =
    let held = c.self.invariant in
    let few = sum_by-le (frames_of c.self.inside.tx_dl) 10000 c.self.inside.replies.items held.1 in
    let sum = held.0 in
    let most = held.2 in
    omega arith
