use Rattle.std.proofs.Common.{length}
use Rattle.diag_can.proofs.FdTexts.{IsRead}
use Rattle.diag_can.proofs.fd_bytes.FdBytes.set_digits.Given as goal

abbrev pub invariant-loop-sixteen : goal.invariant-loop-sixteen
invariant-loop-sixteen l = IsRead l.digits l.rest l.self

abbrev pub decreases-loop-sixteen : goal.decreases-loop-sixteen
decreases-loop-sixteen l = length l.rest
