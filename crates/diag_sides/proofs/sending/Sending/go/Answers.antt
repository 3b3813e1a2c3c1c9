use Rattle.std.proofs.Common.{arith}
use Rattle.diag_pdu.proofs.CutFrames.{few_frames}
use Rattle.diag_sides.proofs.sending.Sending.go.Goals as goal

pub overflow_add-next : goal.overflow_add-next
overflow_add-next c =
    let few = few_frames c.args.tx_dl c.args.self.now.message (rw c.bytes-len.ensures.same at c.bytes-len.ensures.fits.1) in omega (arith, few, c.requires.sound)
