use Rattle.diag_can.proofs.FdLines.{fd_says}
use Rattle.diag_can.proofs.usual.fd_said.Goals as goal

pub usual-requires : goal.usual-requires
usual-requires c =
    let framed = c.requires.fd.framed in
    record { long = framed.long; seconds = framed.seconds; fraction = framed.fraction }

pub returns : goal.returns
returns c =
    let moment = c.usual.ensures in
    rw moment (fd_says c.args.line.now c.args.place c.requires.fd c.args.known.now c.args.id c.in_ok-frame.frame c.requires.id c.in_ok-frame.ensures)
