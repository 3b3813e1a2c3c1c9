use Rattle.std.proofs.Common.{refl}
use Rattle.diag_can.proofs.UsualLines.{says}
use Rattle.diag_can.proofs.usual.said_from.Goals as goal

pub usual-requires : goal.usual-requires
usual-requires c =
    let framed = c.requires.usual.framed in
    record { long = framed.long; seconds = framed.seconds; fraction = framed.fraction }

pub returns : goal.returns
returns c =
    let moment = c.usual.ensures in
    let frame = c.frame_from.ensures in
    rw (moment, frame) (says c.args.line.now c.args.place 3 c.requires.usual refl c.args.id c.requires.id)
