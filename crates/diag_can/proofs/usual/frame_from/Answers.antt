use Rattle.diag_can.proofs.UsualLines.{ends}
use Rattle.diag_can.proofs.usual.frame_from.Goals as goal

pub new-requires : goal.new-requires
new-requires c = ends c.args.line.now c.args.place c.args.width c.requires
