use Rattle.diag_can.proofs.Moved.{moved_word}
use Rattle.diag_can.proofs.frame.FrameBytes.last_of.Goals as goal

pub returns : goal.returns
returns c = moved_word c.to_le_bytes.result c.args.count c.args.word c.ranges.word.fits c.requires c.to_le_bytes.ensures
