use Rattle.diag_can.proofs.Frames.{eight_filled}
use Rattle.diag_can.proofs.frame.FrameBytes.fill.Goals as goal

pub returns : goal.returns
returns c =
    let here = c.self.view_is in
    rw (← here) (eight_filled c.self.inside.bytes c.self.inside.len c.args.byte c.self.told c.self.invariant)
