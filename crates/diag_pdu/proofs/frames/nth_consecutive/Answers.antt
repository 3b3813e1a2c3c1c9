use Rattle.std.proofs.Common.{◌∙◌, arith}
use Rattle.diag_pdu.proofs.CutFrames.{eight_at}
use Rattle.diag_pdu.proofs.frames.nth_consecutive.Goals as goal

pub returns-in-Some : goal.returns-in-Some
returns-in-Some c =
    c.full.ensures
    ∙ eight_at c.args.message.now c.args.pad c.args.i c.min.result c.in-Some.eight.now
    (omega (arith, c.min.ensures, c.from.ensures, c.head_size.ensures, c.from-2.ensures)) c.in-Some.ensures.cases
