use Rattle.std.proofs.Common.{arith, rules, sym}
use Rattle.diag_can.proofs.FrameTexts.{classic_frame-is, front_ends}
use Rattle.diag_can.proofs.line.classic_frame.Goals as goal

pub new-requires : goal.new-requires
new-requires c =
    let front = c.split_at.ensures.front in
    rw front (front_ends c.args.rest.now c.hex_run-count.result (search rules) (omega (arith, c.if-count-gt16.false)) (omega (arith, c.if-count-eq1.false)))

pub returns : goal.returns
returns c =
    let front = c.split_at.ensures.front in
    let made = c.new.ensures in
    rw (made, front)
    (sym (classic_frame-is c.args.rest.now c.hex_run-count.result (search rules) (omega (arith, c.if-count-gt16.false)) (omega (arith, c.if-count-eq1.false))
    c.args.id c.if-count-gt16.false (search rules)))
