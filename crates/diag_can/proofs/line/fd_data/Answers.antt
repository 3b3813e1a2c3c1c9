use Rattle.std.proofs.Common.{arith, rules, sym}
use Rattle.diag_can.proofs.FrameTexts.{fd_frame-is, front_ends}
use Rattle.diag_can.proofs.line.fd_data.Goals as goal

pub new-requires : goal.new-requires
new-requires c =
    let front = c.split_at.ensures.front in
    rw front (front_ends c.args.data.now c.hex_run-count.result (search rules) c.if-count-gt128.false (omega (arith, c.if-count-eq1.false)))

pub returns : goal.returns
returns c =
    let front = c.split_at.ensures.front in
    let made = c.new.ensures in
    rw (made, front)
    (sym (fd_frame-is c.args.data.now c.hex_run-count.result (search rules) c.if-count-gt128.false (omega (arith, c.if-count-eq1.false)) c.args.id
    (search rules) (search rules)))
