use Rattle.std.proofs.Common.{arith, rules}
use Rattle.diag_can.proofs.FdLines.{ends_in, fd_frame_is, passed_over}
use Rattle.diag_can.proofs.usual.fd_frame_from.Goals as goal

pub new-requires : goal.new-requires
new-requires c = ends_in c.args.line.now c.args.place c.requires (omega (arith, c.if-digits-eq1.false))

pub returns-then-not-is_fd_among : goal.returns-then-not-is_fd_among
returns-then-not-is_fd_among c = passed_over c.args.line.now c.args.place c.requires c.args.known.now c.args.id (search rules)

pub returns : goal.returns
returns c =
    let made = c.new.ensures in
    rw made (fd_frame_is c.args.line.now c.args.place c.requires (omega (arith, c.if-digits-eq1.false)) c.args.known.now c.args.id (search rules) (search rules))
