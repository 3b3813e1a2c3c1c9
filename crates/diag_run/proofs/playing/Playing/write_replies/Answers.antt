use Rattle.std.proofs.Common.{◌-◌, rules}
use Rattle.diag_run.proofs.Written.{wrote_none}
use Rattle.diag_run.proofs.playing.Playing.write_replies.Goals as goal

pub returns-then-is_empty-clause-lines : goal.returns-then-is_empty-clause-lines
returns-then-is_empty-clause-lines c =
    let self = c.args.self.now in
    wrote_none self.lines.items (c.args.who - 1) self.out.items (c.is_empty.ensures.0 c.if-is_empty.true)

pub returns-clause-lines : goal.returns-clause-lines
returns-clause-lines c = search rules
