use Rattle.std.proofs.Common.{rules}
use Rattle.diag_gate.proofs.Delays.{told_of}
use Rattle.diag_gate.proofs.desk_box.DeskBox.step.Goals as goal

pub returns-clause-ok : goal.returns-clause-ok
returns-clause-ok c = search rules

pub returns-clause-delay : goal.returns-clause-delay
returns-clause-delay c = told_of c.args.self.now c.step.new.self c.args.who c.args.step.now c.in_ok-reply.reply c.after_ms.result (search rules) (search rules)
