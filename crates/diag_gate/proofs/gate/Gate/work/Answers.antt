use Rattle.diag_gate.proofs.Steps.{worked_is, behind_is}
use Rattle.diag_gate.proofs.gate.Gate.work.Goals as goal

pub returns-clause-answer : goal.returns-clause-answer
returns-clause-answer c =
    let p = c.put.ensures in
    worked_is c.args.who c.args.place.now.spot.me c.put.new.place.spot.me c.args.desk c.step-answer.new.self _ _ _ _ c.requires.held p.legal p.put p.gate
    c.args.step.now c.step-answer.result c.step-answer.new.after_ms p.delay c.step-answer.ensures.ok c.step-answer.ensures.delay
    c.step-answer.ensures.err c.step-answer.ensures.full c.lawful.ensures.limit

pub returns-clause-behind : goal.returns-clause-behind
returns-clause-behind c =
    let p = c.put.ensures in
    behind_is c.args.who c.args.place.now.spot.me c.put.new.place.spot.me c.args.desk c.step-answer.new.self _ _
    c.args.place.now.after_ms c.put.new.place.after_ms c.requires.held p.legal p.put p.gate c.args.step.now c.step-answer.result c.step-answer.ensures.ok
