use Rattle.std.proofs.Common.{◌∙◌, arith, subst, sym}
use Rattle.diag_desk.specs.Fault.{FaultAt}
use Rattle.diag_desk.proofs.Pieces.{cut_followed, front_more, front_taken, is_shorter, line_asks, line_fault}
use Rattle.diag_desk.proofs.ReadLemmas.{line_refused, line_wrong}
use Rattle.diag_desk.proofs.following.Follower.take_lines.Goals as goal

pub loop-alloc-smaller-in-Some : goal.loop-alloc-smaller-in-Some
loop-alloc-smaller-in-Some c =
    is_shorter c.args.setup.now c.loop-alloc.self _ c.loop-alloc.rest.now c.in-Some.after.now c.in-Some.ensures.some _
    (c.loop-alloc.invariant.2 c.requires.0 c.requires.1)

pub loop-alloc-preserved-in-Some : goal.loop-alloc-preserved-in-Some
loop-alloc-preserved-in-Some c =
    front_more c.args.setup.now c.loop-alloc.self c.take_usual.new.self c.loop-alloc.rest.now c.in-Some.after.now c.in-Some.ensures.some
    c.in-Some.ensures.version c.args.self.now c.args.text.now c.requires.0 c.requires.1 c.loop-alloc.invariant

pub overflow_add-number : goal.overflow_add-number
overflow_add-number c =
    let at = c.loop-alloc.invariant.2 c.requires.0 c.requires.1 in
    let follows = c.in_default.ensures.none at.past at.follows in
    omega (arith, follows.count, follows.journal.1)

pub returns-in_default-cut-clause-ok : goal.returns-in_default-cut-clause-ok
returns-in_default-cut-clause-ok c =
    front_taken c.args.setup.now c.args.self.now c.loop-alloc.self c.take_usual.new.self c.args.text.now c.loop-alloc.rest.now c.in_default.ensures.version
    c.in_default.ensures.none c.in_default-cut.ensures c.loop-alloc.invariant

pub take-requires : goal.take-requires
take-requires c =
    let at = c.loop-alloc.invariant.2 c.requires.0 c.requires.1 in
    (at.past, c.in_default.ensures.none at.past at.follows)

pub returns-in-Err-clause-memory : goal.returns-in-Err-clause-memory
returns-in-Err-clause-memory c = λ is seen more h.
    line_asks c.args.setup.now c.args.self.now c.loop-alloc.self c.take_usual.new.self c.args.text.now c.loop-alloc.rest.now c.in-Some-cut.line.now
    c.in-Some-cut.after.now c.in_default.ensures.version c.in_default.ensures.none c.in-Some-cut.ensures
    (c.in-Err.ensures.memory (line_refused _ c.in-Err.fault (sym c.at.ensures ∙ cc is))) c.loop-alloc.invariant seen more h

pub returns-in-Err-clause-line : goal.returns-in-Err-clause-line
returns-in-Err-clause-line c = λ n is seen h more.
    let wrong = line_wrong _ n c.in-Err.fault (sym c.at.ensures ∙ is) in
    subst (FaultAt _) wrong.1
    (line_fault c.args.setup.now c.args.self.now c.loop-alloc.self c.take_usual.new.self c.args.text.now c.loop-alloc.rest.now c.in-Some-cut.line.now
    c.in-Some-cut.after.now c.in_default.ensures.version c.in_default.ensures.none c.in-Some-cut.ensures
    (c.in-Err.ensures.wrong wrong.0) c.loop-alloc.invariant seen h more)

pub loop-alloc-smaller : goal.loop-alloc-smaller
loop-alloc-smaller c =
    is_shorter c.args.setup.now c.loop-alloc.self c.take.new.self c.loop-alloc.rest.now c.in-Some-cut.after.now
    (λ past h. cut_followed c.args.setup.now c.loop-alloc.self c.take_usual.new.self c.take.new.self past c.loop-alloc.rest.now c.in-Some-cut.line.now
    c.in-Some-cut.after.now c.in_default.ensures.version c.in-Some-cut.ensures (c.in-Ok.ensures.ok past (c.in_default.ensures.none past h))) _
    (c.loop-alloc.invariant.2 c.requires.0 c.requires.1)

pub loop-alloc-preserved : goal.loop-alloc-preserved
loop-alloc-preserved c =
    front_more c.args.setup.now c.loop-alloc.self c.take.new.self c.loop-alloc.rest.now c.in-Some-cut.after.now
    (λ past h. cut_followed c.args.setup.now c.loop-alloc.self c.take_usual.new.self c.take.new.self past c.loop-alloc.rest.now c.in-Some-cut.line.now
    c.in-Some-cut.after.now c.in_default.ensures.version c.in-Some-cut.ensures (c.in-Ok.ensures.ok past (c.in_default.ensures.none past h)))
    (c.in-Ok.ensures.version ∙ c.in_default.ensures.version) c.args.self.now c.args.text.now c.requires.0 c.requires.1 c.loop-alloc.invariant
