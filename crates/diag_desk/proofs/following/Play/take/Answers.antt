use Rattle.std.proofs.Common.{refl, rules}
use Rattle.diag_desk.specs.Line.{line_entry}
use Rattle.diag_desk.proofs.FollowLemmas.{plays_behind, plays_other, plays_same}
use Rattle.diag_desk.proofs.following.Play.take.Goals as goal

pub returns-then-is_some-clause-ok : goal.returns-then-is_some-clause-ok
returns-then-is_some-clause-ok c = λ past at h.
    plays_behind c.args.setup.now c.args.self.now past (line_entry c.args.line.now) (λ none. search rules) h

pub returns-then-branch-clause-ok : goal.returns-then-branch-clause-ok
returns-then-branch-clause-ok c = λ past at h.
    let yes = rw c.if-branch.true at c.in_ok-plays.ensures.yes in
    plays_same c.args.setup.now c.args.self.now c.plays.new.self past (line_entry c.args.line.now) (search rules) c.in_ok-plays.ensures.differs yes.0
    yes.1 yes.2 h

pub returns-clause-ok : goal.returns-clause-ok
returns-clause-ok c = λ past at h.
    let no = rw c.if-branch.false at c.in_ok-plays.ensures.no in
    plays_other c.args.setup.now c.args.self.now _ past (line_entry c.args.line.now) c.args.number (search rules) refl at no h
