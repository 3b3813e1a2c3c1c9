use Rattle.std.proofs.Common.{ap, length, rules, subst}
use Rattle.diag_desk.specs.Fault.{FaultAt}
use Rattle.diag_desk.specs.Following.{TextDiffers}
use Rattle.diag_desk.proofs.Pieces.{unended_header, unended_line, whole_text}
use Rattle.diag_desk.proofs.following.TextReplay.finish.Goals as goal

pub returns-in-Some-clause-line : goal.returns-in-Some-clause-line
returns-in-Some-clause-line c = λ n is setup seen h. subst (FaultAt _) (cc is) (h.fault c.in-Some.n c.in-Some.is c.args.begun.now)

pub returns-then-not-headed-clause-line : goal.returns-then-not-headed-clause-line
returns-then-not-headed-clause-line c = λ n is setup seen h.
    subst (FaultAt _) (cc is) (unended_header setup c.args.self (search rules) (search rules) seen h c.args.begun.now c.requires.line)

pub returns-then-not-is_empty-clause-line : goal.returns-then-not-is_empty-clause-line
returns-then-not-is_empty-clause-line c = λ n is setup seen h.
    subst (FaultAt _) (cc is)
    (unended_line setup c.args.self seen c.args.begun.now ((h.well (search rules)).headed (search rules)) c.requires.line
    (λ empty. let none = ap length empty in search rules))

pub returns-in-Some-differs-clause-differs : goal.returns-in-Some-differs-clause-differs
returns-in-Some-differs-clause-differs c = λ n is setup seen h.
    let at = (h.well (search rules)).headed (search rules) in
    subst (TextDiffers setup _) (cc is) (record {
      entries = at.past;
      journal = at.follows.journal;
      read = whole_text setup c.args.self seen c.args.begun.now at (search rules);
      at = at.follows.play.differs c.in-Some-differs.n c.in-Some-differs.is;
    })
