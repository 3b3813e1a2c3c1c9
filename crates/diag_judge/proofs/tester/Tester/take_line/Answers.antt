use Rattle.std.proofs.Common.{◌≡◌, ℕ, None, List, Option, ap, subst, sym, rules}
use Rattle.std.specs.Prelude.{option_copied}
use Rattle.diag_judge.specs.Judging.{JudgesLine, bytes_in}
use Rattle.diag_judge.proofs.Lines.{idle_judged}
use Rattle.diag_judge.proofs.tester.Tester.take_line.Goals as goal

pub returns-then-is_idle-clause-judges : goal.returns-then-is_idle-clause-judges
returns-then-is_idle-clause-judges c =
    let own = c.args.self.now in
    let judged = c.args.judged.now.items in
    let none : c.args.frame ≡ None = search rules in
    let is : bytes_in (option_copied c.args.frame) ≡ None = ap (λ f. bytes_in (option_copied f)) none in
    subst
    (λ (frame : Option (List ℕ)). JudgesLine c.args.setup.now c.args.at c.args.who own own judged judged c.args.span frame)
    (sym is)
    (idle_judged c.args.setup.now c.args.at c.args.who own judged c.args.span (c.is_idle.ensures.0 c.if-is_idle.true).1 (c.is_idle.ensures.0 c.if-is_idle.true).0)
