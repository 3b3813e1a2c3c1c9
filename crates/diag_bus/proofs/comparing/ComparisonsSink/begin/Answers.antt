use Rattle.std.proofs.Common.{refl, ◌∙◌}
use Rattle.diag_bus.proofs.Recordings.{nothing_yet}
use Rattle.diag_bus.proofs.comparing.ComparisonsSink.begin.Goals as goal

pub returns-clause-begun : goal.returns-clause-begun
returns-clause-begun c =
    let testers = c.in_ok-testers.ensures in
    let many = testers.many ∙ c.testers.ensures.same in
    ((many, c.in_ok-responses.ensures), nothing_yet c.args.setup.now _ refl many testers.each)
