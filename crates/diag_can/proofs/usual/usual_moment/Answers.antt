use Rattle.std.proofs.Common.{◌+◌, ◌-◌, ◌*◌, ◌∙◌}
use Rattle.diag_can.proofs.Weighing.{moment_weighed}
use Rattle.diag_can.proofs.usual.usual_moment.Goals as goal

pub returns : goal.returns
returns c =
    let required = c.requires in
    let threes = c.threes-a.ensures.value in
    let first = c.from-first.ensures in
    (λ j. (((first j * 1000 + (threes j).0) * 1000 + (threes j).1) * 1000 + (threes j).2) * 1000 + (threes j).3 - 53333333333328)
    ∙ moment_weighed c.args.line.now required.long required.seconds required.fraction
