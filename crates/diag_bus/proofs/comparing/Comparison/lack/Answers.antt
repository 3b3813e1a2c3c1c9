use Rattle.std.proofs.Common.{sym, ◌∙◌}
use Rattle.diag_bus.proofs.Ends.{front_is, lack_is}
use Rattle.diag_bus.proofs.comparing.Comparison.lack.Goals as goal

pub returns : goal.returns
returns c = λ recorded expected h same.
    front_is c.args.self.now.behind.items c.front.result c.front.ensures.item ∙ sym (lack_is c.args.self.now recorded expected h same)
