use Rattle.std.proofs.Common.{Some, [], refl, sym}
use Rattle.diag_exchange.specs.declared.happening.Happening.TheVariants.{Began}
use Rattle.diag_exchange.proofs.Taking.{took_as}
use Rattle.diag_exchange.proofs.exchanges.Exchanges.begin.Goals as goal

pub returns-clause-took : goal.returns-clause-took
returns-clause-took c = λ hs s.
    let both = took_as c.args.self.now.live.items c.args.self.now.coming (Began c.args.start) c.hear.new.live.items (Some c.args.start) [] [] c.requires hs s
    c.hear.ensures.items refl refl in
    (both.0, sym both.1)
