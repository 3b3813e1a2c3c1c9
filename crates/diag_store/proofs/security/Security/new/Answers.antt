use Rattle.std.proofs.Common.{sym, rules}
use Rattle.std.proofs.lemmas.List.Elements.{All-same}
use Rattle.diag_setup.specs.Fits.{LevelFits}
use Rattle.diag_store.proofs.SecurityLemmas.{opening-is_security}
use Rattle.diag_store.proofs.security.Security.new.Goals as goal

pub invariant_of-result : goal.invariant_of-result
invariant_of-result c =
    let levels = All-same LevelFits c.args.setup.now.levels c.levels.result.now (sym c.levels.ensures.same) c.levels.ensures.fit in
    rw (c.in_ok-levels.ensures, c.levels.ensures.same, c.raw-raw.ensures.same) (opening-is_security c.args.setup.now c.raw-raw.ensures.fits levels)

pub returns : goal.returns
returns c = search rules
