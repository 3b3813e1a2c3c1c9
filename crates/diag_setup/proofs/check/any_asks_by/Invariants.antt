use Rattle.std.proofs.Common.{◌≡◌, length}
use Rattle.std.specs.List.{All, list_any}
use Rattle.diag_setup.specs.Fits.{TesterFits}
use Rattle.diag_setup.specs.Setup.{asks_by}
use Rattle.diag_setup.proofs.check.any_asks_by.Given as goal

-- none so far does
abbrev pub invariant-loop-rest : goal.invariant-loop-rest
invariant-loop-rest l =
    (list_any (asks_by l.fn.ids l.fn.shared) l.rest ≡ list_any (asks_by l.fn.ids l.fn.shared) l.fn.testers) × All TesterFits l.rest

abbrev pub decreases-loop-rest : goal.decreases-loop-rest
decreases-loop-rest l = length l.rest
