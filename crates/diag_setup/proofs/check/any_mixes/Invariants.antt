use Rattle.std.proofs.Common.{◌≡◌, length}
use Rattle.std.specs.List.{All, list_any}
use Rattle.diag_setup.specs.Fits.{TesterFits}
use Rattle.diag_setup.specs.Setup.{mixes_among}
use Rattle.diag_setup.proofs.check.any_mixes.Given as goal

-- none so far does
abbrev pub invariant-loop-rest : goal.invariant-loop-rest
invariant-loop-rest l =
    (list_any (mixes_among l.fn.testers l.fn.shared) l.rest ≡ list_any (mixes_among l.fn.testers l.fn.shared) l.fn.testers) × All TesterFits l.rest

abbrev pub decreases-loop-rest : goal.decreases-loop-rest
decreases-loop-rest l = length l.rest
