use Rattle.std.proofs.Common.{◌≡◌, length}
use Rattle.std.specs.List.{All, list_any}
use Rattle.diag_setup.specs.Fits.{TesterFits}
use Rattle.diag_setup.specs.Setup.{mixes_with}
use Rattle.diag_setup.proofs.raw.RawTester.mixes_among.Given as goal

-- none so far does
abbrev pub invariant-loop-rest : goal.invariant-loop-rest
invariant-loop-rest l =
    (list_any (mixes_with l.fn.shared l.fn.self) l.rest ≡ list_any (mixes_with l.fn.shared l.fn.self) l.fn.others) × All TesterFits l.rest

abbrev pub decreases-loop-rest : goal.decreases-loop-rest
decreases-loop-rest l = length l.rest
