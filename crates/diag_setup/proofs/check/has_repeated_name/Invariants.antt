use Rattle.std.proofs.Common.{◌≡◌, length}
use Rattle.diag_setup.specs.Setup.{has_repeated_name}
use Rattle.diag_setup.proofs.check.has_repeated_name.Given as goal

-- what is left decides
abbrev pub invariant-loop-rest : goal.invariant-loop-rest
invariant-loop-rest l = has_repeated_name l.rest ≡ has_repeated_name l.fn.testers

abbrev pub decreases-loop-rest : goal.decreases-loop-rest
decreases-loop-rest l = length l.rest
