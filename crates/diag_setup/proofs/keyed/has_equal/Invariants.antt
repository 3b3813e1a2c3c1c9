use Rattle.std.proofs.Common.{◌≡◌, length}
use Rattle.std.specs.List.Sorted.{IsNonDecreasingBy}
use Rattle.diag_setup.specs.Rows.{has_repeat}
use Rattle.diag_setup.specs.Setup.{itself}
use Rattle.diag_setup.proofs.keyed.has_equal.Given as goal

-- what is left decides
abbrev pub invariant-loop-rest : goal.invariant-loop-rest
invariant-loop-rest l = record {
  rises : IsNonDecreasingBy itself l.rest;
  same : has_repeat itself l.rest ≡ has_repeat itself l.fn.numbers;
}

abbrev pub decreases-loop-rest : goal.decreases-loop-rest
decreases-loop-rest l = length l.rest
