use Rattle.std.proofs.Common.{◌≡◌, ◌++◌, ◌≤◌, length, decimal}
use Rattle.diag_desk.proofs.usual.number_front.Given as goal

abbrev pub invariant-loop-rest : goal.invariant-loop-rest
invariant-loop-rest l = record {
  -- what was read of the text, and the rest
  read : l.text ≡ decimal l.number ++ l.rest;
  some : 1 ≤ l.number;
  small : l.number ≤ 60009;
}

abbrev pub decreases-loop-rest : goal.decreases-loop-rest
decreases-loop-rest l = length l.rest
