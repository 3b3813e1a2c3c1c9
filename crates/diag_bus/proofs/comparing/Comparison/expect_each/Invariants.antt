use Rattle.std.proofs.Common.{take}
use Rattle.diag_bus.specs.Comparing.{Expects}
use Rattle.diag_bus.specs.Verdict.{expected_of}
use Rattle.diag_bus.proofs.comparing.Comparison.expect_each.Given as goal

abbrev pub invariant-loop-index : goal.invariant-loop-index
invariant-loop-index l = Expects l.initial.self l.self (expected_of (take l.index l.sent.items))
