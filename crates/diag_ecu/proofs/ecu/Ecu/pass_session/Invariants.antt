use Rattle.std.proofs.Common.{◌≡◌}
use Rattle.diag_ecu.specs.Elapse.{session_elapsed}
use Rattle.diag_ecu.proofs.ecu.Ecu.pass_session.Given as goal

-- what is left of the time makes the same state
abbrev pub invariant-loop-left : goal.invariant-loop-left
invariant-loop-left l = session_elapsed l.self l.left ≡ session_elapsed l.fn.self l.count

abbrev pub decreases-loop-left : goal.decreases-loop-left
decreases-loop-left l = l.left
