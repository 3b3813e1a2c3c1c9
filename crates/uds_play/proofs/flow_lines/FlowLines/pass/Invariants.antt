use Rattle.std.proofs.Common.{◌≤◌, length}
use Rattle.uds_play.proofs.flow_lines.FlowLines.pass.Given as goal

abbrev pub invariant-loop-first : goal.invariant-loop-first
invariant-loop-first l = length l.rest ≤ length l.piece

abbrev pub decreases-loop-first : goal.decreases-loop-first
decreases-loop-first l = length l.rest
