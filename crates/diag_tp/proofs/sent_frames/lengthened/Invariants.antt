use Rattle.std.proofs.Common.{◌≡◌, ◌≤◌, ◌+◌, length, take}
use Rattle.std.specs.Prelude.{vec_capacity}
use Rattle.diag_tp.proofs.sent_frames.lengthened.Given as goal

-- the first so many are there, and room for all
abbrev pub invariant-loop-sent : goal.invariant-loop-sent
invariant-loop-sent l =
    (l.longer.items ≡ take l.sent-index l.list) × (length l.list + l.fn.count ≤ vec_capacity l.longer)
