use Rattle.std.specs.Prelude.{◌≡◌, drop}
use Rattle.diag_pdu.specs.declared.setup.LinkSetup.{LinkSetup}
use Rattle.diag_sides.specs.Sender.{started}
use Rattle.diag_sides.proofs.queue.Queue.still_waiting.Given as goal

-- the replies before are of a single frame
abbrev pub invariant-loop-first : goal.invariant-loop-first
invariant-loop-first l = (s : LinkSetup) → s.framing.tx_dl ≡ l.self.tx_dl → (started s l.self.replies).left.waiting ≡ (started s (drop l.first l.self.replies)).left.waiting
