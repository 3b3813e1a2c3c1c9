use Rattle.std.proofs.Common.{ℕ, ◌+◌, List, sym, subst}
use Rattle.diag_gate.specs.Seats.{SeatView, Gave}
use Rattle.diag_workers.specs.Seating.{Out}
use Rattle.diag_workers.proofs.Outs.{out_more}
use Rattle.diag_workers.proofs.seating.give_out.Goals as goal

pub loop-k-preserved : goal.loop-k-preserved
loop-k-preserved c =
    let gave = subst (λ (t : ℕ). Gave c.loop-k.host c.split.new.host t c.in-Some-split.seat) c.in-Some.ensures.same c.in-Some-split.ensures.some in
    subst (λ (l : List SeatView). Out c.args.host.now c.split.new.host (c.loop-k.k + 1) l) (sym c.in_ok-push.ensures.items)
    (out_more c.args.host.now c.loop-k.host c.split.new.host c.loop-k.k c.loop-k.seats.items c.in-Some-split.seat c.loop-k.invariant gave)
