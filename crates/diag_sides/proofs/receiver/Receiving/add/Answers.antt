use Rattle.std.proofs.Common.{List, ℕ, ◌+◌, ap}
use Rattle.diag_sides.specs.Receiver.{Receiving}
use Rattle.diag_sides.proofs.Parts.{set-next}
use Rattle.diag_sides.proofs.receiver.Receiving.add.Goals as goal

pub returns : goal.returns
returns c =
    let rx_dl = c.self.inside.rx_dl in
    let len = c.self.inside.len in
    let count = c.self.inside.count in
    let held = rw c.in-Growing.is at c.self.invariant in
    let more = rw (← c.self.view_is) at c.requires.more in
    let size = rw (← c.self.view_is) at c.requires.size in
    rw (← c.self.view_is, c.in-Growing.is, c.add_part.ensures.items)
    (ap (λ (bytes : List ℕ). let p : Receiving = record { len = len; rx_dl = rx_dl; count = count + 1; bytes = bytes; silence = 0 } in p)
    (set-next rx_dl len count c.in-Growing.bytes.items c.args.part.now held.0.1 more size))
