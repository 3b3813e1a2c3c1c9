use Rattle.std.proofs.Common.{List, ℕ, length, refl, ap, sym, ap₂, ◌∙◌}
use Rattle.diag_bus.specs.RequestIds.{given}
use Rattle.diag_bus.proofs.Passing.{passed_as, passed_none, stays_kept}
use Rattle.diag_bus.proofs.node.Node.give_frame.Goals as goal

pub returns-in-Nobody : goal.returns-in-Nobody
returns-in-Nobody g c =
    passed_as _ _ refl (ap (λ o. given c.args.setup.now c.args.frame.now.id (length c.args.setup.now.testers) o c.args.frame.now.bytes) (sym c.in-Nobody.is))
    (passed_none _ _ (stays_kept g.S.Sink.is_for g.S.Sink.aim) c.args.self.now c.args.sink.now 0)

pub returns : goal.returns
returns g c =
    let setup = c.args.setup.now in
    let n = length setup.testers in
    passed_as _ _ refl (ap₂ (λ id (bytes : List ℕ). given setup id n c.args.owner bytes) c.id-2.ensures (c.short.ensures ∙ c.bytes-bytes.ensures))
    c.give_bytes.ensures

pub returns-then-is_long : goal.returns-then-is_long
returns-then-is_long g c =
    let setup = c.args.setup.now in
    let n = length setup.testers in
    passed_as _ _ refl (ap (λ id. given setup id n c.args.owner c.args.frame.now.bytes) c.id.ensures) (c.give_long.ensures c.args.frame.now.bytes c.digits.ensures.is)
