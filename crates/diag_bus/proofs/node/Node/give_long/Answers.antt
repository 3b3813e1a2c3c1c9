use Rattle.std.proofs.Common.{List, ℕ, length, refl, ap, sym, ◌∙◌}
use Rattle.diag_can.specs.FrameText.{bytes_or_none}
use Rattle.diag_bus.specs.RequestIds.{given}
use Rattle.diag_bus.proofs.Passing.{passed_as}
use Rattle.diag_bus.proofs.node.Node.give_long.Goals as goal

pub returns : goal.returns
returns g c = λ bytes is.
    let setup = c.args.setup.now in
    let n = length setup.testers in
    passed_as _ _ refl (ap (λ (bytes : List ℕ). given setup c.args.id n c.args.owner bytes) (c.long.ensures ∙ c.as_slice.ensures.bytes ∙ ap bytes_or_none (sym c.set_digits.ensures ∙ is)))
    c.give_bytes.ensures
