use Rattle.std.proofs.Common.{◌≡◌, ℕ, List, ap, sym, subst, ◌∙◌}
use Rattle.diag_pdu.specs.Kind.{IsRead, kind, says}
use Rattle.diag_listen.proofs.Hearing.{hears_frame, then_ok}
use Rattle.diag_listen.proofs.listener.Listener.take.Goals as goal

pub returns-clause-heard : goal.returns-clause-heard
returns-clause-heard c =
    let max = c.args.self.now.setup.max_request in
    let k = says c.read-pci.result in
    let lent : c.as_slice.result.now ≡ c.args.frame.now = c.as_slice.ensures.bytes in
    let is : k ≡ kind c.args.frame.now max = c.read-pci.ensures.kind ∙ ap (λ (b : List ℕ). kind b max) lent in
    let whole : IsRead max k = subst (IsRead max) (sym c.read-pci.ensures.kind) c.read-pci.ensures.read in
    then_ok c.take_pci.result _ _ c.take_pci.ensures.moves (λ moves.
    hears_frame c.args.self.now c.take_pci.new.self c.args.over.now.items c.take_pci.new.over.items c.args.at c.args.frame.now k
    is whole c.take_pci.ensures.setup moves)
