use Rattle.std.proofs.Common.{◌≡◌, [], ◌∷◌, ◌++◌, Option, Some, List, rules, sym, ap, ◌∙◌, subst}
use Rattle.atomic_table.specs.Table.{opening}
use Rattle.diag_desk.specs.Legal.{Run}
use Rattle.diag_gate.specs.Views.{starting}
use Rattle.diag_gate.specs.Rule.{Kept}
use Rattle.diag_gate.proofs.Keeps.{begins}
use Rattle.diag_gate.proofs.gate.Gate.new.Goals as goal

pub new-requires-2 : goal.new-requires-2
new-requires-2 c =
    let items : c.push_reserved.new.self.items ≡ Some c.in_ok-desk.desk ∷ [] =
    c.push_reserved.ensures.items ∙ ap (λ (l : List (Option Run)). l ++ Some c.in_ok-desk.desk ∷ []) c.in_ok-slots.ensures.items in
    subst (λ (x : List (Option Run) × Run). Kept (opening (0 ∷ []) x.0 (starting x.1))) (λ i. (sym items i, sym c.of-key.ensures i))
    (begins c.in_ok-desk.desk c.lawful.ensures.legal)

pub returns-in-Ok : goal.returns-in-Ok
returns-in-Ok c = search rules
