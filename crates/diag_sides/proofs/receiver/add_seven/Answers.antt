use Rattle.std.proofs.Common.{◌≡◌, ◌∷◌, [], ◌++◌, sym, ◌∙◌, arith}
use Rattle.std.proofs.lemmas.Grind.{common_steps}
use Rattle.std.proofs.lemmas.List.{same_from_push}
use Rattle.diag_sides.proofs.receiver.add_seven.Goals as goal

pub returns-clause-items : goal.returns-clause-items
returns-clause-items c =
    let all = c.args.bytes.now.items ++ c.args.seven.now in
    let same : c.extend_from_slice.new.self.items ≡ all ++ 0 ∷ [] = grind (arith, common_steps) in
    (same_from_push c.take_last.new.self.items all c.take_last.result 0 (sym c.take_last.ensures.items ∙ same)).0
