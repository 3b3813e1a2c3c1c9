use Rattle.std.proofs.lemmas.Option.{IfSome_then}
use Rattle.diag_desk.proofs.UsualLemmas.{hex_joined}
use Rattle.diag_desk.proofs.usual.behind_lent.Goals as goal

pub returns-in-Some-behind_pairs-clause-text : goal.returns-in-Some-behind_pairs-clause-text
returns-in-Some-behind_pairs-clause-text c =
    let lent = c.in-Some.lent in
    let between = c.in-Some-behind_pairs.text.now in
    rw c.in-Some.is (IfSome_then c.behind_hex.result c.behind_hex.ensures (λ x is. hex_joined lent.head lent.value.now c.args.text.now between x.now
    c.in-Some-behind_pairs.ensures is))
