use Rattle.std.proofs.Common.{◌∷◌, [], refl, arith}
use Rattle.diag_desk.proofs.UsualLemmas.{read_spelled, three_spelled}
use Rattle.diag_desk.proofs.usual.read_digits.Goals as goal

pub returns : goal.returns
returns c =
    let high = c.pair_value-high.result in
    let low = c.pair_value-low.result in
    three_spelled (34 ∷ high ∷ low ∷ []) (32 ∷ c.args.rest.now) 34 high low 50 50 c.args.a c.args.b c.args.c c.args.d read_spelled
    (c.pair_value-high.ensures (omega (arith, c.if-high-gt255.false))) (c.pair_value-low.ensures (omega (arith, c.if-low-gt255.false))) refl
