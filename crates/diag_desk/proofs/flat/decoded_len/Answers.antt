use Rattle.std.proofs.Common.{arith}
use Rattle.diag_desk.proofs.LineText.{hex_length}
use Rattle.diag_desk.proofs.flat.decoded_len.Goals as goal

pub returns-clause-same : goal.returns-clause-same
returns-clause-same c = omega (arith, hex_length c.args.text.now c.requires)

pub returns-clause-bound : goal.returns-clause-bound
returns-clause-bound c =
    let len = hex_length c.args.text.now c.requires in
    let some = c.requires.0.0 in
    let within = c.requires.0.1 in
    (omega (arith, len, some), omega (arith, len, within))
