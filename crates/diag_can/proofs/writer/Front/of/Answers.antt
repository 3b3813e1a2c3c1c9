use Rattle.std.proofs.Common.{◌<◌, [], ◌∷◌, subst, arith, rules}
use Rattle.diag_can.specs.Writer.{IsText}
use Rattle.diag_can.proofs.Hex.{id_front}
use Rattle.diag_can.proofs.writer.Front.of.Goals as goal

pub returns-in-None : goal.returns-in-None
returns-in-None c =
    let flags_are = c.in-None.is in
    let below : c.args.id < 2048 = search (rules, arith) in
    rw flags_are (subst (IsText c.made.result) (id_front c.args.name.now c.identifier.result (35 ∷ []) c.args.id below c.identifier.ensures)
    c.made.ensures)

pub returns-in-Some : goal.returns-in-Some
returns-in-Some c =
    let flags_are = c.in-Some.is in
    let digit = c.flags_digit.ensures in
    let below : c.args.id < 2048 = search (rules, arith) in
    rw (flags_are, digit) (subst (IsText c.made-in-Some.result)
    (id_front c.args.name.now c.identifier.result (35 ∷ 35 ∷ c.flags_digit.result ∷ []) c.args.id below c.identifier.ensures) c.made-in-Some.ensures)
