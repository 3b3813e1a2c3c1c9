use Rattle.std.proofs.Common.{arith}
use Rattle.std.proofs.lemmas.Bool.{and_parts, ne_eqb}
use Rattle.diag_can.proofs.Fronts.{begins_framed}
use Rattle.diag_can.proofs.usual.text_place.Goals as goal

pub returns : goal.returns
returns c =
    let both = and_parts _ _ c.if-not-is_front-is_back.false in
    begins_framed c.args.line.now c.eight_of_word-word.result (omega arith) (c.is_within-is_front.ensures both.0) (c.is_within-is_back.ensures both.1)
    c.eight_of_word-word.ensures c.if-word-lt1.false c.if-word-gt6.false c.if-line-word-ne32.false (ne_eqb _ _ c.if-line-word-eq32.false)
