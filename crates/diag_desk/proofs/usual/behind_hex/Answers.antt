use Rattle.std.proofs.lemmas.Option.{IfSome_then}
use Rattle.diag_desk.proofs.UsualLemmas.{eight_more}
use Rattle.diag_desk.proofs.usual.behind_hex.Goals as goal

pub loop-eight-preserved : goal.loop-eight-preserved
loop-eight-preserved c = λ tail is.
    let parts = c.in-Some.ensures.cases in
    let text = c.in-Some-split_first_chunk.ensures.cases in
    c.loop-eight.invariant tail
    (eight_more c.loop-eight.left.now c.loop-eight.rest.now c.in-Some.eight.now c.in-Some.tail.now c.in-Some-split_first_chunk.digits.now
    c.in-Some-split_first_chunk.behind.now tail parts.0 parts.1 text.0 text.1 (c.is_upper_of.ensures c.if-not-is_upper_of.false) is)

pub returns : goal.returns
returns c = IfSome_then c.behind_pairs.result c.behind_pairs.ensures (λ x is. c.loop-eight.invariant x.now is)
