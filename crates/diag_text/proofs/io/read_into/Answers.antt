use Rattle.std.proofs.Common.{◌++◌, ◌∙◌, take, append_assoc, arith, length-append, rules, subst}
use Rattle.std.proofs.KnownBytes.{Consumes-trans}
use Rattle.diag_text.proofs.io.read_into.Goals as goal

pub returns-then-count-eq0-clause-read : goal.returns-then-count-eq0-clause-read
returns-then-count-eq0-clause-read g c = search rules

pub returns-then-count-eq0-clause-end : goal.returns-then-count-eq0-clause-end
returns-then-count-eq0-clause-end g c = search rules

pub returns-then-count-eq0-clause-refused : goal.returns-then-count-eq0-clause-refused
returns-then-count-eq0-clause-refused g c = search rules

pub returns-then-count-eq0-clause-aim : goal.returns-then-count-eq0-clause-aim
returns-then-count-eq0-clause-aim g c = c.loop-turn.invariant.5

pub returns-then-count-limit-clause-seen : goal.returns-then-count-limit-clause-seen
returns-then-count-limit-clause-seen g c _ =
    let so_far = c.loop-turn.invariant in
    let piece = take c.in-Ok.count c.read_some.new.buffer in (
      so_far.0 ++ piece,
      Consumes-trans _ _ _ so_far.0 piece so_far.1 c.in-Ok.ensures.bytes.0,
      omega (arith, length-append so_far.0 piece, c.in-Ok.ensures.bound.1, c.if-count-limit.true, so_far.2),
    )

pub returns-then-count-limit-clause-refused : goal.returns-then-count-limit-clause-refused
returns-then-count-limit-clause-refused g c = search rules

pub returns-in-Err-clause-refused : goal.returns-in-Err-clause-refused
returns-in-Err-clause-refused g c _ =
    let so_far = c.loop-turn.invariant in
    let piece = take c.in-Ok.count c.read_some.new.buffer in (
      so_far.0 ++ piece,
      Consumes-trans _ _ _ so_far.0 piece so_far.1 c.in-Ok.ensures.bytes.0,
      omega (arith, length-append so_far.0 piece, c.in-Ok.ensures.bound.1, c.if-count-limit.false, so_far.2),
    )

pub loop-turn-preserved : goal.loop-turn-preserved
loop-turn-preserved g c =
    let so_far = c.loop-turn.invariant in
    let piece = take c.in-Ok.count c.read_some.new.buffer in
    let size = length-append so_far.0 piece in
    let some = c.if-count-eq0.false in (
      so_far.0 ++ piece,
      Consumes-trans _ _ _ so_far.0 piece so_far.1 c.in-Ok.ensures.bytes.0,
      omega (arith, size, c.in-Ok.ensures.bound.1, so_far.2),
      omega (arith, so_far.3, some),
      omega (arith, so_far.4, c.if-count-limit.false),
      c.in-Ok-take_piece.ensures.aim ∙ so_far.5,
      λ seen h. subst (g.P.TakePieces.took c.take_piece.new.self) (append_assoc seen so_far.0 piece)
          (c.in-Ok-take_piece.ensures.took (seen ++ so_far.0) (so_far.6 seen h)),
      λ sound. c.in-Ok.ensures.sound (so_far.7 sound),
    )
