use Rattle.std.proofs.Common.{rules}
use Rattle.diag_text.proofs.Items.{seen_at}
use Rattle.diag_text.proofs.Writing.{on_fault, part_front, part_more}
use Rattle.diag_text.proofs.io.write_whole.Goals as goal

pub loop-part-preserved : goal.loop-part-preserved
loop-part-preserved g c =
    let next = seen_at (λ part. part.items) c.args.parts.now c.loop-part.part-index c.part-item.result c.loop-part-test.true c.part-item.is in
    record {
      wrote = part_more _ _ _ c.loop-part.part-index c.loop-part.invariant.wrote _ c.part-item.result.items next (search rules);
      sound = λ sound. c.in_ok-write_part.ensures.sound (c.loop-part.invariant.sound sound);
    }

pub returns-in_err-write_part-clause-front : goal.returns-in_err-write_part-clause-front
returns-in_err-write_part-clause-front g c =
    let next = seen_at (λ part. part.items) c.args.parts.now c.loop-part.part-index c.part-item.result c.loop-part-test.true c.part-item.is in
    on_fault c.from_residual.result (part_front _ _ _ c.loop-part.part-index c.loop-part.invariant.wrote _ c.part-item.result.items next
    (rw c.as_slice.ensures.value at c.in_err-write_part.ensures.front))
