use Rattle.std.proofs.Common.{◌≡◌, ◌+◌, ◌-◌, ◌++◌, ap, ◌∙◌, arith}
use Rattle.diag_tp.specs.declared.sent.Sent.{Sent}
use Rattle.diag_text.proofs.Parts.{line_of, part_done, part_more}
use Rattle.diag_text.proofs.text.add_lines.Goals as goal

pub loop-index-preserved : goal.loop-index-preserved
loop-index-preserved c =
    let index = c.loop-index.index in
    let end = c.args.part.end in
    let own = c.loop-index.writer in
    let text = c.loop-index.text.items in
    let frame = c.get-frame.result in
    let next : end - index ≡ (end - (index + 1)) + 1 = omega (arith, c.loop-index-test.true) in
    let more : c.write.new.text.items ≡ text ++ line_of own frame =
    c.in_ok-write.ensures.ok ∙ ap (λ (s : Sent). text ++ line_of own s) c.frame.view_is in
    record {
      name = c.in_ok-write.ensures.name ∙ c.loop-index.invariant.name;
      written = part_more c.args.writer.now c.args.sent.now.items index (end - index) (end - (index + 1)) frame own text c.write.new.text.items _ next
          c.get-frame.ensures c.loop-index.invariant.name more c.loop-index.invariant.written;
    }

pub returns : goal.returns
returns c =
    let index = c.loop-index.index in
    let end = c.args.part.end in
    part_done c.args.writer.now c.args.sent.now.items index (end - index) c.loop-index.text.items _ (omega (arith, c.loop-index-test.false))
    c.loop-index.invariant.written
