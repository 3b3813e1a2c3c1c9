use Rattle.std.proofs.Common.{◌≡◌, ◌++◌, ap, ◌∙◌, arith}
use Rattle.diag_tp.specs.declared.sent.Sent.{Sent}
use Rattle.diag_text.proofs.Parts.{all_done, all_more, line_of}
use Rattle.diag_run.proofs.replies.ReplyLines.add.Goals as goal

pub loop-index-preserved : goal.loop-index-preserved
loop-index-preserved c =
    let own = c.loop-index.self.writer in
    let text = c.loop-index.self.text.items in
    let frame = c.get-frame.result in
    let more : c.write.new.text.items ≡ text ++ line_of own frame =
    c.in_ok-write.ensures.ok ∙ ap (λ (s : Sent). text ++ line_of own s) c.frame.view_is in
    record {
      writer = c.in_ok-write.ensures.name ∙ c.loop-index.invariant.writer;
      written = all_more c.args.self.now.writer c.args.sent.now.items c.loop-index.index frame own text c.write.new.text.items _ c.get-frame.ensures
          c.loop-index.invariant.writer more c.loop-index.invariant.written;
    }

pub returns-clause-text : goal.returns-clause-text
returns-clause-text c =
    all_done c.args.self.now.writer c.args.sent.now.items c.loop-index.index c.loop-index.self.text.items _
    (omega (arith, c.loop-index-test.false, c.len-index-end.ensures)) c.loop-index.invariant.written
