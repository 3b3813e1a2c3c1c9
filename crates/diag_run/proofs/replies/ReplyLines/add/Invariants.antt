use Rattle.std.proofs.Common.{◌≡◌, ◌++◌, drop}
use Rattle.diag_text.specs.Text.{lines_of}
use Rattle.diag_run.proofs.replies.ReplyLines.add.Given as goal

abbrev pub invariant-loop-index : goal.invariant-loop-index
invariant-loop-index l = record {
  writer : l.self.writer ≡ l.initial.self.writer;
  written : l.self.text.items ++ lines_of l.initial.self.writer (drop l.index l.sent.items)
      ≡ l.initial.self.text.items ++ lines_of l.initial.self.writer l.sent.items;
}
