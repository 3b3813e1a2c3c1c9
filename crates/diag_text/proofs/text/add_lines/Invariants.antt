use Rattle.std.proofs.Common.{◌≡◌, ◌-◌, ◌++◌, take, drop}
use Rattle.diag_text.specs.Text.{lines_of}
use Rattle.diag_text.proofs.text.add_lines.Given as goal

abbrev pub invariant-loop-index : goal.invariant-loop-index
invariant-loop-index l =
    let w = l.initial.writer in
    let part = l.fn.part in
    record {
      name : l.writer ≡ w;
      written : l.text.items ++ lines_of w (take (part.end - l.index) (drop l.index l.sent.items))
          ≡ l.initial.text.items ++ lines_of w (take (part.end - part.from) (drop part.from l.sent.items));
    }
