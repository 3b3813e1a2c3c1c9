use Rattle.std.proofs.Common.{◌≡◌, ◌+◌, ◌++◌, length}
use Rattle.diag_desk.specs.Entry.{IsJournal}
use Rattle.diag_desk.specs.Text.{text_of}
use Rattle.diag_desk.proofs.read.read_lines.Given as goal

-- the text is that of the entries so far, and the rest
abbrev pub invariant-loop-rest : goal.invariant-loop-rest
invariant-loop-rest l = record {
  journal : IsJournal l.reader.entries;
  text : l.fn.text ≡ text_of l.reader.version l.reader.entries ++ l.rest;
  number : l.number ≡ length l.reader.entries + 2;
}

abbrev pub decreases-loop-rest : goal.decreases-loop-rest
decreases-loop-rest l = length l.rest
