use Rattle.std.proofs.Common.{rules}
use Rattle.diag_text.proofs.Pieces.{line_taken}
use Rattle.diag_text.proofs.taking.LineTaker.end_line.Goals as goal

pub returns-clause-taken : goal.returns-clause-taken
returns-clause-taken g c = λ seen h.
    line_taken (g.L.TakeLines.took c.args.self.now.lines) (g.L.TakeLines.took c.take_lines.new.self) c.requires.ended.0 c.args.bytes.now
    c.args.self.now.begun.items _ _ c.requires.ended.1 (search rules) c.in_ok-take_lines.ensures.took seen h
