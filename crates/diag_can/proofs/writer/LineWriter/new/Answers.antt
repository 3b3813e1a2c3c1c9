use Rattle.std.proofs.Common.{rules}
use Rattle.diag_can.proofs.writer.LineWriter.new.Goals as goal

pub returns : goal.returns
returns c = search rules
