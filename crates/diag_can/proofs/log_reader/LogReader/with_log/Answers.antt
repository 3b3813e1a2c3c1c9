use Rattle.std.proofs.Common.{refl}
use Rattle.diag_can.proofs.Pieces.{nothing_read}
use Rattle.diag_can.proofs.log_reader.LogReader.with_log.Goals as goal

pub returns : goal.returns
returns c = λ ids timing. nothing_read ids timing _ refl refl c.requires refl
