use Rattle.std.proofs.Common.{refl}
use Rattle.diag_run.proofs.Pieces.{stands_begin}
use Rattle.diag_run.proofs.capture.Capture.begin.Goals as goal

pub returns-clause-stands : goal.returns-clause-stands
returns-clause-stands g c = stands_begin g.S.Sink g.S.Sink.took g.S.Sink.aim g.S.Sink.written g.S.Ending.ends _ c.requires c.new.ensures.items refl (rw c.new-text.ensures.items at c.in_ok-begin.ensures.ok)
