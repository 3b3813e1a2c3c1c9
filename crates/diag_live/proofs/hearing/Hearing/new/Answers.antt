use Rattle.std.proofs.Common.{length, sym, ap, ◌∙◌}
use Rattle.diag_live.proofs.Records.{nothing_begun, nothing_ended}
use Rattle.diag_live.proofs.hearing.Hearing.new.Goals as goal

pub returns : goal.returns
returns c = record { kept = c.new.ensures.items ∙ sym nothing_begun; count = ap length (sym nothing_ended) }
