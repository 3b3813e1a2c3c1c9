use Rattle.diag_live.proofs.Records.{record_law}
use Rattle.diag_live.proofs.laws.record_law.Goals as goal

pub returns : goal.returns
returns c = record_law
