use Rattle.diag_desk.proofs.ReadLemmas.{read_back}
use Rattle.diag_desk.proofs.read.read_journal.Goals as goal

pub returns-clause-back : goal.returns-clause-back
returns-clause-back c = read_back c.args.text.now c.read_lines.result c.read_lines.ensures.ok c.read_lines.ensures.line
