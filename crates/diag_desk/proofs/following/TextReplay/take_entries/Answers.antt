use Rattle.std.proofs.Common.{refl, rules}
use Rattle.diag_desk.proofs.Pieces.{fault_taken}
use Rattle.diag_desk.proofs.following.TextReplay.take_entries.Goals as goal

pub returns-in-Err-Memory-clause-memory : goal.returns-in-Err-Memory-clause-memory
returns-in-Err-Memory-clause-memory c = λ seen more h.
    c.in-Err-Memory.ensures.memory (search rules) seen more ((h.well c.requires.well).headed c.requires.headed)

pub returns-in-Err-Line-clause-took : goal.returns-in-Err-Line-clause-took
returns-in-Err-Line-clause-took c =
    fault_taken c.args.setup.now c.args.self.now _ c.args.text.now c.in-Err-Line.n refl (λ seen h more.
    c.in-Err-Line.ensures.line c.in-Err-Line.n c.in-Err-Line.field-0-is seen ((h.well c.requires.well).headed c.requires.headed) more)
