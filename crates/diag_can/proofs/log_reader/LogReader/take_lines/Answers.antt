use Rattle.std.proofs.Common.{refl, rules}
use Rattle.diag_can.proofs.Pieces.{behind_fault, fault_taken}
use Rattle.diag_can.proofs.log_reader.LogReader.take_lines.Goals as goal

pub returns-then-is_some-clause-took : goal.returns-then-is_some-clause-took
returns-then-is_some-clause-took c = behind_fault c.args.ids.now c.args.timing c.args.self.now c.args.text.now (λ none. search rules)

pub returns-in_default-clause-took : goal.returns-in_default-clause-took
returns-in_default-clause-took c =
    fault_taken c.args.ids.now c.args.timing c.args.self.now _ c.args.text.now c.in-Err.fault (search rules) (search rules) refl (c.in-Err.ensures.fault (search rules))

pub returns-in-Ok-clause-took : goal.returns-in-Ok-clause-took
returns-in-Ok-clause-took c = search rules

pub take_well-requires : goal.take_well-requires
take_well-requires c = search rules

pub returns-in-Memory-clause-memory : goal.returns-in-Memory-clause-memory
returns-in-Memory-clause-memory c = λ seen more h. c.in-Err.ensures.memory (search rules) seen more (h.well (search rules))
