use Rattle.std.proofs.Common.{◌+◌, refl, arith}
use Rattle.diag_run.specs.declared.journal_lines.JournalLines.{JournalLines}
use Rattle.diag_run.proofs.Written.{enters_more}
use Rattle.diag_run.proofs.journal_lines.JournalLines.enter.Goals as goal

pub returns-clause-kept : goal.returns-clause-kept
returns-clause-kept c =
    let old = c.args.self.now in
    let new : JournalLines = record { text = c.write_entry.new.text; version = old.version; count = old.count + 1 } in
    (enters_more old new c.args.before _ refl refl c.in_ok-write_entry.ensures.ok, refl, omega arith)
