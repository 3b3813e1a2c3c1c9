use Rattle.std.proofs.Common.{◌∙◌, sym, refl}
use Rattle.diag_desk.specs.Line.{line_entry}
use Rattle.diag_desk.proofs.CutText.{cut-joins, one_cut}
use Rattle.diag_desk.proofs.ReadLemmas.{next_cut, next_is, other_stamp}
use Rattle.diag_desk.proofs.next.next_line.Goals as goal

pub returns-in_default-cut-clause-none : goal.returns-in_default-cut-clause-none
returns-in_default-cut-clause-none c = λ past journal tells e is line.
    cc (sym c.in_default-cut.ensures ∙ next_cut c.args.version past c.args.line.now e c.in_default.is journal.0 journal.1 is line)

pub returns-in_default-entry_in-clause-none : goal.returns-in_default-entry_in-clause-none
returns-in_default-entry_in-clause-none c = λ past journal tells e is line.
    let parts = one_cut 32 c.args.line.now _ _ _ _ c.in-Some.ensures
    (next_cut c.args.version past c.args.line.now e c.in_default.is journal.0 journal.1 is line) in
    c.in_default-entry_in.ensures.none e is (sym parts.1)

pub returns-then-not-is_decimal-clause-none : goal.returns-then-not-is_decimal-clause-none
returns-then-not-is_decimal-clause-none c = λ past journal tells e is line.
    let parts = one_cut 32 c.args.line.now _ _ _ _ c.in-Some.ensures
    (next_cut c.args.version past c.args.line.now e c.in_default.is journal.0 journal.1 is line) in
    let read = c.in-Some-entry_in.ensures.some in
    cc (c.if-not-is_decimal.ensures.1 (other_stamp past c.in-Some.at.now c.in-Some.line.now e (line_entry c.in-Some-entry_in.entry)
    c.clock_with.result is read.entry (c.clock_with.ensures past tells) read.is parts.0 parts.1))

pub returns-clause-some : goal.returns-clause-some
returns-clause-some c = λ past tells.
    let read = c.in-Some-entry_in.ensures.some in
    next_is c.args.version past c.args.line.now c.in-Some.at.now c.in-Some.line.now (line_entry c.in-Some-entry_in.entry) c.clock_with.result
    c.in_default.is
    (c.clock_with.ensures past tells) (c.if-not-is_decimal.ensures.0 refl) read.is (cut-joins 32 _ _ _ c.in-Some.ensures)
