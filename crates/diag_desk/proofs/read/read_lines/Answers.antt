use Rattle.std.proofs.Common.{◌≡◌, ◌+◌, ◌∙◌, ◌++◌, ◌∷◌, [], ap, sym, rules, arith, length, length-append, refl, subst}
use Rattle.diag_desk.specs.Fault.{FaultAt}
use Rattle.diag_desk.specs.Text.{text_of}
use Rattle.diag_desk.proofs.CutText.{cut-joins, one_cut}
use Rattle.diag_desk.proofs.EntryLemmas.{journal_more}
use Rattle.diag_desk.proofs.ReadLemmas.{header_fault, line_refused, line_wrong, stuck_at_end, stuck_at_line, stuck_fault, text_begins, text_more}
use Rattle.diag_desk.proofs.read.read_lines.Goals as goal

pub returns-in_default-version_of-clause-line : goal.returns-in_default-version_of-clause-line
returns-in_default-version_of-clause-line c = λ n e.
    subst (FaultAt c.args.text.now) (cc e) (header_fault c.args.text.now
    (λ version rest cuts. c.in_default-version_of.ensures.none version (one_cut 10 c.args.text.now _ _ _ _ c.in-Some.ensures cuts).0))

pub loop-rest-init : goal.loop-rest-init
loop-rest-init c =
    let start : c.args.text.now ≡ text_of c.in-Some-version_of.version [] ++ c.in-Some.rest.now =
    text_begins c.in-Some-version_of.version c.args.text.now c.in-Some.first.now c.in-Some.rest.now (cut-joins 10 _ _ _ c.in-Some.ensures)
    c.in-Some-version_of.ensures.some in
    rw c.new-reader.ensures (record { journal = (tt, omega arith); text = start; number = refl })

pub returns-in_default-cut-clause-line : goal.returns-in_default-cut-clause-line
returns-in_default-cut-clause-line c = λ n e.
    let inv = c.loop-rest.invariant in
    subst (FaultAt c.args.text.now) (cc e)
    (stuck_fault c.loop-rest.reader.version c.loop-rest.reader.entries c.args.text.now c.loop-rest.rest.now c.loop-rest.number inv.journal inv.text inv.number
    (stuck_at_end c.loop-rest.reader.version c.loop-rest.reader.entries c.loop-rest.rest.now inv.journal
    (λ empty. let none = ap length empty in search rules) c.in_default-cut.ensures))

pub returns-in-Err-clause-line : goal.returns-in-Err-clause-line
returns-in-Err-clause-line c = λ n e.
    let inv = c.loop-rest.invariant in
    let wrong = line_wrong _ n c.in-Err.fault (sym c.at.ensures ∙ e) in
    subst (FaultAt c.args.text.now) wrong.1
    (stuck_fault c.loop-rest.reader.version c.loop-rest.reader.entries c.args.text.now c.loop-rest.rest.now c.loop-rest.number inv.journal inv.text inv.number
    (stuck_at_line c.loop-rest.reader c.loop-rest.rest.now c.in-Some-cut.line.now c.in-Some-cut.after.now inv.journal
    (λ empty. let none = ap length empty in search rules) c.in-Some-cut.ensures (c.in-Err.ensures.wrong wrong.0)))

pub loop-rest-smaller : goal.loop-rest-smaller
loop-rest-smaller c =
    let long = ap length (cut-joins 10 c.loop-rest.rest.now c.in-Some-cut.line.now c.in-Some-cut.after.now c.in-Some-cut.ensures) in
    omega (arith, long, length-append c.in-Some-cut.line.now (10 ∷ c.in-Some-cut.after.now))

pub loop-rest-preserved : goal.loop-rest-preserved
loop-rest-preserved c =
    let inv = c.loop-rest.invariant in
    let took = c.in-Ok.ensures.ok in
    let text = text_more c.loop-rest.reader.version c.loop-rest.reader.entries took.entry c.args.text.now c.loop-rest.rest.now c.in-Some-cut.line.now
    c.in-Some-cut.after.now inv.text
    (cut-joins 10 _ _ _ c.in-Some-cut.ensures) took.line in
    record {
      journal = c.take.ensures.journal;
      text = text ∙ (λ i. text_of (sym took.version i) (sym took.entries i) ++ c.in-Some-cut.after.now);
      number = omega (arith, inv.number, ap length took.entries, length-append c.loop-rest.reader.entries (took.entry ∷ []));
    }

pub returns-in-Err-clause-memory : goal.returns-in-Err-clause-memory
returns-in-Err-clause-memory c = λ e.
    let inv = c.loop-rest.invariant in
    let old = c.loop-rest.reader in
    let next = c.in-Err.ensures.memory (line_refused _ c.in-Err.fault (sym c.at.ensures ∙ e)) in
    let room = next.room in
    let text = text_more old.version old.entries next.entry c.args.text.now c.loop-rest.rest.now c.in-Some-cut.line.now
    c.in-Some-cut.after.now inv.text
    (cut-joins 10 _ _ _ c.in-Some-cut.ensures) next.line in
    record {
      lines = length old.entries + 2;
      some = omega arith;
      begins = record {
        version = old.version;
        entries = old.entries ++ next.entry ∷ [];
        rest = c.in-Some-cut.after.now;
        journal = journal_more old.entries (old.entries ++ next.entry ∷ []) next.entry inv.journal next.is_entry (λ full. absurd (omega arith)) refl;
        lines = omega (arith, length-append old.entries (next.entry ∷ []));
        is = text;
      };
    }
