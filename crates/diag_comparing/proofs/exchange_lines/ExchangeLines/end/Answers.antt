use Rattle.std.proofs.Common.{◌≡◌, ◌++◌, [], List, ℕ, ap, ap₂, subst, sym, ◌∙◌}
use Rattle.std.specs.List.{flat_map}
use Rattle.std.specs.Prelude.{map}
use Rattle.diag_bus.specs.Verdict.{numbers}
use Rattle.diag_judge.specs.declared.tester.Counts.{Counts}
use Rattle.diag_judge.specs.declared.tester.Tester.{Tester}
use Rattle.diag_judge.specs.declared.tester.Judged.{Judged}
use Rattle.diag_compare.specs.Compare.{last_line, open_for}
use Rattle.diag_compare.specs.Expects.{expects}
use Rattle.diag_comparing.specs.Keeping.{AreTesters, count_lines, judged_pair, lines_at, nothing_in, status_in}
use Rattle.diag_comparing.proofs.Ends.{lines_are, nothing_is, status_is}
use Rattle.diag_comparing.proofs.Lines.{lines_same}
use Rattle.diag_comparing.proofs.exchange_lines.ExchangeLines.end.Goals as goal

pub returns-clause-status : goal.returns-clause-status
returns-clause-status c = λ lines taken.
    let each = subst (λ (ts : List Tester). AreTesters c.args.setup.now lines [] ts) (sym c.as_slice.ensures.value) taken.each in
    c.status.ensures ∙ (ap status_in (c.as_slice-5.ensures.value ∙ c.in_ok-counts.ensures.counts lines each) ∙ status_is c.args.setup.now lines)

pub returns-clause-ok : goal.returns-clause-ok
returns-clause-ok c =
    let setup = c.args.setup.now in
    let stamps = c.args.self.now.stamps in
    let d = c.args.self.now.differences in
    let judged = c.end_each.new.judged.items in
    let counts = c.in_ok-counts.counts.items in
    let one = lines_at setup stamps d judged in
    let two = count_lines setup 1 counts in
    let three = last_line (nothing_in counts) in
    let first : c.write_batch.new.text.items ≡ one = c.in_ok-write_batch.ensures.ok ∙ ap (λ w. w ++ one) c.new-end.ensures.items in
    let second : c.add_counts.new.text.items ≡ one ++ two =
    c.in_ok-add_counts.ensures ∙ ap₂ (λ (w : List ℕ) (k : List Counts). w ++ count_lines setup 1 k) first c.as_slice-2.ensures.value in
    let nothing = c.is_nothing.ensures ∙ ap nothing_in c.as_slice-3.ensures.value in
    let third : c.add_last.new.text.items ≡ one ++ two ++ three =
    c.in_ok-add_last.ensures ∙ ap₂ (λ (w : List ℕ) b. w ++ last_line b) second nothing in
    record {
      more = one ++ two ++ three;
      grown = c.in_ok-extend_from_slice.ensures.items ∙ ap (λ w. c.args.text.now.items ++ w) (c.as_slice-4.ensures.value ∙ third);
      holds = λ lines taken.
          let each = subst (λ (ts : List Tester). AreTesters setup lines [] ts) (sym c.as_slice.ensures.value) taken.each in
          let pairs = flat_map (open_for (expects setup) setup lines) (numbers setup) in
          let are : judged ≡ map judged_pair pairs = c.in_ok-counts.ensures.judged lines each ∙ ap (λ (w : List Judged). w ++ map judged_pair pairs) c.new-judged.ensures.items in
          let all = c.in_ok-counts.ensures.counts lines each in
          ap₂ (λ (u v : List ℕ). u ++ v)
          (ap₂ (λ (u v : List ℕ). u ++ v) (ap (lines_at setup stamps d) are ∙ lines_same setup stamps lines d taken.stamps pairs)
          (ap (count_lines setup 1) all ∙ lines_are setup lines))
          (ap last_line (ap nothing_in all ∙ nothing_is setup lines));
    }
