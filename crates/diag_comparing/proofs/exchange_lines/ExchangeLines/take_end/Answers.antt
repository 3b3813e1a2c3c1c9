use Rattle.std.proofs.Common.{◌≡◌, ◌+◌, ◌++◌, ◌∷◌, [], List, Bool, true, Vec, Global, vec_len, ap, sym, ◌∙◌, arith}
use Rattle.std.proofs.lemmas.Bool.Decides.{nat_tests}
use Rattle.std.proofs.lemmas.List.{append-nil, length-append, nil_from_length}
use Rattle.std.specs.List.{flat_map}
use Rattle.std.specs.Prelude.{◌==◌, map}
use Rattle.diag_bus.specs.Verdict.{numbers}
use Rattle.diag_judge.specs.declared.tester.Judged.{Judged}
use Rattle.diag_compare.specs.Compare.{over_by}
use Rattle.diag_compare.specs.Expects.{expects}
use Rattle.diag_comparing.specs.Keeping.{judged_pair, lines_at}
use Rattle.diag_comparing.proofs.LineEnds.{is_line}
use Rattle.diag_comparing.proofs.Lines.{lines_same, stamps_more}
use Rattle.diag_comparing.proofs.exchange_lines.ExchangeLines.take_end.Goals as goal

none_over : {empty : Bool} (batch : Vec Judged Global) → empty ≡ (vec_len batch == 0) → empty ≡ true → batch.items ≡ []
none_over batch is tested = nil_from_length batch.items (grind (arith, nat_tests))

pub returns-then-is_empty-clause-taken : goal.returns-then-is_empty-clause-taken
returns-then-is_empty-clause-taken c =
    let setup = c.args.setup.now in
    let said = c.args.said.now in
    let span = c.args.span in
    let clock = c.args.clock.now in
    let old = c.args.self.now in
    let d = old.differences in
    let n = c.in_ok-line.line in
    let stamps = c.take.new.self in
    let batch = c.take_each.new.judged.items in
    let none : batch ≡ [] = none_over c.take_each.new.judged c.is_empty.ensures c.if-is_empty.true in
    record {
      more = [];
      grown = sym (append-nil c.args.text.now.items);
      holds = λ lines line K ends taken.
          let count = c.in_ok-line.ensures ∙ ap (λ k. k + 1) taken.count in
          let one = c.in_ok-self.ensures.each lines line K (is_line setup lines line said span clock K n count ends) taken.each in
          let pairs = flat_map (over_by (expects setup) setup lines line) (numbers setup) in
          let are : batch ≡ map judged_pair pairs = one.1 ∙ ap (λ (w : List Judged). w ++ map judged_pair pairs) c.give_back.ensures in
          let stamped = stamps_more setup lines line old.stamps stamps n clock.start count ends.start c.take.ensures taken.stamps in (
            record {
              count = count ∙ sym (length-append lines (line ∷ []));
              stamps = stamped;
              many = c.in_ok-self.ensures.many ∙ taken.many;
              each = one.0;
            },
            ap (lines_at setup stamps d) (sym none ∙ are) ∙ lines_same setup stamps (lines ++ line ∷ []) d stamped pairs,
          );
    }

pub returns-clause-taken : goal.returns-clause-taken
returns-clause-taken c =
    let setup = c.args.setup.now in
    let said = c.args.said.now in
    let span = c.args.span in
    let clock = c.args.clock.now in
    let old = c.args.self.now in
    let d = old.differences in
    let n = c.in_ok-line.line in
    let stamps = c.take.new.self in
    let batch = c.take_each.new.judged.items in
    let more = lines_at setup stamps d batch in
    record {
      more = more;
      grown = c.in_ok-write_batch.ensures.ok;
      holds = λ lines line K ends taken.
          let count = c.in_ok-line.ensures ∙ ap (λ k. k + 1) taken.count in
          let one = c.in_ok-self.ensures.each lines line K (is_line setup lines line said span clock K n count ends) taken.each in
          let pairs = flat_map (over_by (expects setup) setup lines line) (numbers setup) in
          let are : batch ≡ map judged_pair pairs = one.1 ∙ ap (λ (w : List Judged). w ++ map judged_pair pairs) c.give_back.ensures in
          let stamped = stamps_more setup lines line old.stamps stamps n clock.start count ends.start c.take.ensures taken.stamps in (
            record {
              count = count ∙ sym (length-append lines (line ∷ []));
              stamps = stamped;
              many = c.in_ok-self.ensures.many ∙ taken.many;
              each = one.0;
            },
            ap (lines_at setup stamps d) are ∙ lines_same setup stamps (lines ++ line ∷ []) d stamped pairs,
          );
    }

pub take_each-requires-clause-idle : goal.take_each-requires-clause-idle
take_each-requires-clause-idle c = λ i own at outside. c.requires.idle i own at (c.asked-self.ensures.busy i outside)
