use Rattle.std.proofs.Common.{◌≡◌, ◌<◌, ◌+◌, ◌++◌, ◌∷◌, [], ℕ, Some, length, map, refl, ap, subst, sym, ◌∙◌, arith}
use Rattle.std.proofs.lemmas.List.{append-nil, length-append}
use Rattle.std.proofs.lemmas.Option.{slice_get_read}
use Rattle.std.specs.List.{flat_map}
use Rattle.std.specs.Prelude.{slice_get}
use Rattle.diag_pdu.specs.Cut.{counted_from}
use Rattle.diag_compare.specs.Compare.{open_for}
use Rattle.diag_compare.specs.Expects.{expects}
use Rattle.diag_comparing.specs.Keeping.{judged_pair, tester_counts}
use Rattle.diag_judge.specs.Judging.{EndsJudged}
use Rattle.diag_judge.specs.declared.tester.Tester.{Tester}
use Rattle.diag_comparing.proofs.Ends.{end_counted, end_judged}
use Rattle.diag_comparing.proofs.ending.end_each.Goals as goal

pub loop-index-init : goal.loop-index-init
loop-index-init c = record {
  judged = λ lines h. sym (append-nil c.args.judged.now.items);
  counts = λ lines h. c.new-counts.ensures.items;
  many = ap length c.new-counts.ensures.items;
}

pub loop-index-preserved : goal.loop-index-preserved
loop-index-preserved c =
    let i = c.loop-index.index in
    let setup = c.args.setup.now in
    let testers = c.args.testers.now in
    let own : Tester = c.index-testers-index.result in
    let within : i < length testers = omega (arith, c.loop-index-test.true) in
    let here : slice_get testers i ≡ Some own = slice_get_read testers (length testers) i own refl within c.index-testers-index.is in
    let who = c.who-who.ensures in
    let judged = subst (λ t. EndsJudged own t c.loop-index.judged.items c.end.new.judged.items) who c.in_ok-own.ensures.judged in
    record {
      judged = λ lines h. end_judged setup lines own i c.args.judged.now.items c.loop-index.judged.items c.end.new.judged.items (h i own here)
          (c.loop-index.invariant.judged lines h) judged;
      counts = λ lines h. end_counted setup lines own i c.in_ok-own.own c.loop-index.counts.items c.push.new.self.items (h i own here)
          (c.loop-index.invariant.counts lines h) c.in_ok-own.ensures.counts c.in_ok-push.ensures.items;
      many = ap length c.in_ok-push.ensures.items ∙ (length-append c.loop-index.counts.items (c.in_ok-own.own ∷ [])
          ∙ ap (λ n. n + 1) c.loop-index.invariant.many);
    }

all : (c : goal.After-loop-index) → c.loop-index.index ≡ length c.args.setup.now.testers
all c = omega (arith, c.loop-index-test.false, c.loop-index.auto.index-end, c.requires)

pub returns-clause-judged : goal.returns-clause-judged
returns-clause-judged c = λ lines h.
    c.loop-index.invariant.judged lines h
    ∙ ap (λ (n : ℕ). c.args.judged.now.items ++ map judged_pair (flat_map (open_for (expects c.args.setup.now) c.args.setup.now lines) (counted_from 1 n))) (all c)

pub returns-clause-counts : goal.returns-clause-counts
returns-clause-counts c = λ lines h.
    c.loop-index.invariant.counts lines h ∙ ap (λ (n : ℕ). map (tester_counts c.args.setup.now lines) (counted_from 1 n)) (all c)
