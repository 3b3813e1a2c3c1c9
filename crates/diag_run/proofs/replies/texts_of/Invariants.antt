use Rattle.std.proofs.Common.{◌≡◌, map}
use Rattle.diag_run.proofs.replies.texts_of.Given as goal

abbrev pub invariant-loop-tester : goal.invariant-loop-tester
invariant-loop-tester l = record {
  can : (goal.iterator-loop-tester).can_next l.tester-iterator;
  ends : (goal.iterator-loop-tester).is_finite l.tester-iterator;
  texts : map (λ text. text.items) l.texts.items ≡ map (λ tester. tester.text.items) l.yielded;
}
