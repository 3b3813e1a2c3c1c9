use Rattle.std.proofs.Common.{◌≡◌, ◌≤◌, length}
use Rattle.std.specs.Prelude.{map}
use Rattle.diag_store.specs.Answers.{applies, row_first}
use Rattle.diag_store.proofs.AnswerLemmas.{NoneBefore}
use Rattle.diag_store.proofs.answers.index_in.Given as goal

-- no row so far applies
abbrev pub invariant-loop-index : goal.invariant-loop-index
invariant-loop-index l = record {
  none : NoneBefore (applies l.access l.p) l.rows l.index;
  firsts : l.firsts ≡ map row_first l.rows;
  some : 1 ≤ length l.p;
}
