use Rattle.std.proofs.Common.{◌≡◌, ◌≤◌, length, take}
use Rattle.std.specs.Prelude.{map}
use Rattle.std.specs.List.{All}
use Rattle.diag_setup.specs.Fits.{AnswerFits}
use Rattle.diag_store.specs.Answers.{row_first}
use Rattle.diag_store.specs.Opening.{answer_row}
use Rattle.diag_store.proofs.answers.Answers.new.Given as goal

-- the rows of those so far, and their first items
abbrev pub invariant-loop-answer : goal.invariant-loop-answer
invariant-loop-answer l = record {
  rows : l.rows.items ≡ map answer_row (take l.answer-index l.answers);
  firsts : l.firsts.items ≡ map row_first l.rows.items;
  fit : All AnswerFits l.answers;
  few : length l.answers ≤ 1024;
}
