use Rattle.std.proofs.Common.{◌≡◌, ◌≤◌, ◌-◌, [], length}
use Rattle.std.specs.List.{All}
use Rattle.diag_run.proofs.answer.read_texts.Given as goal

-- none has anything yet
abbrev pub invariant-loop-alloc : goal.invariant-loop-alloc
invariant-loop-alloc g l = record {
  few : length l.texts.items ≤ length l.files;
  empty : All (λ text. text.items ≡ []) l.texts.items;
  same : l.files ≡ l.initial.files;
}

abbrev pub decreases-loop-alloc : goal.decreases-loop-alloc
decreases-loop-alloc g l = length l.files - length l.texts.items
