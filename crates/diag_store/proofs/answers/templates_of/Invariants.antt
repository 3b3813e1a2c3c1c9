use Rattle.std.proofs.Common.{◌≡◌, ◌≤◌, length, take}
use Rattle.std.specs.List.{All}
use Rattle.diag_store.proofs.answers.templates_of.Given as goal

-- the templates so far
abbrev pub invariant-loop-template : goal.invariant-loop-template
invariant-loop-template l = record {
  rows : l.rows.items ≡ take l.template-index l.templates;
  few : length l.templates ≤ 4096;
  short : All (λ t. length t ≤ 4095) l.templates;
}
