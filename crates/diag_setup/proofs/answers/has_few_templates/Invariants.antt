use Rattle.std.proofs.Common.{◌≡◌, ◌+◌, take}
use Rattle.std.specs.List.{sum_by}
use Rattle.diag_setup.specs.Setup.{template_count}
use Rattle.diag_setup.proofs.answers.has_few_templates.Given as goal

-- what the rows so far leave of the whole number
abbrev pub invariant-loop-row : goal.invariant-loop-row
invariant-loop-row l = l.left + sum_by template_count (take l.row-index l.rows) ≡ 65536
