use Rattle.std.proofs.Common.{◌≡◌, ◌++◌, drop}
use Rattle.diag_text.specs.Text.{code_lines}
use Rattle.diag_text.proofs.text.add_codes.Given as goal

abbrev pub invariant-loop-index : goal.invariant-loop-index
invariant-loop-index l = l.text.items ++ code_lines (drop l.index l.dtcs) ≡ l.initial.text.items ++ code_lines l.dtcs
