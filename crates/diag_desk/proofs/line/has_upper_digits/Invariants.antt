use Rattle.std.proofs.Common.{◌≡◌, take}
use Rattle.std.specs.List.{list_all}
use Rattle.diag_desk.specs.Text.{is_upper_digit}
use Rattle.diag_desk.proofs.line.has_upper_digits.Given as goal

-- whether the bytes so far are
abbrev pub invariant-loop-c : goal.invariant-loop-c
invariant-loop-c l = l.all ≡ list_all is_upper_digit (take l.c-index l.text)
