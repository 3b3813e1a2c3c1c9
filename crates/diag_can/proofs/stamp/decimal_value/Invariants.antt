use Rattle.std.proofs.Common.{◌≡◌, ◌-◌, ◌^◌, min, take}
use Rattle.diag_can.specs.Stamp.{decimal_value}
use Rattle.diag_can.proofs.stamp.decimal_value.Given as goal

-- the value of the digits so far, as far as it fits
abbrev pub invariant-loop-c : goal.invariant-loop-c
invariant-loop-c l = l.value ≡ min (decimal_value (take l.c-index l.digits)) (2 ^ 64 - 1)
