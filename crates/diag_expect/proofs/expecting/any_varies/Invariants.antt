use Rattle.std.proofs.Common.{◌≡◌, length}
use Rattle.std.specs.List.{list_any}
use Rattle.diag_ecu.specs.Respond.{ids_in}
use Rattle.diag_expect.specs.Expecting.{varies_at}
use Rattle.diag_expect.proofs.expecting.any_varies.Given as goal

abbrev pub invariant-loop-rest : goal.invariant-loop-rest
invariant-loop-rest l = list_any (varies_at l.setup) (ids_in l.rest) ≡ list_any (varies_at l.setup) (ids_in l.ids)

abbrev pub decreases-loop-rest : goal.decreases-loop-rest
decreases-loop-rest l = length l.rest
