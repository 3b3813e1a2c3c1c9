use Rattle.std.proofs.Common.{◌≡◌, take}
use Rattle.std.specs.List.{flat_map}
use Rattle.diag_setup.specs.Setup.{read_ids}
use Rattle.diag_setup.proofs.setup.known_ids.Given as goal

-- those of the testers so far
abbrev pub invariant-loop-tester : goal.invariant-loop-tester
invariant-loop-tester l = l.known.items ≡ flat_map (read_ids l.shared) (take l.tester-index l.testers)
