use Rattle.std.proofs.Common.{◌≡◌, ◌*◌, length, take}
use Rattle.std.specs.List.{flat_map}
use Rattle.diag_setup.specs.Setup.{own_ids}
use Rattle.diag_setup.proofs.check.can_ids.Given as goal

-- those of the testers so far
abbrev pub invariant-loop-tester : goal.invariant-loop-tester
invariant-loop-tester l = record {
  items : l.ids.items ≡ flat_map own_ids (take l.tester-index l.testers);
  count : length l.ids.items ≡ 2 * l.tester-index;
}
