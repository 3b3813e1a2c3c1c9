use Rattle.std.proofs.Common.{◌≡◌, drop}
use Rattle.toml.specs.View.{items_view}
use Rattle.diag_config.specs.Setup.{each, row}
use Rattle.diag_config.proofs.Loop.{with_front}
use Rattle.diag_config.proofs.table.each.Given as goal

abbrev pub invariant-loop-item : goal.invariant-loop-item
invariant-loop-item g l =
    let kind = row g.R.FromTable.at l.key in
    with_front l.read (each kind (items_view (drop l.item-index l.items))) ≡ each kind (items_view l.items)
