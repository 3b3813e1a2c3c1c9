use Rattle.std.proofs.Common.{◌≡◌, drop}
use Rattle.toml.specs.View.{items_view}
use Rattle.diag_config.specs.Setup.{each, pattern}
use Rattle.diag_config.proofs.Loop.{with_front}
use Rattle.diag_config.proofs.answer.each_pattern.Given as goal

abbrev pub invariant-loop-value : goal.invariant-loop-value
invariant-loop-value l =
    with_front l.read (each (pattern l.key) (items_view (drop l.value-index l.values))) ≡ each (pattern l.key) (items_view l.values)
