use Rattle.std.proofs.Common.{◌≡◌, drop}
use Rattle.toml.specs.View.{items_view}
use Rattle.diag_config.specs.Setup.{each, template}
use Rattle.diag_config.proofs.Loop.{with_front}
use Rattle.diag_config.proofs.answer.templates.Given as goal

abbrev pub invariant-loop-value : goal.invariant-loop-value
invariant-loop-value l =
    with_front l.read (each (template l.key) (items_view (drop l.value-index l.values))) ≡ each (template l.key) (items_view l.values)
