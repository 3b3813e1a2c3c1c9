use Rattle.std.proofs.Common.{◌≡◌, length}
use Rattle.diag_config.specs.Answer.{items_of}
use Rattle.diag_config.proofs.Loop.{behind_items}
use Rattle.diag_config.proofs.answer.items.Given as goal

-- what was read before what is left
abbrev pub invariant-loop-rest : goal.invariant-loop-rest
invariant-loop-rest g l = behind_items l.read (items_of g.T.TextItem.item_of l.rest) ≡ items_of g.T.TextItem.item_of l.text

abbrev pub decreases-loop-rest : goal.decreases-loop-rest
decreases-loop-rest g l = length l.rest
