use Rattle.std.proofs.Common.{map, ap, ◌∙◌}
use Rattle.std.specs.List.{list_any}
use Rattle.diag_port.specs.Block.{port_in_block}
use Rattle.diag_port.specs.Port.{port_of}
use Rattle.diag_world.specs.Block.{some_in_block}
use Rattle.diag_world.specs.Server.{ServerView}
use Rattle.diag_world.proofs.Blocks.{some_caught}
use Rattle.diag_world.proofs.server.Server.is_in_block.Goals as goal

pub returns : goal.returns
returns c =
    c.some_in_block.ensures
    ∙ (ap (λ ls. list_any (λ lazy. port_in_block (port_of lazy.port)) ls) c.as_slice.ensures.value
    ∙ (some_caught c.self.inside.passed c.self.inside.ports.items
    ∙ ap (λ (v : ServerView). some_in_block (map port_of v.ports)) c.self.view_is))
