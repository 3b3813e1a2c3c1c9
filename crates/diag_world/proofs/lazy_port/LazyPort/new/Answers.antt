use Rattle.std.proofs.Common.{[], refl, subst, sym, arith}
use Rattle.diag_port.specs.declared.port.Port.{Port}
use Rattle.diag_port.specs.Port.{port_of}
use Rattle.diag_port.specs.Standing.{PortStands}
use Rattle.diag_port.proofs.Quiet.{whole_none}
use Rattle.diag_world.proofs.Lazy.{caught_still}
use Rattle.diag_world.proofs.lazy_port.LazyPort.new.Goals as goal

pub returns-clause-lazy : goal.returns-clause-lazy
returns-clause-lazy c = caught_still 0 _ refl c.new.ensures.rest (omega arith) (omega (arith, c.new.ensures.time))

pub returns-clause-stands : goal.returns-clause-stands
returns-clause-stands c =
    subst (λ (p : Port). PortStands c.args.setup c.args.pace (port_of p) [] []) (sym (whole_none c.new.result (omega (arith, c.new.ensures.time)))) c.new.ensures.stands
