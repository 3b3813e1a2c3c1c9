use Rattle.std.proofs.Common.{subst, sym, ◌∙◌, arith}
use Rattle.std.proofs.lemmas.List.{length-map}
use Rattle.diag_port.specs.Port.{port_of}
use Rattle.diag_bus.specs.Clock.{StartsBelow, moment_end}
use Rattle.diag_bus.specs.declared.clock.Clock.{Clock}
use Rattle.diag_bus.proofs.bus.Bus.new.Goals as goal

pub invariant_of-result : goal.invariant_of-result
invariant_of-result g c = (
  (
    sym (length-map c.in_ok-server.server.ports port_of) ∙ c.in_ok-server.ensures.testers,
    omega (arith, c.in_ok-lists.ensures, c.testers.ensures.same),
    λ i port at. omega (arith, (c.in_ok-server.ensures.ports i port at).stands.stands.now),
    subst (λ (clock : Clock). StartsBelow clock.start moment_end) (sym c.new-3.ensures) tt,
    tt,
    omega arith,
  ),
  c.in_ok-ids.ensures,
  c.in_ok-begin.ensures.begun.0,
)
