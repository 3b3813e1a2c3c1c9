use Rattle.std.proofs.Common.{sym, ◌∙◌, arith}
use Rattle.std.proofs.lemmas.List.{length-map}
use Rattle.diag_port.specs.Port.{port_of}
use Rattle.uds_unit.proofs.device.Device.new.Goals as goal

pub invariant_of-result : goal.invariant_of-result
invariant_of-result c = (
  (
    sym (length-map c.in_ok-server.server.ports port_of) ∙ c.in_ok-server.ensures.testers,
    omega (arith, c.in_ok-drawn.ensures, c.testers.ensures.same),
    λ i port at. omega (arith, (c.in_ok-server.ensures.ports i port at).stands.stands.now),
    tt,
  ),
  c.in_ok-ids.ensures,
)
