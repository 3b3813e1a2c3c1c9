use Rattle.std.proofs.Common.{ap, ◌∙◌}
use Rattle.diag_setup.specs.Setup.{is_fd_of}
use Rattle.diag_setup.specs.declared.raw.RawSetup.{RawSetup}
use Rattle.diag_bus.specs.Drawn.{Drawn}
use Rattle.uds_unit.specs.Calls.{told_fd}
use Rattle.uds_unit.specs.Moments.{moment_us}
use Rattle.uds_unit.proofs.exports.hand_out.Goals as goal

pub returns-in-Some-clause-handed : goal.returns-in-Some-clause-handed
returns-in-Some-clause-handed c = λ is. record {
  drawn = c.in-Some.drawn;
  handed = c.in-Some.ensures.frame;
  at = c.put.ensures.at ∙ ap (λ start. moment_us start c.in-Some.drawn.sent.at) c.start-start.ensures;
  id = c.put.ensures.id;
  tester = c.put.ensures.tester;
  len = c.put.ensures.len;
  fd = c.put.ensures.fd ∙ ap told_fd (c.is_fd-fd.ensures
      ∙ (ap (λ (d : Drawn). is_fd_of c.next.new.self.setup d.who) c.drawn.view_is
      ∙ ap (λ (s : RawSetup). is_fd_of s c.in-Some.drawn.who) c.in-Some.ensures.same.setup));
  bytes = c.put.ensures.bytes;
}
