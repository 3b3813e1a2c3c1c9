use Rattle.std.proofs.Common.{inl, inr, subst, sym}
use Rattle.diag_config.specs.Fault.{Fails}
use Rattle.diag_config.specs.Setup.{setup_of}
use Rattle.diag_config.specs.declared.fault.ConfigFault.{ConfigFault}
use Rattle.diag_setup.specs.declared.raw.RawSetup.{RawSetup}
use Rattle.uds_unit.proofs.exports.open.Goals as goal

pub returns-in-Err-clause-fault : goal.returns-in-Err-clause-fault
returns-in-Err-clause-fault c = λ some. record {
  fault = c.tell.ensures.told;
  is = elim c.tell.ensures.is [
    | inl e ↦ subst (λ (f : ConfigFault). Fails {Y = RawSetup} f (setup_of c.args.config.now)) (sym e) c.in-Err.ensures.fault
    | inr e ↦ subst (λ (f : ConfigFault). Fails {Y = RawSetup} f (setup_of c.args.config.now)) (sym e) tt
  ];
  line = c.tell.ensures.line;
  answer = c.tell.ensures.answer;
}
