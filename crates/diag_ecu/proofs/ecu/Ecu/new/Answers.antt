use Rattle.diag_ecu.specs.State.{opening}
use Rattle.diag_ecu.proofs.RuleLemmas.{of_parts}
use Rattle.diag_ecu.proofs.ecu.Ecu.new.Goals as goal

pub returns : goal.returns
returns c = of_parts (opening c.args.setup.now) c.values.result c.in_ok-dids.dids c.in_ok-dtcs.dtcs c.in_ok-routines.routines c.in_ok-security.security
    c.in_ok-answers.answers c.values.ensures c.in_ok-dids.ensures c.in_ok-dtcs.ensures c.in_ok-routines.ensures c.in_ok-security.ensures
    c.in_ok-answers.ensures
