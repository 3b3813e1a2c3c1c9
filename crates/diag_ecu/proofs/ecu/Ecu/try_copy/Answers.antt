use Rattle.std.proofs.Common.{refl}
use Rattle.diag_ecu.proofs.RuleLemmas.{of_parts}
use Rattle.diag_ecu.proofs.ecu.Ecu.try_copy.Goals as goal

pub returns : goal.returns
returns c = of_parts c.args.self.now c.args.self.now.values c.in_ok-dids.dids c.in_ok-dtcs.dtcs c.in_ok-routines.routines c.in_ok-security.security
    c.in_ok-answers.answers refl c.in_ok-dids.ensures c.in_ok-dtcs.ensures c.in_ok-routines.ensures c.in_ok-security.ensures c.in_ok-answers.ensures
