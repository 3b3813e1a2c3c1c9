use Rattle.std.proofs.Common.{◌≡◌, Some, sym}
use Rattle.diag_setup.specs.Setup.{first_holding}
use Rattle.diag_ecu.specs.Respond.{common_checks, own_checks}
use Rattle.diag_ecu.specs.Service.{row}
use Rattle.diag_ecu.proofs.PassLemmas.{first_of_more}
use Rattle.diag_ecu.proofs.ecu.Ecu.refusal.Goals as goal

pub returns-in-Some-clause-first : goal.returns-in-Some-clause-first
returns-in-Some-clause-first c =
    let s = c.args.self.now in
    let found : first_holding (common_checks s c.args.who (row c.args.service) c.args.p.now) ≡ Some c.in-Some.nrc = cc in
    sym (first_of_more (common_checks s c.args.who (row c.args.service) c.args.p.now) (own_checks s c.args.who c.args.service c.args.p.now) c.in-Some.nrc found)
