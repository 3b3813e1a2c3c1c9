use Rattle.std.proofs.Common.{sym, ap, ◌∙◌}
use Rattle.diag_ecu.specs.declared.effect.Decision.{Decision}
use Rattle.diag_ecu.specs.Respond.{common_checks, own_checks}
use Rattle.diag_ecu.specs.Service.{row}
use Rattle.diag_ecu.proofs.PassLemmas.{none_of_first, none_of_second}
use Rattle.diag_ecu.proofs.Effects.{serving_passes, counting_not_delayed}
use Rattle.diag_ecu.proofs.ecu.Ecu.apply.Goals as goal

pub serve-requires-clause-common : goal.serve-requires-clause-common
serve-requires-clause-common c =
    let a = c.args in
    let service = c.in-Serve.service in
    none_of_first (common_checks a.self.now a.who (row service) a.p.now) (own_checks a.self.now a.who service a.p.now)
    (serving_passes a.self.now a.who a.p.now service (ap (λ (d : Decision). d.effect) (sym c.requires.told) ∙ c.in-Serve.is))

pub serve-requires-clause-own : goal.serve-requires-clause-own
serve-requires-clause-own c =
    let a = c.args in
    let service = c.in-Serve.service in
    none_of_second (common_checks a.self.now a.who (row service) a.p.now) (own_checks a.self.now a.who service a.p.now)
    (serving_passes a.self.now a.who a.p.now service (ap (λ (d : Decision). d.effect) (sym c.requires.told) ∙ c.in-Serve.is))

pub count_wrong_key-requires : goal.count_wrong_key-requires
count_wrong_key-requires c = counting_not_delayed c.args.self.now c.args.who c.args.p.now (ap (λ (d : Decision). d.effect) (sym c.requires.told) ∙ c.in-CountWrongKey.is)
