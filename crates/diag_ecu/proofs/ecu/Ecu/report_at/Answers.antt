use Rattle.std.proofs.Common.{◌≡◌, Some, slice_get}
use Rattle.std.specs.Prelude.{option_map}
use Rattle.std.proofs.lemmas.Result.{on_ok_weaker}
use Rattle.diag_store.specs.Dtcs.{row_pair}
use Rattle.diag_ecu.proofs.ServiceLemmas.{report_joins}
use Rattle.diag_ecu.proofs.ecu.Ecu.report_at.Goals as goal

pub returns-clause-text : goal.returns-clause-text
returns-clause-text c =
    let found : option_map row_pair (slice_get c.args.self.now.dtcs c.args.i) ≡ Some (c.in-Some.code, c.in-Some.status) = cc in
    on_ok_weaker c.append_report.result (report_joins c.args.self.now.values.availability c.args.self.now.dtcs c.args.i c.in-Some.code
    c.in-Some.status found _ _) c.append_report.ensures.text
