use Rattle.std.proofs.Common.{◌≡◌, ◌==◌, true, false, Some, slice_get, add-one, bit_and, eq-eqb, refl}
use Rattle.std.specs.Prelude.{option_map}
use Rattle.std.proofs.lemmas.Bool.{ne_eqb}
use Rattle.std.proofs.lemmas.Result.{on_ok_weaker}
use Rattle.diag_store.specs.Dtcs.{row_pair}
use Rattle.diag_ecu.proofs.ServiceLemmas.{counted_next, counted_joins}
use Rattle.diag_ecu.proofs.ecu.Ecu.report_if.Goals as goal

pub returns-then-status-mask-ne0-clause-text : goal.returns-then-status-mask-ne0-clause-text
returns-then-status-mask-ne0-clause-text c =
    let found : option_map row_pair (slice_get c.args.self.now.dtcs c.args.i) ≡ Some (c.in-Some.code, c.in-Some.status) = cc in
    let some : (bit_and c.in-Some.status c.args.mask == 0) ≡ false = ne_eqb (bit_and c.in-Some.status c.args.mask) 0 c.if-status-mask-ne0.true in
    on_ok_weaker c.append_report.result (counted_joins c.args.self.now.values.availability c.args.mask c.args.self.now.dtcs c.args.i c.in-Some.code
    c.in-Some.status found some _ _) c.append_report.ensures.text

pub returns-else-status-mask-ne0-clause-text : goal.returns-else-status-mask-ne0-clause-text
returns-else-status-mask-ne0-clause-text c =
    let found : option_map row_pair (slice_get c.args.self.now.dtcs c.args.i) ≡ Some (c.in-Some.code, c.in-Some.status) = cc in
    let none : (bit_and c.in-Some.status c.args.mask == 0) ≡ true = eq-eqb (bit_and c.in-Some.status c.args.mask) 0 c.if-status-mask-ne0.false in
    rw (add-one, counted_next c.args.self.now.values.availability c.args.mask c.args.self.now.dtcs c.args.i c.in-Some.code c.in-Some.status found, none) refl
