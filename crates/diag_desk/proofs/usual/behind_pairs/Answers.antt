use Rattle.std.proofs.Common.{◌+◌, ◌*◌, get_or, arith, refl}
use Rattle.std.proofs.lemmas.Option.{slice_get-get_or}
use Rattle.diag_desk.proofs.UsualLemmas.{byte_more, front-none, same_digits}
use Rattle.diag_desk.proofs.usual.behind_pairs.Goals as goal

pub loop-i-init : goal.loop-i-init
loop-i-init c = front-none c.args.text.now

pub loop-i-preserved : goal.loop-i-preserved
loop-i-preserved c =
    let text = c.args.text.now in
    let i = c.loop-i.i in
    let byte = get_or c.args.bytes.now i 0 in
    let high = get_or text (2 * i) 0 in
    let low = get_or text (2 * i + 1) 0 in
    let spelled = same_digits c.digits.result byte high low c.digits.ensures (c.type_inv.bytes i).fits (c.type_inv.text (2 * i)).fits
    (c.type_inv.text (2 * i + 1)).fits
    (omega (arith, c.from_le_bytes.ensures, c.from_le_bytes-in-loop-i.ensures, c.if-from_le_bytes.false)) in
    byte_more text c.args.bytes.now i byte high low c.loop-i.invariant (omega (arith, c.if-text-end.false, c.loop-i-test.true))
    (slice_get-get_or c.args.bytes.now i 0 c.loop-i-test.true) refl refl spelled
