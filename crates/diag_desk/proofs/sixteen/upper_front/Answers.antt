use Rattle.std.proofs.Common.{◌≡◌, length, ap, rules, arith}
use Rattle.diag_desk.proofs.Written.{differs, differs-same, first_set_within, written_front}
use Rattle.diag_desk.proofs.sixteen.upper_front.Goals as goal

pub part-requires-clause-inside : goal.part-requires-clause-inside
part-requires-clause-inside c =
    let text = c.args.text.now in
    let digits = c.digits_of_eight.result in
    let within = first_set_within differs digits text 16 c.first_set-run.result (search rules) c.told-text (omega arith) differs-same c.first_set-run.ensures in
    let eight : length c.eight_of_digits-bytes.result ≡ 8 = search rules in
    omega (arith, within, ap length c.full.ensures, eight)

pub returns : goal.returns
returns c =
    let text = c.args.text.now in
    let digits = c.digits_of_eight.result in
    let bytes = c.eight_of_digits-bytes.result in
    let within = first_set_within differs digits text 16 c.first_set-run.result (search rules) c.told-text (omega arith) differs-same c.first_set-run.ensures in
    let eight : length bytes ≡ 8 = search rules in
    let taken = rw c.full.ensures at c.part.ensures in
    written_front differs differs-same bytes digits text c.part.result 16 c.first_set-run.result c.digits_of_eight.ensures (search rules) c.told-text (omega arith)
    c.first_set-run.ensures (omega (arith, within, eight)) taken
