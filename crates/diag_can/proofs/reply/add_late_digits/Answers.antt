use Rattle.std.proofs.Common.{◌/◌, ◌%◌, List, ℕ, ◌++◌, ◌∙◌, ap, arith, decimal}
use Rattle.diag_can.specs.Reply.{zero_filled}
use Rattle.diag_can.proofs.Decimals.{digit_parts, zero_filled-long}
use Rattle.diag_can.proofs.reply.add_late_digits.Goals as goal

pub returns-clause-items : goal.returns-clause-items
returns-clause-items c =
    let long = zero_filled-long (c.args.at / 1000) c.requires.late (omega (arith, c.ranges.at.fits)) in
    let seconds = c.add.ensures.items ∙ ap (λ (t : List ℕ). c.args.text.now.items ++ t) (c.as_bytes.ensures.value ∙ c.format.ensures.text) in
    let thousandths = c.add-3.ensures.items ∙ ap (λ (t : List ℕ). c.add-2.new.text.items ++ t) c.three_digits.ensures in
    rw long
    (digit_parts c.args.text.now.items (decimal (c.args.at / 1000)) (zero_filled 3 (decimal (c.args.at % 1000)))
    c.add.new.text.items c.add-2.new.text.items c.add-3.new.text.items c.add-4.new.text.items
    seconds c.add-2.ensures.items thousandths c.add-4.ensures.items)
