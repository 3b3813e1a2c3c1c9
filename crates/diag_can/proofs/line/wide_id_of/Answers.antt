use Rattle.diag_can.proofs.WideIds.{of_eight}
use Rattle.diag_can.proofs.line.wide_id_of.Goals as goal

pub returns-in-len8 : goal.returns-in-len8
returns-in-len8 c =
    of_eight c.args.digits.now c.four_value.result c.four_value-in-len8.result c.extended.result c.in-len8.len_at_least c.in-len8.len_below
    c.four_value.ensures.value c.four_value-in-len8.ensures.value c.extended.ensures.found c.extended.ensures.value
