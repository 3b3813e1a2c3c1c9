use Rattle.std.proofs.Common.{arith}
use Rattle.diag_can.proofs.Hex.{none_written, two_written, three_written}
use Rattle.diag_can.proofs.hex_text.add_few.Goals as goal

pub returns-in-empty-clause-items : goal.returns-in-empty-clause-items
returns-in-empty-clause-items c = none_written _ _ (omega (arith, c.in-empty.len_below))

pub returns-in-len2-clause-items : goal.returns-in-len2-clause-items
returns-in-len2-clause-items c =
    two_written _ _ _ _ _ c.args.bytes.now (omega (arith, c.in-len2.len_at_least, c.in-len2.len_below))
    c.digits-in-len2.ensures c.digits-in-len2-2.ensures c.add-in-len2.ensures.items c.add-in-len2-2.ensures.items

pub returns-in-len3-up-clause-items : goal.returns-in-len3-up-clause-items
returns-in-len3-up-clause-items c =
    three_written _ _ _ _ _ _ _ c.args.bytes.now (omega (arith, c.in-len3-up.len_at_least, c.requires.few))
    c.digits-in-len3-up.ensures c.digits-in-len3-up-2.ensures c.digits-in-len3-up-3.ensures
    c.add-in-len3-up.ensures.items c.add-in-len3-up-2.ensures.items c.add-in-len3-up-3.ensures.items
