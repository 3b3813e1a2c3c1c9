use Rattle.std.proofs.Common.{◌≡◌, ◌+◌, ◌-◌, ◌*◌, length, arith}
use Rattle.diag_can.proofs.Hex.{ends_written}
use Rattle.diag_can.proofs.hex_text.add_ends.Goals as goal

pub returns-clause-items : goal.returns-clause-items
returns-clause-items c =
    let old = c.args.text.now in
    let bytes = c.args.bytes.now in
    let end : c.len.result + 2 * (length bytes - 4) ≡ length old.items + 2 * (length bytes - 4) =
    omega (arith, c.len.ensures, old.ok.0) in
    ends_written old.items c.add.new.text.items c.truncate.new.self.items c.add-2.new.text.items
    c.digits_of_eight-digits.result c.ends.result bytes _ c.requires.some c.requires.few
    c.ends.ensures c.digits_of_eight-digits.ensures c.add.ensures.items end c.truncate.ensures.items c.add-2.ensures.items
