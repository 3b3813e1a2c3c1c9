use Rattle.std.proofs.Common.{ℕ, ◌/◌, ◌%◌, ◌∙◌, ap}
use Rattle.hex.specs.Hex.{encode_upper}
use Rattle.diag_can.specs.Reply.{four_bytes}
use Rattle.diag_can.proofs.Hex.{four_pairs}
use Rattle.diag_can.proofs.reply.wide_identifier.Goals as goal

pub returns : goal.returns
returns c =
    let n = c.get-number.result in
    four_pairs c.digits.result c.digits-2.result c.digits-3.result c.digits-4.result (n / 16777216) (n / 65536 % 256) (n / 256 % 256) (n % 256)
    c.digits.ensures c.digits-2.ensures c.digits-3.ensures c.digits-4.ensures
    ∙ ap (λ (n : ℕ). encode_upper (four_bytes n)) c.get-number.ensures.value
