use Rattle.std.proofs.Common.{arith, ap, rules, subst, sym, ◌∙◌}
use Rattle.std.specs.Prelude.{IsOk}
use Rattle.std.proofs.lemmas.Nat.{le_bytes_8}
use Rattle.hex.specs.Hex.{decode_of}
use Rattle.diag_can.specs.FrameText.{IsLastEight}
use Rattle.diag_can.proofs.Sixteen.{last_sixteen}
use Rattle.diag_can.proofs.frame_text.last_eight.Goals as goal

pub returns : goal.returns
returns c =
    let word = le_bytes_8 c.eight_of_digits.result c.from_le_bytes.result (search rules) (search rules) c.from_le_bytes.ensures in
    subst (λ b. IsLastEight c.args.text.now b) (sym word) (λ n e few.
    let same = last_sixteen c.args.text.now (omega arith) n few in
    sym (ap decode_of same) ∙ c.eight_of_digits.ensures n few (subst (λ t. IsOk (decode_of t)) (sym same) e.hex))
