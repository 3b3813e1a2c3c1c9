use Rattle.std.proofs.Common.{ap, subst, sym, refl, rules, ◌∙◌}
use Rattle.std.specs.Prelude.{IsOk}
use Rattle.std.proofs.lemmas.Nat.{le_bytes_8}
use Rattle.hex.specs.Hex.{decode_of}
use Rattle.diag_can.specs.FrameText.{IsLastEight}
use Rattle.diag_can.proofs.Sixteen.{few_digits}
use Rattle.diag_can.proofs.frame_text.eight_of_few.Goals as goal

pub returns : goal.returns
returns c =
    let eight = c.eight_of_digits.result in
    let same = le_bytes_8 eight c.from_le_bytes.result (search rules) (search rules) c.from_le_bytes.ensures in
    subst (λ b. IsLastEight c.args.text.now b) (sym same) (λ n e few.
    let same = few_digits _ c.copy_from_slice.new.self c.args.text.now n refl c.copy_from_slice.ensures.after c.requires e.inside in
    sym (ap decode_of same) ∙ c.eight_of_digits.ensures n few (subst (λ t. IsOk (decode_of t)) (sym same) e.hex))
