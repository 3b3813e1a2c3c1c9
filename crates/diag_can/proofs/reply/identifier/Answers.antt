use Rattle.std.proofs.Common.{ℕ, ◌+◌, ◌/◌, ◌%◌, List, ◌∷◌, true, ◌∙◌, ap, sym}
use Rattle.std.specs.Fmt.{digits}
use Rattle.diag_can.specs.Reply.{zero_filled}
use Rattle.diag_can.proofs.Hex.{three_digits, two_digits}
use Rattle.diag_can.proofs.reply.identifier.Goals as goal

pub returns : goal.returns
returns c =
    let n = c.rank-number.result in
    ap (λ (xs : List ℕ). (48 + n / 256) ∷ xs) (two_digits c.digits.result (n % 256) c.digits.ensures)
    ∙ sym (three_digits n (rw c.rank-number.ensures.value c.requires))
    ∙ ap (λ (n : ℕ). zero_filled 3 (digits 16 true n)) c.rank-number.ensures.value
