use Rattle.std.proofs.Common.{[], ◌∷◌, ℕ, List, get_or, ap, sym, ◌∙◌}
use Rattle.diag_can.proofs.Hex.{flags_digit}
use Rattle.diag_can.proofs.reply.flags_digit.Goals as goal

pub returns : goal.returns
returns c = flags_digit c.args.flags c.requires ∙ ap (λ (t : List ℕ). get_or t 1 0 ∷ []) (sym c.digits.ensures)
