use Rattle.std.proofs.Common.{◌/◌, ◌%◌, ◌++◌, List, ℕ, append_assoc, ap, ap₂, take, drop, ◌∙◌, arith}
use Rattle.diag_can.proofs.Decimals.{seconds_digits, thousandths_digits}
use Rattle.diag_can.proofs.kept_stamp.KeptStamp.add_digits.Goals as goal

pub returns-clause-items : goal.returns-clause-items
returns-clause-items c =
    let at = c.self.inside.at in
    let old = c.args.text.now.items in
    let kept = c.self.invariant in
    let seconds = c.without_bracket.ensures ∙ ap (λ (w : List ℕ). take 11 (drop 1 w)) kept.seconds_are ∙ seconds_digits (at / 1000) kept.early in
    let thousandths = c.without_close.ensures ∙ ap (λ (w : List ℕ). take 6 w) kept.thousandths_are ∙ thousandths_digits (at % 1000) (omega arith) in
    let here = c.self.view_is in
    rw (← here) (c.add-2.ensures.items ∙ ap₂ (λ (a b : List ℕ). a ++ b) (c.add.ensures.items ∙ ap (λ (w : List ℕ). old ++ w) seconds) thousandths
    ∙ simp append_assoc)
