use Rattle.std.proofs.Common.{List, ℕ, ap, subst, sym, ◌∙◌}
use Rattle.std.proofs.lemmas.Result.{on_ok_weaker}
use Rattle.diag_can.specs.FrameText.{bytes_or_none}
use Rattle.diag_bus.specs.Comparing.{Records, shown}
use Rattle.diag_bus.proofs.comparing.Comparison.record_long.Goals as goal

pub returns : goal.returns
returns c = on_ok_weaker c.record.result (λ records bytes is.
    subst (λ (b : List ℕ). Records c.args.self.now c.record.new.self (shown c.args.line b)) (c.as_slice.ensures.bytes ∙ ap bytes_or_none (sym c.set_digits.ensures ∙ is)) records) c.record.ensures
