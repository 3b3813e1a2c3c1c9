use Rattle.std.proofs.Common.{length, take, sym, ap, ◌∙◌, arith}
use Rattle.std.proofs.lemmas.List.{take_all}
use Rattle.diag_interface.proofs.Texts.{close_at, no_close}
use Rattle.diag_interface.proofs.line.before_close.Goals as goal

pub returns-in-Some : goal.returns-in-Some
returns-in-Some c = ap (λ n. take n c.args.line.now) (sym (close_at c.args.line.now c.in-Some.end c.in-Some.ensures))

pub returns-in-None : goal.returns-in-None
returns-in-None c =
    let line = c.args.line.now in
    sym (ap (λ n. take n line) (no_close line c.in-None.ensures) ∙ take_all (length line) line (omega arith))
