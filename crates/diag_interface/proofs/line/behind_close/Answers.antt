use Rattle.std.proofs.Common.{◌+◌, ◌-◌, length, drop, arith, length-drop, sym, ap, ◌∙◌}
use Rattle.std.specs.List.{position_or_len}
use Rattle.std.proofs.lemmas.List.{drop_all, take_all}
use Rattle.diag_interface.specs.Interface.{is_close}
use Rattle.diag_interface.proofs.Texts.{close_at, no_close}
use Rattle.diag_interface.proofs.line.behind_close.Goals as goal

pub returns-in-Some : goal.returns-in-Some
returns-in-Some c =
    let line = c.args.line.now in
    let end = c.in-Some.end in
    take_all (length line - (end + 1)) (drop (end + 1) line) (omega (arith, length-drop (end + 1) line))
    ∙ ap (λ n. drop (n + 1) line) (sym (close_at line end c.in-Some.ensures))

pub returns-in-None : goal.returns-in-None
returns-in-None c =
    let line = c.args.line.now in
    sym (drop_all (position_or_len is_close line + 1) line (omega (arith, no_close line c.in-None.ensures)))
