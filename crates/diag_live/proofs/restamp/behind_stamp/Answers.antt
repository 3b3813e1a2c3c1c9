use Rattle.std.proofs.Common.{◌≡◌, ◌+◌, ◌-◌, length, drop, arith, length-drop, sym, ap, ◌∙◌}
use Rattle.std.specs.List.{position_or_len}
use Rattle.std.proofs.lemmas.List.{drop_all, take_all}
use Rattle.std.proofs.lemmas.List.Sums.{position_or_len_is}
use Rattle.std.proofs.lemmas.Bool.{false_from_ne_true}
use Rattle.diag_live.specs.Live.{is_close}
use Rattle.diag_live.proofs.restamp.behind_stamp.Goals as goal

pub returns-in-Some : goal.returns-in-Some
returns-in-Some c =
    let line = c.args.line.now in
    let end = c.in-Some.end in
    let found = c.in-Some.ensures in
    let place : position_or_len is_close line ≡ end =
    position_or_len_is is_close line end 0 (omega (arith, found.0.high)) (λ k lt. false_from_ne_true _ (found.0.before k (omega arith) lt)) (λ _. found.1) in
    take_all (length line - (end + 1)) (drop (end + 1) line) (omega (arith, length-drop (end + 1) line)) ∙ ap (λ n. drop (n + 1) line) (sym place)

pub returns-in-None : goal.returns-in-None
returns-in-None c =
    let line = c.args.line.now in
    let none = c.in-None.ensures in
    let place : position_or_len is_close line ≡ length line =
    position_or_len_is is_close line (length line) 0 (omega arith) (λ k lt. false_from_ne_true _ (none k (omega arith) lt))
    (λ less. absurd (omega (arith, less))) in
    sym (drop_all (position_or_len is_close line + 1) line (omega (arith, place)))
