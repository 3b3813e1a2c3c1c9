use Rattle.std.proofs.Common.{◌≡◌, ◌+◌, ◌++◌, map, drop}
use Rattle.std.specs.List.{concat}
use Rattle.diag_text.specs.Text.{lines_from}
use Rattle.diag_text.proofs.text.lines_in_turn.Given as goal

abbrev pub invariant-loop-index : goal.invariant-loop-index
invariant-loop-index l =
    let sent = map (λ frames. frames.items) l.sent in
    concat (map (λ part. part.items) l.parts.items) ++ lines_from l.setup (l.index + 1) (drop l.index sent) ≡ lines_from l.setup 1 sent
