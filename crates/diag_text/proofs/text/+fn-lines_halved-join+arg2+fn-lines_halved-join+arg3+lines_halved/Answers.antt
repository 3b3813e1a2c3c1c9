use Rattle.std.proofs.Common.{◌≡◌, ◌≤◌, ◌+◌, ◌-◌, ◌/◌, ◌++◌, map, take, drop, ap₂, ◌∙◌, rules, arith}
use Rattle.std.specs.List.{concat}
use Rattle.diag_bus.specs.Writing.{writer_of}
use Rattle.diag_text.specs.Text.{lines_of}
use Rattle.diag_text.proofs.Parts.{halves_lines}
use Rattle.diag_text.proofs.text.+fn-lines_halved-join+arg2+fn-lines_halved-join+arg3+lines_halved.Goals as goal

pub returns : goal.returns
returns g n c =
    let w = writer_of c.args.setup.now (c.args.index + 1) in
    let sent = c.args.sent.now.items in
    let from = c.args.part.from in
    let end = c.args.part.end in
    let middle = from + (end - from) / 2 in
    let first : concat (map (λ part. part.items) c.in_ok-first.field-0.items) ≡ lines_of w (take (middle - from) (drop from sent)) = search rules in
    let second : concat (map (λ part. part.items) c.in_ok-second.field-0.items) ≡ lines_of w (take (end - middle) (drop middle sent)) = search rules in
    let order : from ≤ end = c.requires.part.0 in
    let low : from ≤ middle = omega arith in
    let high : middle ≤ end = omega (arith, order) in
    rw (ap₂ ◌++◌ first second ∙ halves_lines w sent from middle end low high) at c.both.ensures
