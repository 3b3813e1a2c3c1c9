use Rattle.std.proofs.Common.{◌≡◌, ◌+◌, ◌-◌, map, take, drop, refl, rules, ◌∙◌}
use Rattle.std.specs.List.{concat}
use Rattle.diag_bus.specs.Writing.{writer_of}
use Rattle.diag_text.specs.Text.{lines_of, lines_from}
use Rattle.diag_text.proofs.Lines.{first_lines, no_lines}
use Rattle.diag_text.proofs.Parts.{whole_lines}
use Rattle.diag_text.proofs.text.+fn-lines_beside-join+arg3+lines_beside.Goals as goal

pub returns-in_default : goal.returns-in_default
returns-in_default g n c = rw c.new.ensures.items
    (no_lines (λ frames. frames.items) c.args.setup.now (c.args.index + 1) c.args.sent.now c.in_default.ensures.cases)

pub returns : goal.returns
returns g n c =
    let setup = c.args.setup.now in
    let frames = c.in-Some.frames.now.items in
    let count = c.len-count.result in
    let w = writer_of setup (c.args.index + 1) in
    let made : concat (map (λ part. part.items) c.in_ok-own.field-0.items) ≡ lines_of w (take (count - 0) (drop 0 frames)) = search rules in
    let own : concat (map (λ part. part.items) c.in_ok-own.field-0.items) ≡ lines_of w frames =
    made ∙ whole_lines w frames 0 count refl c.len-count.ensures in
    let rest : concat (map (λ part. part.items) c.in_ok-others.field-0.items)
    ≡ lines_from setup (c.args.index + 1 + 1) (map (λ frames. frames.items) c.in-Some.rest.now) = search rules in
    rw (first_lines (λ frames. frames.items) setup (c.args.index + 1) c.args.sent.now c.in-Some.frames.now c.in-Some.rest.now
    c.in-Some.ensures.cases.0 _ _ own rest) at c.both.ensures
