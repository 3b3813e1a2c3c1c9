use Rattle.std.proofs.Common.{arith}
use Rattle.diag_can.proofs.Fronts.{is_usual, said_line}
use Rattle.diag_can.proofs.front.wide_front.Goals as goal

pub wide_said-requires : goal.wide_said-requires
wide_said-requires c =
    let run = c.hex_of_sixteen.ensures in
    is_usual c.args.text.now c.in_ok-line.line.now c.in_ok-line.after.now c.args.place 8 c.requires.begins c.in_ok-line.ensures
    (λ k from to. run.pass k from (omega (arith, c.if-hex_of_sixteen-ne8.false))) c.if-text-place-ne35.false

pub returns : goal.returns
returns c =
    let run = c.hex_of_sixteen.ensures in
    let first = c.told.ensures in
    rw (first.line, first.after, first.said)
    (said_line c.args.text.now c.in_ok-line.line.now c.in_ok-line.after.now c.args.place 8 c.requires.begins c.in_ok-line.ensures
    (λ k from to. run.pass k from (omega (arith, c.if-hex_of_sixteen-ne8.false))) c.if-text-place-ne35.false
    c.args.known.now c.wide_said.result (omega arith) c.wide_said.ensures)
