use Rattle.std.proofs.Common.{◌≡◌, ◌+◌, subst}
use Rattle.diag_text.specs.Part.{part_lines}
use Rattle.diag_text.proofs.text.lines_alone.Goals as goal

pub returns : goal.returns
returns c =
    let setup = c.args.setup.now in
    let who = c.who-who.ensures in
    let own : c.in_ok-lines.lines.items ≡ part_lines setup (c.args.index + 1) c.args.sent.now c.args.part =
    subst (λ n. c.in_ok-lines.lines.items ≡ part_lines setup n c.args.sent.now c.args.part) who c.in_ok-lines.ensures in
    rw own at c.one_part.ensures
