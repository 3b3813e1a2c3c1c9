use Rattle.std.proofs.Common.{length, take, ap, rules, ◌∙◌}
use Rattle.std.proofs.lemmas.Nat.{le_bytes_8}
use Rattle.diag_can.proofs.frame.FrameBytes.made_of.Goals as goal

pub returns : goal.returns
returns c =
    let eight = c.eight_of.result in
    ap (take (length c.args.bytes.now))
    (c.to_le_bytes.ensures ∙ le_bytes_8 eight c.from_le_bytes-word.result (search rules) (search rules) c.from_le_bytes-word.ensures)
    ∙ c.eight_of.ensures
