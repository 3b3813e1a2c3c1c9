use Rattle.std.proofs.Common.{◌≡◌, rules}
use Rattle.diag_pdu.specs.Cut.{consecutive_bytes}
use Rattle.diag_pdu.proofs.CutFrames.{consecutive_read}
use Rattle.diag_pdu.proofs.frames.consecutive_frame.Goals as goal

pub returns-clause-read : goal.returns-clause-read
returns-clause-read c = λ max.
    let e : c.append.new.self ≡ consecutive_bytes c.args.sequence_number c.args.part.now = search rules in
    consecutive_read _ c.args.part.now c.args.sequence_number max e c.requires.nibble
