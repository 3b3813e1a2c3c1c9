use Rattle.diag_desk.proofs.flat.tell_bytes.Goals as goal

pub returns : goal.returns
returns c = λ k. (c.type_inv.bytes k).fits
