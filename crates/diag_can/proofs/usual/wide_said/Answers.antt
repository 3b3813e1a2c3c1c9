use Rattle.std.proofs.Common.{◌≡◌, ◌+◌, ℕ, Ok, drop, take, subst, refl, arith}
use Rattle.diag_can.specs.Line.{wide_frame, wide_id_of}
use Rattle.diag_can.proofs.UsualLines.{wide_says}
use Rattle.diag_can.proofs.usual.wide_said.Goals as goal

pub usual-requires : goal.usual-requires
usual-requires c =
    let framed = c.requires.framed in
    record { long = framed.long; seconds = framed.seconds; fraction = framed.fraction }

pub returns : goal.returns
returns c =
    let moment = c.usual.ensures in
    let line = c.args.line.now in
    let place = c.args.place in
    let known = c.args.known.now in
    let behind : place + 9 ≡ place + 8 + 1 = omega arith in
    let frame = subst (λ (n : ℕ). wide_frame known (wide_id_of (take 8 (drop place line))) (drop n line) ≡ Ok c.wide_frame_from.result) behind c.wide_frame_from.ensures in
    rw moment (wide_says line place 8 c.requires refl known c.wide_frame_from.result frame)
