use Rattle.diag_text.proofs.Pieces.{begun_on, no_feed}
use Rattle.diag_text.proofs.taking.LineTakerTakePieces.take_piece.Goals as goal

pub returns-in_default-clause-took : goal.returns-in_default-clause-took
returns-in_default-clause-took g c =
    let took = g.L.TakeLines.took c.args.self.now.lines in
    begun_on took took c.extend_from_slice.result c.args.self.now.begun.items c.args.piece.now c.extend_from_slice.new.self.items
    (no_feed c.args.piece.now c.in_default.ensures) c.extend_from_slice.ensures.items
