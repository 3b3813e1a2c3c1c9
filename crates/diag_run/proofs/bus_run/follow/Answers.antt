use Rattle.std.proofs.Common.{take, refl, inl, inr, sym, ◌∙◌, length-append, arith}
use Rattle.std.proofs.KnownBytes.{Keeps-refl}
use Rattle.std.proofs.lemmas.List.{length-take-le}
use Rattle.std.proofs.lemmas.Result.{err_from_is_err_and}
use Rattle.diag_run.specs.declared.capture.CaptureFault.TheVariants.{Read, Write}
use Rattle.diag_run.proofs.Following.{one_piece_more, so_far_fails, so_far_stops}
use Rattle.diag_run.proofs.Pieces.{ok_is_no_fault, other_fault, same_fault}
use Rattle.diag_run.proofs.bus_run.follow.Goals as goal

pub returns-in_err-count-clause-err : goal.returns-in_err-count-clause-err
returns-in_err-count-clause-err g c =
    let p = err_from_is_err_and c.from_residual.result c.from_residual.ensures.1 in
    let fails = c.in_err-count.ensures.err in rw (p.1, p.2) (so_far_fails g.S.Sink g.S.Sink.took g.S.Sink.aim g.S.Sink.written g.S.Ending.ends _ _ _ _ _ _ _ c.loop-turn.invariant.so_far c.in_err-count.field-0.0 fails.0 fails.1)

pub returns-in_err-take_piece-clause-err : goal.returns-in_err-take_piece-clause-err
returns-in_err-take_piece-clause-err g c =
    let p = err_from_is_err_and c.from_residual-in_err-take_piece.result c.from_residual-in_err-take_piece.ensures.1 in
    rw (p.1, p.2)
    (so_far_stops g.S.Sink g.S.Sink.took g.S.Sink.aim g.S.Sink.written g.S.Ending.ends _ _ _ _ _ _ _ _ c.loop-turn.invariant.so_far c.in_err-take_piece.field-0.0 (take c.in_ok-count.count c.read_next.new.buffer)
    c.in_ok-count.ensures.read c.in_err-take_piece.ensures.err)

pub returns-clause-err : goal.returns-clause-err
returns-clause-err g c = so_far_fails g.S.Sink g.S.Sink.took g.S.Sink.aim g.S.Sink.written g.S.Ending.ends _ _ _ _ _ _ _ c.loop-turn.invariant.so_far Read refl (Keeps-refl (g.R.Source.remaining c.loop-turn.capture))

pub loop-turn-preserved : goal.loop-turn-preserved
unfolding one_piece_more
loop-turn-preserved g c =
    let was = c.loop-turn.invariant in
    let piece = take c.in_ok-count.count c.read_next.new.buffer in
    let size = length-append was.so_far.bytes piece in
    let count = length-take-le c.in_ok-count.count c.read_next.new.buffer c.in_ok-count.ensures.within in
    let some = c.if-count-eq0.false in
    record {
      so_far = one_piece_more g.S.Sink g.S.Sink.took g.S.Sink.aim g.S.Sink.written g.S.Ending.ends _ _ _ _ _ _ _ _ was.so_far c.take_piece.new.self piece c.in_ok-count.ensures.read
          c.in_ok-take_piece.ensures.ok c.in_ok-take_piece.ensures.written;
      turns = omega (arith, size, count, some, was.turns);
      lines = omega (arith, size, was.lines, c.in_ok-take_piece.ensures.lines);
      flushed = c.in_ok-take_piece.ensures.flushed;
      sound = λ sound. c.in_ok-count.ensures.sound (was.sound sound);
      unfailed = λ sound. c.take_piece.ensures.device.1 (ok_is_no_fault c.take_piece.result _ Write c.in_ok-take_piece.was) (was.unfailed sound);
    }

-- a read failed
pub returns-in_err-count-clause-read : goal.returns-in_err-count-clause-read
returns-in_err-count-clause-read g c = λ is. inl c.in_err-count.ensures.failed

pub returns-in_err-count-clause-sound : goal.returns-in_err-count-clause-sound
returns-in_err-count-clause-sound g c =
    let p = err_from_is_err_and c.from_residual.result c.from_residual.ensures.1 in
    λ other. absurd (other (rw (p.1, p.2, c.in_err-count.ensures.err.0) refl))

pub returns-in_err-count-clause-write : goal.returns-in_err-count-clause-write
returns-in_err-count-clause-write g c =
    let p = err_from_is_err_and c.from_residual.result c.from_residual.ensures.1 in
    λ is. absurd (other_fault c.from_residual.result p.0 Read Write p.1 (p.2 ∙ c.in_err-count.ensures.err.0) (λ same. cc) is)

pub returns-in_err-count-clause-unfailed : goal.returns-in_err-count-clause-unfailed
returns-in_err-count-clause-unfailed g c = λ other. c.loop-turn.invariant.unfailed

-- the piece was not taken
pub returns-in_err-take_piece-clause-read : goal.returns-in_err-take_piece-clause-read
returns-in_err-take_piece-clause-read g c =
    let p = err_from_is_err_and c.from_residual-in_err-take_piece.result c.from_residual-in_err-take_piece.ensures.1 in
    λ is. absurd (c.take_piece.ensures.device.2 (same_fault c.take_piece.result c.from_residual-in_err-take_piece.result _ _ Read c.in_err-take_piece.was p.1 (sym p.2) is))

pub returns-in_err-take_piece-clause-sound : goal.returns-in_err-take_piece-clause-sound
returns-in_err-take_piece-clause-sound g c = λ other sound. c.in_ok-count.ensures.sound (c.loop-turn.invariant.sound sound)

pub returns-in_err-take_piece-clause-write : goal.returns-in_err-take_piece-clause-write
returns-in_err-take_piece-clause-write g c =
    let p = err_from_is_err_and c.from_residual-in_err-take_piece.result c.from_residual-in_err-take_piece.ensures.1 in
    λ is. c.take_piece.ensures.device.0 (same_fault c.take_piece.result c.from_residual-in_err-take_piece.result _ _ Write c.in_err-take_piece.was p.1 (sym p.2) is)

pub returns-in_err-take_piece-clause-unfailed : goal.returns-in_err-take_piece-clause-unfailed
returns-in_err-take_piece-clause-unfailed g c =
    let p = err_from_is_err_and c.from_residual-in_err-take_piece.result c.from_residual-in_err-take_piece.ensures.1 in
    λ other sound. c.take_piece.ensures.device.1
    (λ is. other (same_fault c.from_residual-in_err-take_piece.result c.take_piece.result _ _ Write p.1 c.in_err-take_piece.was p.2 is)) (c.loop-turn.invariant.unfailed sound)

-- the lines of a next piece can't be counted
pub returns-then-lines-gt-LINES_BEFORE_A_READ-clause-err : goal.returns-then-lines-gt-LINES_BEFORE_A_READ-clause-err
returns-then-lines-gt-LINES_BEFORE_A_READ-clause-err g c = so_far_fails g.S.Sink g.S.Sink.took g.S.Sink.aim g.S.Sink.written g.S.Ending.ends _ _ _ _ _ _ _ c.loop-turn.invariant.so_far Read refl (Keeps-refl (g.R.Source.remaining c.loop-turn.capture))

pub returns-then-lines-gt-LINES_BEFORE_A_READ-clause-read : goal.returns-then-lines-gt-LINES_BEFORE_A_READ-clause-read
returns-then-lines-gt-LINES_BEFORE_A_READ-clause-read g c =
    let was = c.loop-turn.invariant in
    λ is. inr (was.so_far.bytes, was.so_far.read, omega (arith, was.lines, c.if-lines-gt-LINES_BEFORE_A_READ.true, c.lines.ensures))

pub returns-clause-read : goal.returns-clause-read
returns-clause-read g c =
    let was = c.loop-turn.invariant in
    λ is. inr (was.so_far.bytes, was.so_far.read, omega (arith, was.turns, c.loop-turn-test.false))
