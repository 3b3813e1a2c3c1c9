use Rattle.std.proofs.Common.{◌≤◌, length, take, inl, refl, sym, ◌∙◌, arith}
use Rattle.std.proofs.lemmas.Result.{IfErr-weaker, IfOk-weaker, err_from_is_err_and}
use Rattle.diag_run.proofs.Following.{first_read_fails, first_refused, followed_from, given_up, stops_from, stops_from_end, then_on, then_stops}
use Rattle.diag_run.proofs.Pieces.{halts_within, ok_is_no_fault, other_fault, same_fault}
use Rattle.diag_run.specs.Capturing.{most_counted}
use Rattle.diag_run.specs.declared.capture.CaptureFault.TheVariants.{Memory, Read, Write}
use Rattle.diag_run.proofs.bus_run.run_capture.Goals as goal

pub returns-in_err-count-clause-fault : goal.returns-in_err-count-clause-fault
returns-in_err-count-clause-fault g c =
    let p = err_from_is_err_and c.from_residual.result c.from_residual.ensures.1 in
    let fails = c.in_err-count.ensures.err in rw (p.1, p.2) (first_read_fails g.S.Sink g.S.Sink.took g.S.Sink.aim g.S.Sink.written g.S.Ending.ends _ _ _ _ _ c.in_err-count.field-0.0 fails.0 fails.1)

pub returns-in_err-taking-clause-fault : goal.returns-in_err-taking-clause-fault
returns-in_err-taking-clause-fault g c =
    let p = err_from_is_err_and c.from_residual-in_err-taking.result c.from_residual-in_err-taking.ensures.1 in
    rw p.1 (first_refused g.S.Sink g.S.Sink.took g.S.Sink.aim g.S.Sink.written g.S.Ending.ends _ _ _ _ _ (take c.in_ok-count.count c.read_piece.new.buffer) p.0 p.2 c.in_ok-count.ensures.read)

pub returns-in_err-take_piece-clause-fault : goal.returns-in_err-take_piece-clause-fault
returns-in_err-take_piece-clause-fault g c =
    let p = err_from_is_err_and c.from_residual-in_err-take_piece.result c.from_residual-in_err-take_piece.ensures.1 in
    let piece = take c.in_ok-count.count c.read_piece.new.buffer in
    let halts = c.in_err-take_piece.ensures.err in
    let fault = c.in_err-take_piece.field-0.0 in
    rw (p.1, p.2)
    (stops_from g.S.Sink g.S.Sink.took g.S.Sink.aim g.S.Sink.written g.S.Ending.ends c.in_ok-taking.taking c.args.bus c.in_ok-taking.ensures.bus c.in_ok-taking.ensures.stands _ _ _ _ piece c.in_ok-count.ensures.read fault
    (halts.0, halts.1, halts_within g.S.Sink g.S.Sink.took g.S.Sink.aim g.S.Sink.written g.S.Ending.ends c.in_ok-taking.taking fault piece halts.0 halts.2))

pub returns-then-count-eq0-clause-done : goal.returns-then-count-eq0-clause-done
returns-then-count-eq0-clause-done g c =
    IfOk-weaker c.finish.result _ _
    (followed_from g.S.Sink g.S.Sink.took g.S.Sink.aim g.S.Sink.written g.S.Ending.ends c.in_ok-taking.taking c.args.bus c.in_ok-taking.ensures.bus c.in_ok-taking.ensures.stands _ _ _ _
    (take c.in_ok-count.count c.read_piece.new.buffer) c.in_ok-count.ensures.read
    c.take_piece.new.self _ c.in_ok-take_piece.ensures.ok (c.in_ok-count.ensures.end c.if-count-eq0.true) c.finish.new.self) c.finish.ensures.ok

pub returns-then-count-eq0-clause-fault : goal.returns-then-count-eq0-clause-fault
returns-then-count-eq0-clause-fault g c =
    IfErr-weaker c.finish.result _ _
    (stops_from_end g.S.Sink g.S.Sink.took g.S.Sink.aim g.S.Sink.written g.S.Ending.ends c.in_ok-taking.taking c.args.bus c.in_ok-taking.ensures.bus c.in_ok-taking.ensures.stands _ _ _ _
    (take c.in_ok-count.count c.read_piece.new.buffer) c.in_ok-count.ensures.read
    c.take_piece.new.self _ c.in_ok-take_piece.ensures.ok (c.in_ok-count.ensures.end c.if-count-eq0.true)) c.finish.ensures.err

pub returns-in_err-follow-clause-fault : goal.returns-in_err-follow-clause-fault
returns-in_err-follow-clause-fault g c =
    let p = err_from_is_err_and c.from_residual-in_err-follow.result c.from_residual-in_err-follow.ensures.1 in
    let taking = c.in_ok-taking.taking in
    let fault = c.in_err-follow.field-0.0 in
    let whole = then_stops g.S.Sink g.S.Sink.took g.S.Sink.aim g.S.Sink.written g.S.Ending.ends taking c.take_piece.new.self _ _ _ _ _ _ (take c.in_ok-count.count c.read_piece.new.buffer) c.in_ok-count.ensures.read
    c.in_ok-take_piece.ensures.ok fault c.in_err-follow.ensures.err in
    rw (p.1, p.2) (stops_from g.S.Sink g.S.Sink.took g.S.Sink.aim g.S.Sink.written g.S.Ending.ends taking c.args.bus c.in_ok-taking.ensures.bus c.in_ok-taking.ensures.stands _ _ _ _ whole.0 whole.1 fault whole.2)

pub returns-clause-done : goal.returns-clause-done
returns-clause-done g c =
    let taking = c.in_ok-taking.taking in
    let whole = then_on g.S.Sink g.S.Sink.took g.S.Sink.aim g.S.Sink.written g.S.Ending.ends taking c.take_piece.new.self _ _ _ _ _ _ (take c.in_ok-count.count c.read_piece.new.buffer) c.in_ok-count.ensures.read
    c.in_ok-take_piece.ensures.ok c.follow.new.taking c.in_ok-follow.ensures.ok in
    IfOk-weaker c.finish-2.result _ _
    (followed_from g.S.Sink g.S.Sink.took g.S.Sink.aim g.S.Sink.written g.S.Ending.ends taking c.args.bus c.in_ok-taking.ensures.bus c.in_ok-taking.ensures.stands _ _ _ _ whole.0 whole.1 c.follow.new.taking _ whole.2
    c.in_ok-follow.ensures.end c.finish-2.new.self) c.finish-2.ensures.ok

pub returns-clause-fault : goal.returns-clause-fault
returns-clause-fault g c =
    let taking = c.in_ok-taking.taking in
    let whole = then_on g.S.Sink g.S.Sink.took g.S.Sink.aim g.S.Sink.written g.S.Ending.ends taking c.take_piece.new.self _ _ _ _ _ _ (take c.in_ok-count.count c.read_piece.new.buffer) c.in_ok-count.ensures.read
    c.in_ok-take_piece.ensures.ok c.follow.new.taking c.in_ok-follow.ensures.ok in
    IfErr-weaker c.finish-2.result _ _
    (stops_from_end g.S.Sink g.S.Sink.took g.S.Sink.aim g.S.Sink.written g.S.Ending.ends taking c.args.bus c.in_ok-taking.ensures.bus c.in_ok-taking.ensures.stands _ _ _ _ whole.0 whole.1 c.follow.new.taking _ whole.2
    c.in_ok-follow.ensures.end) c.finish-2.ensures.err

-- the first read failed
pub returns-in_err-count-clause-read : goal.returns-in_err-count-clause-read
returns-in_err-count-clause-read g c = λ is. inl c.in_err-count.ensures.failed

pub returns-in_err-count-clause-sound : goal.returns-in_err-count-clause-sound
returns-in_err-count-clause-sound g c =
    let p = err_from_is_err_and c.from_residual.result c.from_residual.ensures.1 in
    λ other. absurd (other (rw (p.1, p.2, c.in_err-count.ensures.err.0) refl))

pub returns-in_err-count-clause-write : goal.returns-in_err-count-clause-write
returns-in_err-count-clause-write g c =
    let p = err_from_is_err_and c.from_residual.result c.from_residual.ensures.1 in
    λ is. absurd (other_fault c.from_residual.result p.0 Read Write p.1 (p.2 ∙ c.in_err-count.ensures.err.0) (λ same. cc) is)

-- memory was refused before a line was taken
pub returns-in_err-taking-clause-read : goal.returns-in_err-taking-clause-read
returns-in_err-taking-clause-read g c =
    let p = err_from_is_err_and c.from_residual-in_err-taking.result c.from_residual-in_err-taking.ensures.1 in
    λ is. absurd (other_fault c.from_residual-in_err-taking.result p.0 Memory Read p.1 p.2 (λ same. cc) is)

pub returns-in_err-taking-clause-write : goal.returns-in_err-taking-clause-write
returns-in_err-taking-clause-write g c =
    let p = err_from_is_err_and c.from_residual-in_err-taking.result c.from_residual-in_err-taking.ensures.1 in
    λ is. absurd (other_fault c.from_residual-in_err-taking.result p.0 Memory Write p.1 p.2 (λ same. cc) is)

-- the first piece was not taken
pub returns-in_err-take_piece-clause-read : goal.returns-in_err-take_piece-clause-read
returns-in_err-take_piece-clause-read g c =
    let p = err_from_is_err_and c.from_residual-in_err-take_piece.result c.from_residual-in_err-take_piece.ensures.1 in
    λ is. absurd (c.take_piece.ensures.device.2 (same_fault c.take_piece.result c.from_residual-in_err-take_piece.result _ _ Read c.in_err-take_piece.was p.1 (sym p.2) is))

pub returns-in_err-take_piece-clause-write : goal.returns-in_err-take_piece-clause-write
returns-in_err-take_piece-clause-write g c =
    let p = err_from_is_err_and c.from_residual-in_err-take_piece.result c.from_residual-in_err-take_piece.ensures.1 in
    λ is. c.take_piece.ensures.device.0 (same_fault c.take_piece.result c.from_residual-in_err-take_piece.result _ _ Write c.in_err-take_piece.was p.1 (sym p.2) is)

pub returns-in_err-take_piece-clause-unfailed : goal.returns-in_err-take_piece-clause-unfailed
returns-in_err-take_piece-clause-unfailed g c =
    let p = err_from_is_err_and c.from_residual-in_err-take_piece.result c.from_residual-in_err-take_piece.ensures.1 in
    λ other. c.take_piece.ensures.device.1
    (λ is. other (same_fault c.from_residual-in_err-take_piece.result c.take_piece.result _ _ Write p.1 c.in_err-take_piece.was p.2 is))

-- it ended with the first piece
pub returns-then-count-eq0-clause-read : goal.returns-then-count-eq0-clause-read
returns-then-count-eq0-clause-read g c = λ is. absurd (c.finish.ensures.device.2 is)

pub returns-then-count-eq0-clause-write : goal.returns-then-count-eq0-clause-write
returns-then-count-eq0-clause-write g c = c.finish.ensures.device.0

pub returns-then-count-eq0-clause-unfailed : goal.returns-then-count-eq0-clause-unfailed
returns-then-count-eq0-clause-unfailed g c = λ other sound.
    c.finish.ensures.device.1 other (c.take_piece.ensures.device.1 (ok_is_no_fault c.take_piece.result _ Write c.in_ok-take_piece.was) sound)

-- what followed was not taken
pub returns-in_err-follow-clause-read : goal.returns-in_err-follow-clause-read
returns-in_err-follow-clause-read g c =
    let p = err_from_is_err_and c.from_residual-in_err-follow.result c.from_residual-in_err-follow.ensures.1 in
    let piece = take c.in_ok-count.count c.read_piece.new.buffer in
    let lines : c.take_piece.new.self.lines ≤ length piece = omega (arith, c.in_ok-take_piece.ensures.lines, c.in_ok-taking.ensures.lines) in
    λ is. given_up most_counted c.take_piece.new.self.lines _ _ _ piece c.in_ok-count.ensures.read lines
    (c.follow.ensures.read (same_fault c.follow.result c.from_residual-in_err-follow.result _ _ Read c.in_err-follow.was p.1 (sym p.2) is))

pub returns-in_err-follow-clause-sound : goal.returns-in_err-follow-clause-sound
returns-in_err-follow-clause-sound g c =
    let p = err_from_is_err_and c.from_residual-in_err-follow.result c.from_residual-in_err-follow.ensures.1 in
    λ other sound. c.follow.ensures.sound (λ is. other (same_fault c.from_residual-in_err-follow.result c.follow.result _ _ Read p.1 c.in_err-follow.was p.2 is))
    (c.in_ok-count.ensures.sound sound)

pub returns-in_err-follow-clause-write : goal.returns-in_err-follow-clause-write
returns-in_err-follow-clause-write g c =
    let p = err_from_is_err_and c.from_residual-in_err-follow.result c.from_residual-in_err-follow.ensures.1 in
    λ is. c.follow.ensures.write (same_fault c.follow.result c.from_residual-in_err-follow.result _ _ Write c.in_err-follow.was p.1 (sym p.2) is)

pub returns-in_err-follow-clause-unfailed : goal.returns-in_err-follow-clause-unfailed
returns-in_err-follow-clause-unfailed g c =
    let p = err_from_is_err_and c.from_residual-in_err-follow.result c.from_residual-in_err-follow.ensures.1 in
    λ other sound. c.follow.ensures.unfailed (λ is. other (same_fault c.from_residual-in_err-follow.result c.follow.result _ _ Write p.1 c.in_err-follow.was p.2 is))
    (c.take_piece.ensures.device.1 (ok_is_no_fault c.take_piece.result _ Write c.in_ok-take_piece.was) sound)

-- it went by
pub returns-clause-read : goal.returns-clause-read
returns-clause-read g c = λ is. absurd (c.finish-2.ensures.device.2 is)

pub returns-clause-sound : goal.returns-clause-sound
returns-clause-sound g c = λ other sound. c.follow.ensures.sound (ok_is_no_fault c.follow.result _ Read c.in_ok-follow.was) (c.in_ok-count.ensures.sound sound)

pub returns-clause-write : goal.returns-clause-write
returns-clause-write g c = c.finish-2.ensures.device.0

pub returns-clause-unfailed : goal.returns-clause-unfailed
returns-clause-unfailed g c = λ other sound.
    c.finish-2.ensures.device.1 other (c.follow.ensures.unfailed (ok_is_no_fault c.follow.result _ Write c.in_ok-follow.was)
    (c.take_piece.ensures.device.1 (ok_is_no_fault c.take_piece.result _ Write c.in_ok-take_piece.was) sound))
