use Rattle.diag_run.specs.Wanted.{wanted}
use Rattle.diag_run.specs.Devices.{fault_in}
use Rattle.diag_run.proofs.Devices.{device_passed, refused_is, some_same, tells_other, told_as}
use Rattle.diag_run.proofs.Pieces.{err_same, ok_is_no_fault, same_fault, want_same}
use Rattle.std.proofs.Common.{◌≡◌, None, Some, arith, inl, inr, refl, sym, ◌∙◌}
use Rattle.std.proofs.KnownBytes.{Keeps-refl}
use Rattle.std.proofs.lemmas.Result.{err_from_is_err_and}
use Rattle.diag_run.proofs.Following.{config_writes_not, followed, of_the_capture, read_is, refused_behind, stops_reading, write_is}
use Rattle.diag_run.specs.declared.capture.CaptureFault.TheVariants as capture
use Rattle.diag_text.specs.declared.fault.RunFault.TheVariants as run_fault
use Rattle.diag_run.proofs.bus_run.run_bus.Goals as goal

pub returns-in_err-setup-clause-fault : goal.returns-in_err-setup-clause-fault
returns-in_err-setup-clause-fault g c =
    let p = err_from_is_err_and c.from_residual.result c.from_residual.ensures.1 in
    rw (p.1, p.2) (inl (record { ends = c.in_err-setup.ensures.ends; untouched = refl; nothing = Keeps-refl (g.W.Target.contents c.args.out.now) }))

pub returns-in_err-bus-clause-fault : goal.returns-in_err-bus-clause-fault
returns-in_err-bus-clause-fault g c =
    let p = err_from_is_err_and c.from_residual-in_err-bus.result c.from_residual-in_err-bus.ensures.1 in
    rw (p.1, p.2) (inr (refused_behind g.S.Sink g.S.Sink.took g.S.Sink.aim g.S.Sink.written g.S.Ending.ends (wanted g.S.Sink.written g.S.Ending.ends g.S.Sink.aim c.args.sink) c.in_ok-setup.setup _ _ _ _ c.in_ok-setup.ensures.says))

pub returns-in-Ok-clause-done : goal.returns-in-Ok-clause-done
returns-in-Ok-clause-done g c =
    followed g.S.Sink g.S.Sink.took g.S.Sink.aim g.S.Sink.written g.S.Ending.ends (wanted g.S.Sink.written g.S.Ending.ends g.S.Sink.aim c.args.sink) _ c.in_ok-setup.setup _ (want_same g.S.Sink g.S.Sink.took g.S.Sink.aim g.S.Sink.written g.S.Ending.ends g.met.S.Ending.ends_as_asked c.in_ok-bus.bus.sink c.args.sink c.in_ok-bus.ensures.aim) c.in_ok-bus.ensures.setup _ _ _ _ _ _ c.in_ok-setup.ensures.says
    c.in-Ok.status c.in-Ok.ensures.done

pub returns-in-Err-clause-fault : goal.returns-in-Err-clause-fault
returns-in-Err-clause-fault g c =
    rw c.run_fault.ensures
    (inr (stops_reading g.S.Sink g.S.Sink.took g.S.Sink.aim g.S.Sink.written g.S.Ending.ends (wanted g.S.Sink.written g.S.Ending.ends g.S.Sink.aim c.args.sink) _ c.in_ok-setup.setup _ (want_same g.S.Sink g.S.Sink.took g.S.Sink.aim g.S.Sink.written g.S.Ending.ends g.met.S.Ending.ends_as_asked c.in_ok-bus.bus.sink c.args.sink c.in_ok-bus.ensures.aim) c.in_ok-bus.ensures.setup _ _ _ _ _ _ c.in_ok-setup.ensures.says
    c.in-Err.fault c.in-Err.ensures.fault))

-- the config is at fault
pub returns-in_err-setup-clause-tells_config : goal.returns-in_err-setup-clause-tells_config
returns-in_err-setup-clause-tells_config g c =
    let p = err_from_is_err_and c.from_residual.result c.from_residual.ensures.1 in
    device_passed g.R.Source.failed g.R.Source.sound (run_fault.Read 0) _ _ c.read_config.result c.from_residual.result _ _ c.in_err-setup.was p.1 p.2
    c.read_config.ensures.tells

pub returns-in_err-setup-clause-tells_reads : goal.returns-in_err-setup-clause-tells_reads
returns-in_err-setup-clause-tells_reads g c =
    let p = err_from_is_err_and c.from_residual.result c.from_residual.ensures.1 in
    told_as c.from_residual.result (run_fault.Read 1) _ _
    (λ is. absurd (let clash : 1 ≡ 0 = c.read_config.ensures.device 1 (same_fault c.read_config.result c.from_residual.result _ _ (run_fault.Read 1) c.in_err-setup.was p.1 (sym p.2) is) in
    omega (arith, clash)))
    (λ other sound. sound)

pub returns-in_err-setup-clause-tells_writes : goal.returns-in_err-setup-clause-tells_writes
returns-in_err-setup-clause-tells_writes g c =
    let p = err_from_is_err_and c.from_residual.result c.from_residual.ensures.1 in
    told_as c.from_residual.result run_fault.Write _ _
    (λ is. absurd (config_writes_not _ _ c.in_err-setup.field-0.0 c.in_err-setup.ensures.ends (sym p.2 ∙ err_same p.0 run_fault.Write (sym p.1 ∙ is))))
    (λ other sound. sound)

-- memory was refused behind it
pub returns-in_err-bus-clause-tells_config : goal.returns-in_err-bus-clause-tells_config
returns-in_err-bus-clause-tells_config g c =
    let p = err_from_is_err_and c.from_residual-in_err-bus.result c.from_residual-in_err-bus.ensures.1 in
    tells_other g.R.Source.failed g.R.Source.sound (run_fault.Read 0) _ _ None (fault_in c.from_residual-in_err-bus.result) (λ is. cc)
    (refused_is c.from_residual-in_err-bus.result p.0 (run_fault.Read 0) p.1 p.2 (λ is. cc)) c.in_ok-setup.ensures.tells

pub returns-in_err-bus-clause-tells_reads : goal.returns-in_err-bus-clause-tells_reads
returns-in_err-bus-clause-tells_reads g c =
    let p = err_from_is_err_and c.from_residual-in_err-bus.result c.from_residual-in_err-bus.ensures.1 in (
      λ is. absurd (refused_is c.from_residual-in_err-bus.result p.0 (run_fault.Read 1) p.1 p.2 (λ same. cc) is),
      λ other sound. sound,
    )

pub returns-in_err-bus-clause-tells_writes : goal.returns-in_err-bus-clause-tells_writes
returns-in_err-bus-clause-tells_writes g c =
    let p = err_from_is_err_and c.from_residual-in_err-bus.result c.from_residual-in_err-bus.ensures.1 in (
      λ is. absurd (refused_is c.from_residual-in_err-bus.result p.0 run_fault.Write p.1 p.2 (λ same. cc) is),
      λ other sound. sound,
    )

-- the capture went by
pub returns-in-Ok-clause-tells_reads : goal.returns-in-Ok-clause-tells_reads
returns-in-Ok-clause-tells_reads g c =
    (λ is. cc, λ other. c.run_capture.ensures.sound (ok_is_no_fault c.run_capture.result _ capture.Read c.in-Ok.is))

pub returns-in-Ok-clause-tells_writes : goal.returns-in-Ok-clause-tells_writes
returns-in-Ok-clause-tells_writes g c =
    (λ is. cc, λ other. c.run_capture.ensures.unfailed (ok_is_no_fault c.run_capture.result _ capture.Write c.in-Ok.is))

-- it is at fault
pub returns-in-Err-clause-tells_config : goal.returns-in-Err-clause-tells_config
returns-in-Err-clause-tells_config g c =
    tells_other g.R.Source.failed g.R.Source.sound (run_fault.Read 0) _ _ None (Some c.run_fault.result) (λ is. cc)
    (λ is. of_the_capture c.in-Err.fault (sym c.run_fault.ensures ∙ some_same c.run_fault.result (run_fault.Read 0) is)) c.in_ok-setup.ensures.tells

pub returns-in-Err-clause-tells_reads : goal.returns-in-Err-clause-tells_reads
returns-in-Err-clause-tells_reads g c = (
  λ is. let read = read_is c.in-Err.fault 1 (sym c.run_fault.ensures ∙ some_same c.run_fault.result (run_fault.Read 1) is) in
      c.run_capture.ensures.read (rw (c.in-Err.is, read) refl),
  λ other. c.run_capture.ensures.sound
      (λ is. let same : c.in-Err.fault ≡ capture.Read = err_same c.in-Err.fault capture.Read (sym c.in-Err.is ∙ is) in other (rw (c.run_fault.ensures, same) refl)),
)

pub returns-in-Err-clause-tells_writes : goal.returns-in-Err-clause-tells_writes
returns-in-Err-clause-tells_writes g c = (
  λ is. let write = write_is c.in-Err.fault (sym c.run_fault.ensures ∙ some_same c.run_fault.result run_fault.Write is) in
      c.run_capture.ensures.write (rw (c.in-Err.is, write) refl),
  λ other. c.run_capture.ensures.unfailed
      (λ is. let same : c.in-Err.fault ≡ capture.Write = err_same c.in-Err.fault capture.Write (sym c.in-Err.is ∙ is) in other (rw (c.run_fault.ensures, same) refl)),
)
