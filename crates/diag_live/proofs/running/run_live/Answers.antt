use Rattle.std.proofs.Common.{◌≡◌, Err, None, ap, arith, inl, inr, refl}
use Rattle.std.proofs.KnownBytes.{Keeps-refl}
use Rattle.std.proofs.lemmas.Result.{IfErr-weaker, on_ok_weaker}
use Rattle.diag_text.specs.declared.fault.RunFault.TheVariants.{Read, Write}
use Rattle.diag_run.specs.Devices.{fault_in}
use Rattle.diag_run.proofs.Devices.{some_same, tells_other}
use Rattle.diag_run.proofs.Following.{config_writes_not}
use Rattle.diag_live.proofs.Runnings.{no_config}
use Rattle.diag_live.proofs.running.run_live.Goals as goal

pub returns-in-Ok-clause-done : goal.returns-in-Ok-clause-done
returns-in-Ok-clause-done g c = on_ok_weaker c.live.result (λ lived. record { setup = c.in-Ok.setup; says = c.in-Ok.ensures.says; lived = lived })
    c.live.ensures.done

pub returns-in-Ok-clause-fault : goal.returns-in-Ok-clause-fault
returns-in-Ok-clause-fault g c = IfErr-weaker c.live.result _ _
    (λ came stopped. inr (record { setup = c.in-Ok.setup; says = c.in-Ok.ensures.says; stopped = stopped })) c.live.ensures.fault

pub returns-in-Err-clause-fault : goal.returns-in-Err-clause-fault
returns-in-Err-clause-fault g c = inl (record {
  ends = c.in-Err.ensures.ends;
  untouched = refl;
  nothing = Keeps-refl (g.W.Target.contents c.args.out.now);
  unnoted = Keeps-refl (g.R.Target.contents c.args.recorder.now);
})

pub returns-in-Ok-clause-config : goal.returns-in-Ok-clause-config
returns-in-Ok-clause-config g c =
    tells_other g.C.Source.failed g.C.Source.sound (Read 0) _ _ None (fault_in c.live.result) (λ is. cc)
    (no_config c.in-Ok.setup _ _ _ _ _ _ c.live.result c.live.ensures.fault) c.in-Ok.ensures.tells

pub returns-in-Err-clause-unheard : goal.returns-in-Err-clause-unheard
returns-in-Err-clause-unheard g c = λ is.
    let clash : 1 ≡ 0 = c.in-Err.ensures.device 1 (ap (λ f. Err f) (some_same c.in-Err.fault (Read 1) is)) in absurd (omega (arith, clash))

pub returns-in-Err-clause-writes : goal.returns-in-Err-clause-writes
returns-in-Err-clause-writes g c = (
  λ is. absurd (config_writes_not _ _ c.in-Err.fault c.in-Err.ensures.ends (some_same c.in-Err.fault Write is)),
  λ other. (λ sound. sound, λ sound. sound),
)
