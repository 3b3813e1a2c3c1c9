use Rattle.std.proofs.Common.{Err, Some, ap, inl, inr, subst, arith, ◌∙◌}
use Rattle.std.proofs.KnownBytes.{Keeps-refl}
use Rattle.std.proofs.lemmas.Result.{err_from_is_err_and}
use Rattle.diag_text.specs.declared.fault.RunFault.TheVariants.{Read, Write}
use Rattle.diag_run.proofs.Devices.{refused_is, some_same}
use Rattle.diag_live.specs.Pace.{Did}
use Rattle.diag_live.specs.Serving.{Turned}
use Rattle.diag_live.proofs.Runnings.{begun, err_same, gives_up, halted, refused_first, times_asked-turn, turned_off, turned_on, unheard}
use Rattle.diag_live.proofs.running.live.Goals as goal

pub returns-in_err-bus-clause-fault : goal.returns-in_err-bus-clause-fault
returns-in_err-bus-clause-fault g c =
    let p = err_from_is_err_and c.from_residual.result c.from_residual.ensures.1 in
    rw p.1 (refused_first c.args.setup p.0 _ _ _ _ p.2 (Keeps-refl (g.B.Bench.remaining c.args.bench.now)))

pub returns-in_err-serving-clause-fault : goal.returns-in_err-serving-clause-fault
returns-in_err-serving-clause-fault g c =
    let p = err_from_is_err_and c.from_residual-in_err-serving.result c.from_residual-in_err-serving.ensures.1 in
    rw (p.1, c.now.ensures.remaining) (refused_first c.args.setup p.0 _ _ _ _ p.2 (Keeps-refl (g.B.Bench.remaining c.args.bench.now)))

pub loop-turn_number-init : goal.loop-turn_number-init
loop-turn_number-init g c = record {
  so_far = rw c.now.ensures.remaining (begun c.args.setup (Did g.B.Bench.story c.args.bench.now c.now.new.self) c.in_ok-serving.serving c.now.result _ _ _ _
      (Keeps-refl (g.B.Bench.remaining c.args.bench.now)) c.in_ok-serving.ensures.stands.0 c.in_ok-serving.ensures.stands.1 c.in_ok-serving.ensures.told
      c.now.ensures.story (c.in_ok-serving.ensures.setup ∙ c.in_ok-bus.ensures.setup));
  turns = omega arith;
  flushed = λ some. absurd (omega (arith, some, c.in_ok-serving.ensures.lines));
  unfailed = (λ sound. sound, λ sound. sound);
}

pub returns-in-Ok-false-clause-done : goal.returns-in-Ok-false-clause-done
returns-in-Ok-false-clause-done g c = turned_off g.B.Bench.story c.args.bench.now c.loop-turn_number.bench c.turn.new.bench c.args.setup c.loop-turn_number.serving c.turn.new.serving _ _ _ _ _ _ _ _ _ c.loop-turn_number.invariant.so_far
    (subst (Turned (Did g.B.Bench.story c.loop-turn_number.bench c.turn.new.bench) c.loop-turn_number.serving c.turn.new.serving (g.B.Bench.remaining c.loop-turn_number.bench) (g.B.Bench.remaining c.turn.new.bench)
    (g.W.Target.contents c.loop-turn_number.out) (g.W.Target.contents c.turn.new.out)
    (g.R.Target.contents c.loop-turn_number.recorder) (g.R.Target.contents c.turn.new.recorder)) c.in-Ok-false.field-0-test c.in-Ok-false.ensures.ok)

pub returns-in-Err-clause-fault : goal.returns-in-Err-clause-fault
returns-in-Err-clause-fault g c = elim c.in-Err.ensures.err [
  | inl h ↦ halted g.B.Bench.story c.args.bench.now c.loop-turn_number.bench c.turn.new.bench c.args.setup c.loop-turn_number.serving c.turn.new.serving _ _ _ _ _ _ _ _ _ c.loop-turn_number.invariant.so_far c.in-Err.fault h
  | inr h ↦ unheard g.B.Bench.story c.args.bench.now c.loop-turn_number.bench c.turn.new.bench c.args.setup c.loop-turn_number.serving c.turn.new.serving _ _ _ _ _ _ _ _ _ c.loop-turn_number.invariant.so_far c.in-Err.fault h
]

pub loop-turn_number-preserved : goal.loop-turn_number-preserved
loop-turn_number-preserved g c =
    let turn = subst (Turned (Did g.B.Bench.story c.loop-turn_number.bench c.turn.new.bench) c.loop-turn_number.serving c.turn.new.serving (g.B.Bench.remaining c.loop-turn_number.bench) (g.B.Bench.remaining c.turn.new.bench)
    (g.W.Target.contents c.loop-turn_number.out) (g.W.Target.contents c.turn.new.out)
    (g.R.Target.contents c.loop-turn_number.recorder) (g.R.Target.contents c.turn.new.recorder)) c.in-Ok-true.field-0-test c.in-Ok-true.ensures.ok in
    let so_far = c.loop-turn_number.invariant.so_far in
    let was = c.loop-turn_number.invariant.unfailed in
    let is = c.in-Ok-true.ensures.unfailed (λ same. cc) in
    record {
      so_far = turned_on g.B.Bench.story c.args.bench.now c.loop-turn_number.bench c.turn.new.bench c.args.setup c.loop-turn_number.serving c.turn.new.serving _ _ _ _ _ _ _ _ _ so_far turn;
      turns = omega (arith, c.loop-turn_number.invariant.turns, times_asked-turn so_far.steps turn.0);
      flushed = λ _. c.in-Ok-true.ensures.flushed;
      unfailed = (λ sound. is.0 (was.0 sound), λ sound. is.1 (was.1 sound));
    }

pub returns-in-Err-clause-unheard : goal.returns-in-Err-clause-unheard
returns-in-Err-clause-unheard g c = λ same.
    gives_up g.B.Bench.story c.args.bench.now c.loop-turn_number.bench c.turn.new.bench c.args.setup c.loop-turn_number.serving _ _ _ _ _ _ _ _ _ c.loop-turn_number.invariant.so_far
    c.in-Err.fault c.in-Err.ensures.err (some_same c.in-Err.fault _ same)

pub returns-in_err-bus-clause-writes : goal.returns-in_err-bus-clause-writes
returns-in_err-bus-clause-writes g c =
    let p = err_from_is_err_and c.from_residual.result c.from_residual.ensures.1 in
    (λ is. absurd (refused_is c.from_residual.result p.0 Write p.1 p.2 (λ same. cc) is), λ other. (λ sound. sound, λ sound. sound))

pub returns-in_err-serving-clause-writes : goal.returns-in_err-serving-clause-writes
returns-in_err-serving-clause-writes g c =
    let p = err_from_is_err_and c.from_residual-in_err-serving.result c.from_residual-in_err-serving.ensures.1 in
    (λ is. absurd (refused_is c.from_residual-in_err-serving.result p.0 Write p.1 p.2 (λ same. cc) is), λ other. (λ sound. sound, λ sound. sound))

pub returns-in_err-bus-clause-unheard : goal.returns-in_err-bus-clause-unheard
returns-in_err-bus-clause-unheard g c =
    let p = err_from_is_err_and c.from_residual.result c.from_residual.ensures.1 in
    λ is. absurd (refused_is c.from_residual.result p.0 (Read 1) p.1 p.2 (λ same. cc) is)

pub returns-in_err-serving-clause-unheard : goal.returns-in_err-serving-clause-unheard
returns-in_err-serving-clause-unheard g c =
    let p = err_from_is_err_and c.from_residual-in_err-serving.result c.from_residual-in_err-serving.ensures.1 in
    λ is. absurd (refused_is c.from_residual-in_err-serving.result p.0 (Read 1) p.1 p.2 (λ same. cc) is)

pub returns-in-Ok-false-clause-writes : goal.returns-in-Ok-false-clause-writes
returns-in-Ok-false-clause-writes g c =
    let was = c.loop-turn_number.invariant.unfailed in
    let is = c.in-Ok-false.ensures.unfailed (λ same. cc) in
    (λ same. cc, λ other. (λ sound. is.0 (was.0 sound), λ sound. is.1 (was.1 sound)))

pub returns-in-Err-clause-writes : goal.returns-in-Err-clause-writes
returns-in-Err-clause-writes g c =
    let was = c.loop-turn_number.invariant.unfailed in (
      λ same. c.in-Err.ensures.write (ap (λ f. Err f) (some_same c.in-Err.fault Write same)),
      λ other. let is = c.in-Err.ensures.unfailed (λ same. other (ap (λ f. Some f) (err_same c.in-Err.fault Write same))) in
          (λ sound. is.0 (was.0 sound), λ sound. is.1 (was.1 sound)),
    )

pub returns-clause-writes : goal.returns-clause-writes
returns-clause-writes g c = (λ same. cc, λ other. c.loop-turn_number.invariant.unfailed)
