use Rattle.diag_can.specs.declared.frame.KnownId.{KnownId}
use Rattle.std.proofs.Common.{◌≡◌, ◌+◌, ◌-◌, ◌^◌, List, min, [], refl, ap, ◌∙◌, subst, arith}
use Rattle.std.proofs.KnownBytes.{Appends-nil}
use Rattle.std.proofs.lemmas.Result.{IfErr-weaker, err_from_is_err_and, on_ok_weaker}
use Rattle.diag_setup.specs.Setup.{known_ids}
use Rattle.diag_bus.specs.Bus.{BusState}
use Rattle.diag_bus.specs.declared.replies.Replies.{Replies}
use Rattle.diag_bus.specs.declared.sink.Sink.{Ghosts}
use Rattle.diag_run.specs.declared.capture.Capture.{Capture}
use Rattle.diag_live.specs.Hearing.{Refuses}
use Rattle.diag_live.proofs.Servings.{bad_line_halts, bad_serve_halts, refused_halts, serve_goes_on, serve_halts}
use Rattle.diag_live.proofs.serving.Serving.serve.Goals as goal

-- what is read is what the setup has
known_is : {g : Ghosts Replies} (known : List KnownId) (bus : BusState Replies) (mid old : Capture Replies g) → known ≡ known_ids bus.setup → bus ≡ mid.bus → mid ≡ old
    → known ≡ known_ids old.bus.setup
known_is {g} known bus mid old by same kept = by ∙ (ap (λ (b : BusState Replies). known_ids b.setup) same ∙ ap (λ (c : Capture Replies g). known_ids c.bus.setup) kept)

pub returns-in_err-ticks-clause-err : goal.returns-in_err-ticks-clause-err
returns-in_err-ticks-clause-err g c =
    let p = err_from_is_err_and c.from_residual.result c.from_residual.ensures.1 in
    rw (p.1, p.2) (
      [],
      Appends-nil (g.W.Target.contents c.args.out.now),
      ([], Appends-nil (g.R.Target.contents c.args.recorder.now), refused_halts c.args.self.now c.args.piece.now),
    )

pub returns-in-Err-Memory-clause-err : goal.returns-in-Err-Memory-clause-err
returns-in-Err-Memory-clause-err g c = (
  [],
  Appends-nil (g.W.Target.contents c.args.out.now),
  ([], Appends-nil (g.R.Target.contents c.args.recorder.now), refused_halts c.args.self.now c.args.piece.now),
)

pub returns-in-Ok-clause-ok : goal.returns-in-Ok-clause-ok
returns-in-Ok-clause-ok g c =
    let t = c.in_ok-ticks.ensures.text in
    on_ok_weaker c.deliver.result (λ d. (
      d.0,
      d.1,
      (
        d.2.0,
        d.2.1,
        serve_goes_on c.known-known.result.now c.pass.new.self.hearing (c.args.now - c.args.self.now.told) c.in_ok-ticks.ticks c.pass.new.self.text.items c.take_piece.new.text.items c.args.piece.now t.0 t.1
            c.args.self.now (known_is _ _ _ _ c.known-known.ensures c.bus.ensures c.pass.ensures.capture) c.pass.new.self.capture c.pass.ensures.hearing c.pass.ensures.capture
            c.args.now refl c.deliver.new.self (c.deliver.ensures.told ∙ c.in_ok-ticks.ensures.told) c.take_piece.new.self
            c.in-Ok.ensures.ok c.deliver.ensures.hearing d.0 d.2.0 d.2.2,
      ),
    ))
    c.deliver.ensures.ok

pub returns-in-Ok-clause-err : goal.returns-in-Ok-clause-err
returns-in-Ok-clause-err g c =
    let t = c.in_ok-ticks.ensures.text in
    let place : c.saturating_add-first.result ≡ min (c.pass.new.self.capture.lines + c.in_ok-ticks.ticks) (2 ^ 64 - 1) =
    omega (arith, c.saturating_add-first.ensures, c.lines.ensures) in
    IfErr-weaker c.deliver.result _ _ (λ came u. (
      u.0,
      u.1,
      (
        u.2.0,
        u.2.1,
        serve_halts c.known-known.result.now c.pass.new.self.hearing (c.args.now - c.args.self.now.told) c.in_ok-ticks.ticks c.pass.new.self.text.items c.take_piece.new.text.items c.args.piece.now t.0 t.1
            c.args.self.now (known_is _ _ _ _ c.known-known.ensures c.bus.ensures c.pass.ensures.capture) c.pass.new.self.capture c.pass.ensures.hearing c.pass.ensures.capture c.take_piece.new.self c.in-Ok.ensures.ok
            c.lines-heard.result c.saturating_add-first.result c.lines-heard.ensures place u.0 u.2.0 came u.2.2,
      ),
    ))
    c.deliver.ensures.err

pub returns-in-Err-clause-err : goal.returns-in-Err-clause-err
returns-in-Err-clause-err g c =
    let t = c.in_ok-ticks.ensures.text in
    let place : c.saturating_add-first.result ≡ min (c.pass.new.self.capture.lines + c.in_ok-ticks.ticks) (2 ^ 64 - 1) =
    omega (arith, c.saturating_add-first.ensures, c.lines.ensures) in
    let u = c.in-Err.ensures.err in (
      u.0,
      u.1,
      (
        u.2.0,
        u.2.1,
        bad_serve_halts c.known-known.result.now c.pass.new.self.hearing (c.args.now - c.args.self.now.told) c.in_ok-ticks.ticks c.pass.new.self.text.items c.take_piece.new.text.items c.args.piece.now t.0 t.1
            c.args.self.now (known_is _ _ _ _ c.known-known.ensures c.bus.ensures c.pass.ensures.capture) c.pass.new.self.capture c.pass.ensures.hearing c.pass.ensures.capture c.in-Err-Line.number c.in-Err-Line.fault
            (subst (Refuses c.known-known.result.now c.pass.new.self.hearing c.args.piece.now c.pass.new.self.text.items c.take_piece.new.text.items) c.in-Err-Line.field-0-is
            c.in-Err-Line.ensures.err)
            c.lines-heard.result c.saturating_add-first.result c.lines-heard.ensures place u.0 u.2.0 c.in-Err.earlier u.2.2,
      ),
    )

pub returns-in_default-clause-err : goal.returns-in_default-clause-err
returns-in_default-clause-err g c =
    let t = c.in_ok-ticks.ensures.text in
    let d = c.in_default.ensures.ok in (
      d.0,
      d.1,
      (
        d.2.0,
        d.2.1,
        bad_line_halts c.known-known.result.now c.pass.new.self.hearing (c.args.now - c.args.self.now.told) c.in_ok-ticks.ticks c.pass.new.self.text.items c.take_piece.new.text.items c.args.piece.now t.0 t.1
            c.args.self.now (known_is _ _ _ _ c.known-known.ensures c.bus.ensures c.pass.ensures.capture) c.pass.new.self.capture c.pass.ensures.hearing c.pass.ensures.capture c.deliver-in-Err-Line.new.self c.in-Err-Line.number
            c.in-Err-Line.fault
            (subst (Refuses c.known-known.result.now c.pass.new.self.hearing c.args.piece.now c.pass.new.self.text.items c.take_piece.new.text.items) c.in-Err-Line.field-0-is
            c.in-Err-Line.ensures.err)
            d.0 d.2.0 d.2.2,
      ),
    )
