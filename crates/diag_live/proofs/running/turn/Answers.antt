use Rattle.std.proofs.Common.{ℕ, List, [], inr, refl, subst}
use Rattle.std.proofs.KnownBytes.{Consumes-nil, Consumes-kept}
use Rattle.diag_live.specs.declared.bench.Heard.TheVariants as heard
use Rattle.diag_live.specs.Pace.{Did}
use Rattle.diag_live.specs.Serving.{ServingGoesOn}
use Rattle.diag_live.proofs.Runnings.{turn_ends, turn_goes_on, turn_refused, turn_unheard}
use Rattle.diag_live.proofs.running.turn.Goals as goal

pub returns-in_ok-serve-in-Piece-clause-ok : goal.returns-in_ok-serve-in-Piece-clause-ok
returns-in_ok-serve-in-Piece-clause-ok g c =
    let d = c.in_ok-serve-in-Piece.ensures.ok in
    let on : ServingGoesOn c.args.serving.now c.serve.new.self c.now-now.result c.in-Piece.piece.items d.0 d.2.0 =
    subst (λ (b : List ℕ). ServingGoesOn c.args.serving.now c.serve.new.self c.now-now.result b d.0 d.2.0) c.as_slice.ensures.value d.2.2 in
    turn_goes_on g.B.Bench.story c.args.bench.now c.hear-heard.new.self c.now-now.new.self c.due.result c.is_in_block.result (heard.Piece c.in-Piece.piece) c.now-now.result
    c.in-Piece.ensures.story c.now-now.ensures.story c.args.serving.now c.due.ensures c.is_in_block.ensures c.serve.new.self _ _ _ _ _ _ c.in-Piece.piece.items
    (rw c.now-now.ensures.remaining c.in-Piece.ensures.hears) refl (d.0, d.1, (d.2.0, d.2.1, on))

pub returns-in_ok-serve-in-Silence-clause-ok : goal.returns-in_ok-serve-in-Silence-clause-ok
returns-in_ok-serve-in-Silence-clause-ok g c =
    turn_goes_on g.B.Bench.story c.args.bench.now c.hear-heard.new.self c.now-now.new.self c.due.result c.is_in_block.result heard.Silence c.now-now.result
    c.in-Silence.ensures.story c.now-now.ensures.story c.args.serving.now c.due.ensures c.is_in_block.ensures c.serve-in-Silence.new.self _ _ _ _ _ _ []
    (rw c.now-now.ensures.remaining (Consumes-kept _ _ _ [] (Consumes-nil _) c.in-Silence.ensures.hears)) refl c.in_ok-serve-in-Silence.ensures.ok

pub returns-in_ok-end-in-End-clause-ok : goal.returns-in_ok-end-in-End-clause-ok
returns-in_ok-end-in-End-clause-ok g c =
    let h = c.in-End.ensures.hears in
    turn_ends g.B.Bench.story c.args.bench.now c.hear-heard.new.self c.now-now.new.self c.due.result c.is_in_block.result heard.End c.now-now.result
    c.in-End.ensures.story c.now-now.ensures.story c.args.serving.now c.due.ensures c.is_in_block.ensures c.end.new.self _ _ _ _ _ _ refl
    (rw c.now-now.ensures.remaining h.0) (rw c.now-now.ensures.remaining h.1) c.in_ok-end-in-End.ensures.ok

pub returns-in-Fault-clause-err : goal.returns-in-Fault-clause-err
returns-in-Fault-clause-err g c = inr (
    turn_unheard g.B.Bench.story c.args.bench.now c.hear-heard.new.self c.now-now.new.self c.due.result c.is_in_block.result heard.Fault c.now-now.result
    c.in-Fault.ensures.story c.now-now.ensures.story refl _ _ _ _ (rw c.now-now.ensures.remaining c.in-Fault.ensures.hears)
    )

pub returns-in-Memory-clause-err : goal.returns-in-Memory-clause-err
returns-in-Memory-clause-err g c = rw c.now-now.ensures.remaining
    (turn_refused (Did g.B.Bench.story c.args.bench.now c.now-now.new.self) _ _ _ _ _ c.in-Memory.ensures.hears)
