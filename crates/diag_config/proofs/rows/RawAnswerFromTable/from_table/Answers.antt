use Rattle.std.proofs.Common.{◌≡◌, option_map, refl, rules}
use Rattle.std.proofs.lemmas.Result.{err_from_is_err_and}
use Rattle.diag_config.specs.Setup.{answer_at}
use Rattle.diag_config.proofs.Binds.{Fails-bind}
use Rattle.diag_config.proofs.rows.RawAnswerFromTable.from_table.Goals as goal

pub returns-in_err-level : goal.returns-in_err-level
unfolding answer_at
returns-in_err-level c =
    let p = err_from_is_err_and c.from_residual-in_err-level.result c.from_residual-in_err-level.ensures.1 in
    rw (p.1, p.2, c.in_ok-request.ensures.gives, c.in_ok-reply.ensures.gives, c.in_ok-session.ensures.gives) (Fails-bind c.in_err-level.field-0.0 _ _ c.in_err-level.ensures.gives)

pub returns-in_err-enter : goal.returns-in_err-enter
unfolding answer_at
returns-in_err-enter c =
    let p = err_from_is_err_and c.from_residual-in_err-enter.result c.from_residual-in_err-enter.ensures.1 in
    rw (p.1, p.2, c.in_ok-request.ensures.gives, c.in_ok-reply.ensures.gives, c.in_ok-session.ensures.gives, c.in_ok-level.ensures.gives) (Fails-bind c.in_err-enter.field-0.0 _ _ c.in_err-enter.ensures.gives)

pub returns-in_err-after_ms : goal.returns-in_err-after_ms
unfolding answer_at
returns-in_err-after_ms c =
    let p = err_from_is_err_and c.from_residual-in_err-after_ms.result c.from_residual-in_err-after_ms.ensures.1 in
    rw (p.1, p.2, c.in_ok-request.ensures.gives, c.in_ok-reply.ensures.gives, c.in_ok-session.ensures.gives, c.in_ok-level.ensures.gives, c.in_ok-enter.ensures.gives) (Fails-bind c.in_err-after_ms.field-0.0 _ _ c.in_err-after_ms.ensures.gives)

pub returns : goal.returns
unfolding answer_at
returns c =
    let templates : option_map (λ r. r.0) c.in_ok-reply.reply ≡ c.map.result = search rules in
    rw (c.in_ok-request.ensures.gives, c.in_ok-reply.ensures.gives, c.in_ok-session.ensures.gives, c.in_ok-level.ensures.gives, c.in_ok-enter.ensures.gives, c.in_ok-after_ms.ensures.gives, templates) refl
