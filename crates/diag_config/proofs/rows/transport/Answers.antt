use Rattle.std.proofs.Common.{refl}
use Rattle.std.proofs.lemmas.Result.{err_from_is_err_and}
use Rattle.diag_config.specs.Setup.{transport_at}
use Rattle.diag_config.proofs.Binds.{Fails-bind}
use Rattle.diag_config.proofs.rows.transport.Goals as goal

pub returns-in_err-max_request : goal.returns-in_err-max_request
unfolding transport_at
returns-in_err-max_request c =
    let p = err_from_is_err_and c.from_residual-in_err-max_request.result c.from_residual-in_err-max_request.ensures.1 in
    rw (p.1, p.2, c.in_ok-block_size.ensures.gives, c.in_ok-st_min.ensures.gives) (Fails-bind c.in_err-max_request.field-0.0 _ _ c.in_err-max_request.ensures.gives)

pub returns : goal.returns
unfolding transport_at
returns c =
    rw (c.in_ok-block_size.ensures.gives, c.in_ok-st_min.ensures.gives, c.in_ok-max_request.ensures.gives, c.in_ok-pad.ensures.gives, c.in_ok-pad_byte.ensures.gives, c.in_ok-tx_dl.ensures.gives, c.in_ok-fd_flags.ensures.gives) refl
