use Rattle.std.proofs.Common.{◌<◌, length, ap, ◌∙◌, arith}
use Rattle.std.specs.Prelude.{slice_set}
use Rattle.diag_exchange.specs.Streaming.{asked_again}
use Rattle.diag_exchange.proofs.Loops.{set_all, set_more}
use Rattle.diag_exchange.proofs.exchanges.ask_again.Goals as goal

pub loop-index-preserved : goal.loop-index-preserved
loop-index-preserved c =
    let now = c.loop-index.live.items in
    let i = c.loop-index.index in
    let within : i < length now = omega (arith, c.loop-index-test.true, c.loop-index.invariant.1, c.len-index-end.ensures, c.loop-index.live.ok) in (
      ap (slice_set now i) c.ask_again.ensures
          ∙ set_more
          (asked_again c.args.request.now) c.args.live.now.items now i c.index_mut.result.now c.loop-index.invariant.0 within c.index_mut.ensures.value,
      c.loop-index.invariant.1,
      c.loop-index.invariant.2,
    )

pub returns-clause-items : goal.returns-clause-items
returns-clause-items c = set_all (asked_again c.args.request.now) c.args.live.now.items c.loop-index.live.items c.loop-index.index c.loop-index.invariant.0
    (omega (arith, c.loop-index-test.false, c.loop-index.auto.index-end, c.len-index-end.ensures, c.args.live.now.ok))
