use Rattle.std.proofs.Common.{◌≡◌, ◌<◌, ◌-◌, suc, length, ap, drop, refl, sym, ◌∙◌, arith}
use Rattle.std.proofs.lemmas.Option.{slice_get_read}
use Rattle.std.specs.List.{list_any}
use Rattle.diag_exchange.specs.Streaming.{may_hear}
use Rattle.diag_exchange.proofs.Finding.{is_found}
use Rattle.diag_exchange.proofs.exchanges.latest.Goals as goal

pub returns-then-may_hear : goal.returns-then-may_hear
returns-then-may_hear c =
    let p = may_hear c.args.loud c.args.start.now in
    let live = c.args.live.now in
    let i = c.loop-index.index - 1 in
    let own = c.index-live-index.result in
    let within : i < length live = omega (arith, c.loop-index.invariant.0, c.loop-index-test.true) in
    let next : suc i ≡ c.loop-index.index = omega (arith, c.loop-index-test.true) in (
      is_found p live i own (slice_get_read live (length live) i own refl within c.index-live-index.is) (ap p (sym c.get.ensures)
          ∙ (sym c.may_hear.ensures ∙ c.if-may_hear.true)),
      ap (λ j. list_any p (drop j live)) next ∙ c.loop-index.invariant.1,
    )
