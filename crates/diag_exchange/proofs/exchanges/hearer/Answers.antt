use Rattle.std.proofs.Common.{◌≡◌, ◌<◌, ◌-◌, suc, length, ap, drop, refl, sym, ◌∙◌, arith}
use Rattle.std.proofs.lemmas.Option.{slice_get_read}
use Rattle.std.specs.List.{list_any}
use Rattle.diag_exchange.specs.Streaming.{hears_it}
use Rattle.diag_exchange.proofs.Finding.{is_found}
use Rattle.diag_exchange.proofs.exchanges.hearer.Goals as goal

pub returns-then-get : goal.returns-then-get
returns-then-get c =
    let p = hears_it in
    let live = c.args.live.now in
    let i = c.loop-index.index - 1 in
    let own = c.index-live-index.result in
    let within : i < length live = omega (arith, c.loop-index.invariant.0, c.loop-index-test.true) in
    let next : suc i ≡ c.loop-index.index = omega (arith, c.loop-index-test.true) in (
      is_found p live i own (slice_get_read live (length live) i own refl within c.index-live-index.is) (ap (λ e. e.hears) (sym c.get.ensures)
          ∙ c.if-get.true),
      ap (λ j. list_any p (drop j live)) next ∙ c.loop-index.invariant.1,
    )
