use Rattle.std.proofs.Common.{◌≡◌, Some, ap, ◌∙◌, length, map, refl, subst, arith}
use Rattle.std.proofs.lemmas.List.{length-map, take_all}
use Rattle.std.proofs.lemmas.Option.{slice_get_read}
use Rattle.std.specs.Prelude.{slice_get}
use Rattle.diag_port.specs.Port.{port_of}
use Rattle.diag_world.specs.LazyPort.{caught_up}
use Rattle.diag_world.specs.Server.{ServerView, quiet_of}
use Rattle.diag_world.proofs.Lazy.{seen_at}
use Rattle.diag_world.proofs.Quiet.{quiet_more}
use Rattle.diag_world.proofs.server.Server.quiet.Goals as goal

-- the port stands at its place
found : (c : goal.After-lazy-item) → slice_get c.self.inside.ports.items c.loop-lazy.lazy-index ≡ Some c.lazy-item.result
found c =
    subst (λ ls. slice_get ls c.loop-lazy.lazy-index ≡ Some c.lazy-item.result) c.deref-lazy-items.ensures.value
    (slice_get_read c.deref-lazy-items.result.now _ c.loop-lazy.lazy-index c.lazy-item.result refl c.loop-lazy-test.true c.lazy-item.is)

pub quiet-requires : goal.quiet-requires
quiet-requires c = record { lazy = c.self.invariant c.loop-lazy.lazy-index c.lazy-item.result (found c) }

pub loop-lazy-preserved : goal.loop-lazy-preserved
loop-lazy-preserved c =
    let i = c.loop-lazy.lazy-index in
    let lazy = c.lazy-item.result in
    let at : slice_get c.self.inside.ports.items i ≡ Some lazy =
    subst (λ ls. slice_get ls i ≡ Some lazy) c.deref-lazy-items.ensures.value
    (slice_get_read c.deref-lazy-items.result.now _ i lazy refl c.loop-lazy-test.true c.lazy-item.is) in
    let seen = seen_at c.self.inside.passed i i c.self.inside.ports.items lazy c.args.self.now.ports (ap (λ (v : ServerView). v.ports) c.self.view_is) refl at in
    let more = quiet_more c.args.self.now.ports i (caught_up c.self.inside.passed lazy) seen in (
      omega (arith, more, c.loop-lazy.invariant.0, c.min-least.ensures, c.quiet.ensures.is),
      omega (arith, c.loop-lazy.invariant.1, c.min-least.ensures, c.quiet.ensures.some),
    )

pub returns-clause-is : goal.returns-clause-is
returns-clause-is c =
    let ports = c.args.self.now.ports in
    let many = ap (λ (v : ServerView). length v.ports) c.self.view_is in
    let size = length-map c.self.inside.ports.items (λ l. caught_up c.self.inside.passed l) in
    let items = ap length c.deref-lazy-items.ensures.value in
    c.loop-lazy.invariant.0 ∙ ap (λ ls. quiet_of (map port_of ls))
    (take_all c.loop-lazy.lazy-index ports (omega (arith, many, size, items, c.loop-lazy-test.false)))
