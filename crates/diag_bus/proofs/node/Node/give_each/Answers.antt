use Rattle.std.proofs.Common.{◌≡◌, ◌-◌, ◌∙◌, length, refl, sym, arith}
use Rattle.diag_bus.specs.Node.{IsRest}
use Rattle.diag_bus.specs.Sink.{StaysFor}
use Rattle.diag_bus.specs.declared.node.Node.{Node}
use Rattle.diag_bus.proofs.Passing.{passed_from, passed_quietly, stays_kept}
use Rattle.diag_bus.proofs.node.Node.give_each.Goals as goal
use Rattle.diag_bus.proofs.node.Node.give_each.Goals.{then-wants_ticks-via-then-wants_ticks, then-wants_ticks-via-else-wants_ticks+then-not-is_quiet}

pub returns : goal.returns
returns g c =
    let sink = g.S.Sink in
    let now = c.is_quiet.new.self in
    let quiet = c.is_quiet.ensures in
    passed_from sink.took (StaysFor sink.is_for sink.aim) c.args.self.now quiet.server quiet.drawn quiet.rest
    (passed_quietly sink.took (StaysFor sink.is_for sink.aim) (stays_kept sink.is_for sink.aim) now
    (record { server = c.pass_quietly.new.self; drawn = now.drawn; rest = now.rest - c.from-ms.result }) c.args.sink.now
    (length c.args.setup.now.testers) c.args.count now.rest
    (λ x setup lines K who count h. g.met.S.Sink.skips_ticks x setup lines K who count (sym c.wants_ticks.ensures ∙ c.if-wants_ticks.false) h)
    c.pass_quietly.ensures.waited c.pass_quietly.ensures.rest quiet.rest
    (omega (arith, c.from-ms.ensures, c.get.ensures.value)) refl)

pub returns-then-wants_ticks : goal.returns-then-wants_ticks
returns-then-wants_ticks g c =
    let sink = g.S.Sink in
    let old : Node = c.args.self.now in
    let now : Node = c.then-wants_ticks.self in
    let same : (now.server ≡ old.server) × (now.drawn ≡ old.drawn) × IsRest now.server now.rest = elim c.then-wants_ticks.branch [
      | then-wants_ticks-via-then-wants_ticks w ↦ rw w.self-is (refl, refl, c.requires.rest)
      | then-wants_ticks-via-else-wants_ticks+then-not-is_quiet w ↦ rw w.self-is (w.is_quiet.ensures.server, w.is_quiet.ensures.drawn, w.is_quiet.ensures.rest)
    ] in
    passed_from sink.took (StaysFor sink.is_for sink.aim) old same.0 same.1 same.2 c.give_ticks.ensures
