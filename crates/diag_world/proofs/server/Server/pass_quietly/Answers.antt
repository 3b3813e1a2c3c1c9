use Rattle.std.proofs.Common.{◌≡◌, ◌≤◌, ◌+◌, min, length, map, ap, subst, sym, ◌∙◌, arith}
use Rattle.diag_ecu.specs.Elapse.{elapse_each}
use Rattle.diag_ecu.specs.State.{State}
use Rattle.diag_tp.specs.Link.{last_tick}
use Rattle.diag_port.specs.Port.{port_of, whole_later}
use Rattle.diag_world.specs.Server.{ServerView, Waited, quiet_of, server_of, state_at}
use Rattle.diag_world.proofs.Lazy.{all_passed, are_quiet, rest_all, seen_passed, seen_ports, waited_all}
use Rattle.diag_world.proofs.server.Server.pass_quietly.Goals as goal

pub invariant_of-self : goal.invariant_of-self
invariant_of-self c =
    let passed = c.self.inside.passed in
    let passed' = c.saturating_add-self-inside.result in
    let ports = c.self.inside.ports.items in
    let count = c.args.count in
    let sum : passed' ≡ min (passed + count) last_tick = omega (arith, c.saturating_add-self-inside.ensures, c.from.ensures, c.get.ensures.value) in
    let some : 1 ≤ count = omega (arith, c.get.ensures.value, c.get.ensures.in_range.0) in
    let most : count ≤ 60000 = omega (arith, c.get.ensures.value, c.get.ensures.in_range.1) in
    let quiet = are_quiet passed count ports c.args.self.now.ports (ap (λ (v : ServerView). v.ports) c.self.view_is) c.self.invariant c.requires.quiet c.requires.early in
    λ i lazy at. (all_passed passed passed' count ports sum c.self.invariant some most quiet i lazy at).after

pub returns-clause-waited : goal.returns-clause-waited
returns-clause-waited c =
    let passed = c.self.inside.passed in
    let passed' = c.saturating_add-self-inside.result in
    let ports = c.self.inside.ports.items in
    let count = c.args.count in
    let ecu = c.self.inside.ecu in
    let n = length c.args.setup.now.testers in
    let seen = seen_ports passed ports in
    let later = map (λ l. whole_later count l) seen in
    let sum : passed' ≡ min (passed + count) last_tick = omega (arith, c.saturating_add-self-inside.ensures, c.from.ensures, c.get.ensures.value) in
    let some : 1 ≤ count = omega (arith, c.get.ensures.value, c.get.ensures.in_range.0) in
    let most : count ≤ 60000 = omega (arith, c.get.ensures.value, c.get.ensures.in_range.1) in
    let quiet = are_quiet passed count ports c.args.self.now.ports (ap (λ (v : ServerView). v.ports) c.self.view_is) c.self.invariant c.requires.quiet c.requires.early in
    let next = all_passed passed passed' count ports sum c.self.invariant some most quiet in
    let many : length seen ≡ n = ap (λ (v : ServerView). length v.ports) c.self.view_is ∙ c.requires.in_setup in
    let waited : Waited (state_at ecu seen) (state_at (elapse_each ecu n count) later) n count =
    subst (λ m. Waited (state_at ecu seen) (state_at (elapse_each ecu m count) later) m count) many (waited_all ecu count seen some most quiet) in
    let gone : Waited (state_at ecu seen) (state_at c.ticks_each.new.self later) n count =
    subst (λ (s : State). Waited (state_at ecu seen) (state_at s later) n count) (sym c.ticks_each.ensures) waited in
    let kept : Waited (state_at ecu seen) (state_at c.ticks_each.new.self (seen_ports passed' ports)) n count =
    subst (λ ls. Waited (state_at ecu seen) (state_at c.ticks_each.new.self ls) n count) (sym (seen_passed passed passed' count ports next)) gone in
    subst (λ (v : ServerView). Waited (server_of v) (state_at c.ticks_each.new.self (seen_ports passed' ports)) n count) c.self.view_is kept

pub returns-clause-rest : goal.returns-clause-rest
returns-clause-rest c =
    let passed = c.self.inside.passed in
    let passed' = c.saturating_add-self-inside.result in
    let ports = c.self.inside.ports.items in
    let count = c.args.count in
    let seen = seen_ports passed ports in
    let sum : passed' ≡ min (passed + count) last_tick = omega (arith, c.saturating_add-self-inside.ensures, c.from.ensures, c.get.ensures.value) in
    let some : 1 ≤ count = omega (arith, c.get.ensures.value, c.get.ensures.in_range.0) in
    let most : count ≤ 60000 = omega (arith, c.get.ensures.value, c.get.ensures.in_range.1) in
    let quiet = are_quiet passed count ports c.args.self.now.ports (ap (λ (v : ServerView). v.ports) c.self.view_is) c.self.invariant c.requires.quiet c.requires.early in
    let next = all_passed passed passed' count ports sum c.self.invariant some most quiet in
    let rest : quiet_of (map port_of seen) ≤ quiet_of (map port_of (seen_ports passed' ports)) + count =
    subst (λ ls. quiet_of (map port_of seen) ≤ quiet_of (map port_of ls) + count) (sym (seen_passed passed passed' count ports next)) (rest_all count seen quiet.rest) in
    subst (λ (v : ServerView). quiet_of (map port_of v.ports) ≤ quiet_of (map port_of (seen_ports passed' ports)) + count) c.self.view_is rest
