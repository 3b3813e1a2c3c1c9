use Rattle.std.proofs.Common.{◌≡◌, ◌≤◌, [], ap, ap₂, arith, min, rules, ◌+◌, ◌∙◌, sym}
use Rattle.diag_tp.specs.Link.{last_tick, quiet}
use Rattle.diag_port.specs.Held.{until_due}
use Rattle.diag_port.specs.Port.{port_later, port_of}
use Rattle.diag_port.proofs.Quiet.{later_now}
use Rattle.diag_port.proofs.port.Port.quiet_after.Goals as goal

pub returns-then-is_empty : goal.returns-then-is_empty
returns-then-is_empty c =
    let port = c.args.self.now in
    let none : port.held.messages ≡ [] = search rules in
    let most : quiet (port_later c.args.passed (port_of port)).link ≤ last_tick =
    omega (arith, c.quiet_after-quiet.ensures.is, c.quiet_after-quiet.type_inv) in
    record { is = c.quiet_after-quiet.ensures.is ∙ sym (rw none (omega (arith, most))) }

pub returns : goal.returns
returns c =
    let port = c.args.self.now in
    let then = c.saturating_add-then.ensures ∙ (ap (λ n. min (n + c.args.passed) last_tick) c.now.ensures.state ∙ sym (later_now c.args.passed (port_of port))) in
    record { is = c.min.ensures ∙ ap₂ (λ a b. min a b) c.quiet_after-quiet.ensures.is (c.until_due.ensures.is ∙ ap (λ t. until_due t port.held.messages) then) }
