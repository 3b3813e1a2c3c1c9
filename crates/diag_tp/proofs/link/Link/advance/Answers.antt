use Rattle.std.proofs.Common.{◌≡◌, ◌<◌, ◌≤◌, ◌+◌, ◌∙◌, ◌++◌, ◌∷◌, [], ℕ, length, ap, sym, arith, subst}
use Rattle.diag_can.specs.Event.{Ticks}
use Rattle.diag_tp.specs.Link.{pending, quiet, quiet_later, StandsFor}
use Rattle.diag_tp.proofs.Silence.{due_later, is_later, quiet_left, stands_ticks}
use Rattle.diag_tp.proofs.link.Link.advance.Goals as goal

pub returns-clause-stands : goal.returns-clause-stands
returns-clause-stands c = λ s E A Q h.
    let same : c.get.result ≡ c.args.count = c.get.ensures.value in
    let few = c.requires.quiet in
    let done = c.pass.ensures in
    subst (λ (n : ℕ). StandsFor s c.pass.new.self.state (E ++ Ticks n ∷ []) A Q) same
    (stands_ticks s c.args.self.now.state c.pass.new.self.state E A Q c.get.result c.get.ensures.in_range.0 (omega arith) c.requires.drained
    done.grant done.sender done.partial done.setup done.now h)

-- what the fields say
later : (c : goal.After-pass) → c.args.count < quiet c.args.self.now.state → c.pass.new.self.state ≡ quiet_later c.args.count c.args.self.now.state
later c few =
    let same : c.get.result ≡ c.args.count = c.get.ensures.value in
    let done = c.pass.ensures in
    subst (λ (n : ℕ). c.pass.new.self.state ≡ quiet_later n c.args.self.now.state) same
    (is_later c.get.result c.args.self.now.state c.pass.new.self.state c.get.ensures.in_range.0 (omega arith) c.requires.drained
    done.grant done.sender done.partial done.setup done.now)

pub returns-clause-silent : goal.returns-clause-silent
unfolding pending
returns-clause-silent c = λ few. ap pending (later c few) ∙ (ap length (due_later c.args.count c.args.self.now.state) ∙ c.requires.drained)

pub returns-clause-rest : goal.returns-clause-rest
returns-clause-rest c = λ few.
    let old = c.args.self.now.state in
    subst (λ s. quiet old ≤ quiet s + c.args.count) (sym (later c few)) (quiet_left c.args.count old c.requires.drained).0
