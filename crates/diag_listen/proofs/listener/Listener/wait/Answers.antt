use Rattle.std.proofs.Common.{◌≡◌, ◌≤◌, None, arith, rules}
use Rattle.std.specs.Prelude.{min}
use Rattle.diag_listen.proofs.Hearing.{then_ok, waits_none, waits_not, waits_some}
use Rattle.diag_listen.proofs.listener.Listener.wait.Goals as goal

pub returns-then-is_none-clause-heard : goal.returns-then-is_none-clause-heard
returns-then-is_none-clause-heard c =
    let none : c.args.self.now.exchanges.coming ≡ None = search rules in
    waits_none c.args.self.now c.args.over.now.items c.args.at c.args.ms none

pub returns-in-Some-clause-heard : goal.returns-in-Some-clause-heard
returns-in-Some-clause-heard c =
    let some : 1 ≤ c.in-Some.count = omega (arith, c.in-Some.ensures) in
    let is : c.in-Some.count ≡ min c.args.ms 60000 = omega (arith, c.in-Some.ensures.value, c.min.ensures, c.from.ensures) in
    let within : c.args.self.now.setup.n_cr ≤ 60000 = let high = c.get-n_cr.ensures.in_range.1 in omega (arith, high, c.get-n_cr.ensures.value) in
    then_ok c.pass.result _ _ c.pass.ensures.moves (λ moves.
    waits_some c.args.self.now c.pass.new.self c.args.over.now.items c.pass.new.over.items c.args.at c.args.ms c.in-Some.count is some
    within c.pass.ensures.setup moves)

pub returns-in-None-clause-heard : goal.returns-in-None-clause-heard
returns-in-None-clause-heard c =
    let none : c.args.ms ≡ 0 = grind (arith, c.in-None.ensures.found, c.min.ensures, c.from.ensures) in
    waits_not c.args.self.now c.args.over.now.items c.args.at c.args.ms none
