use Rattle.std.proofs.Common.{◌-◌, rules}
use Rattle.diag_bus.specs.Sink.{StaysFor}
use Rattle.diag_bus.proofs.Filling.{rest_after}
use Rattle.diag_bus.proofs.Giving.{gave_one, list_at, sent_in_one, shape_one, shape_refused, stays_told, tells_kept}
use Rattle.diag_bus.proofs.Passing.{stays_kept}
use Rattle.diag_bus.proofs.Paces.{stays, went_on}
use Rattle.diag_bus.proofs.node.Node.give.Goals as goal

pub returns-clause-ok : goal.returns-clause-ok
returns-clause-ok g c =
    let here = list_at c.args.self.now c.requires.in_setup c.requires.lists c.index-index.ensures.from_one c.index_mut-out.ensures.value in
    let took = c.in_ok-take.ensures.took in
    let sink = g.S.Sink in
    let kept = stays_kept sink.is_for sink.aim in
    let gave = gave_one here c.take.new.self c.take.new.out c.after-self.result c.min-self.result took.sent.holds sink.took c.args.sink.now c.take.new.keeper.sink.now
    took.sent.grown took.early took.by (tells_kept sink.took (StaysFor sink.is_for sink.aim) kept.none (λ a. a.sink.now) _ c.take.new.keeper _ _ took.asked took.kept) in
    search (rules, gave)

pub returns-clause-kept : goal.returns-clause-kept
returns-clause-kept g c =
    let took = c.in_ok-take.ensures.took in
    let sink = g.S.Sink in
    let kept = stays_kept sink.is_for sink.aim in
    let told = stays_told sink.took (StaysFor sink.is_for sink.aim) kept.none (λ a. a.sink.now) _ c.take.new.keeper _ _ took.asked took.kept in
    search (rules, told)

pub returns-clause-pace : goal.returns-clause-pace
returns-clause-pace g c = λ span lasts.
    let took = c.in_ok-take.ensures.took in
    went_on c.args.self.now.server c.take.new.self (c.args.who - 1) span c.args.event.now took.asked took.sent.more took.sent.holds.moved lasts

pub returns-in_err-take-clause-pace : goal.returns-in_err-take-clause-pace
returns-in_err-take-clause-pace g c = λ span lasts.
    stays c.args.self.now.server c.take.new.self (c.args.who - 1) span c.in_err-take.ensures.err.0

pub returns-clause-sent : goal.returns-clause-sent
returns-clause-sent g c = λ span lasts.
    let here = list_at c.args.self.now c.requires.in_setup c.requires.lists c.index-index.ensures.from_one c.index_mut-out.ensures.value in
    let took = c.in_ok-take.ensures.took in
    sent_in_one here c.take.new.self c.take.new.out c.after-self.result c.min-self.result took.sent.holds
    took.sent.grown span lasts

-- ---- the lists

pub returns-clause-shape : goal.returns-clause-shape
returns-clause-shape g c =
    let old = c.args.self.now in
    let here = list_at c.args.self.now c.requires.in_setup c.requires.lists c.index-index.ensures.from_one c.index_mut-out.ensures.value in
    let took = c.in_ok-take.ensures.took in
    shape_one here c.take.new.self c.take.new.out c.after-self.result c.min-self.result took.sent.holds c.is_empty.result
    c.after-self.ensures c.is_empty.ensures.0
    (rest_after old.server c.take.new.self c.args.who c.args.event.now took.asked took.sent.more old.rest c.quiet_at.result c.min-self.result
    took.sent.holds c.quiet_at.ensures.is c.min-self.ensures)

pub returns-in_err-take-clause-shape : goal.returns-in_err-take-clause-shape
returns-in_err-take-clause-shape g c =
    let here = list_at c.args.self.now c.requires.in_setup c.requires.lists c.index-index.ensures.from_one c.index_mut-out.ensures.value in
    shape_refused here c.take.new.self c.take.new.out c.in_err-take.ensures.err.0 c.in_err-take.ensures.err.1
