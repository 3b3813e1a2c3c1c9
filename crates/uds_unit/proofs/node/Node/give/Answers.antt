use Rattle.std.proofs.Common.{◌-◌}
use Rattle.diag_bus.proofs.Paces.{stays, went_on}
use Rattle.uds_unit.proofs.Entered.{entered_asked}
use Rattle.uds_unit.proofs.Giving.{gave_one, list_at, shape_one, shape_refused}
use Rattle.uds_unit.proofs.node.Node.give.Goals as goal

pub returns-clause-ok : goal.returns-clause-ok
returns-clause-ok c =
    let here = list_at c.args.self.now c.requires.in_setup c.requires.lists c.index-index.ensures.from_one c.index_mut-out.ensures.value in
    let took = c.in_ok-take.ensures.took in
    gave_one here c.take.new.self c.take.new.out c.take.new.keeper.text.now took.sent.holds
    took.sent.grown took.early took.by (entered_asked _ c.take.new.keeper c.args.self.now.server.ecu took.sent.holds.moved.before.link.now took.asked took.kept)

pub returns-clause-pace : goal.returns-clause-pace
returns-clause-pace c = λ span lasts.
    let took = c.in_ok-take.ensures.took in
    went_on c.args.self.now.server c.take.new.self (c.args.who - 1) span c.args.event.now took.asked took.sent.more took.sent.holds.moved lasts

pub returns-in_err-take-clause-pace : goal.returns-in_err-take-clause-pace
returns-in_err-take-clause-pace c = λ span lasts.
    stays c.args.self.now.server c.take.new.self (c.args.who - 1) span c.in_err-take.ensures.err.0

pub returns-clause-shape : goal.returns-clause-shape
returns-clause-shape c =
    let here = list_at c.args.self.now c.requires.in_setup c.requires.lists c.index-index.ensures.from_one c.index_mut-out.ensures.value in
    shape_one here c.take.new.self c.take.new.out c.take.new.keeper.text.now c.in_ok-take.ensures.took.sent.holds

pub returns-in_err-take-clause-shape : goal.returns-in_err-take-clause-shape
returns-in_err-take-clause-shape c =
    let here = list_at c.args.self.now c.requires.in_setup c.requires.lists c.index-index.ensures.from_one c.index_mut-out.ensures.value in
    shape_refused here c.take.new.self c.take.new.out c.take.new.keeper.text.now c.in_err-take.ensures.err.0
