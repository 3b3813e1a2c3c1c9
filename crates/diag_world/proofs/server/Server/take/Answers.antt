use Rattle.std.proofs.Common.{◌≡◌, ◌≤◌, subst, sym, ◌∙◌, arith}
use Rattle.std.proofs.lemmas.Result.{IfErr-weaker, on_err_weaker, on_ok_weaker}
use Rattle.std.specs.Prelude.{slice_set}
use Rattle.diag_tp.specs.Link.{last_tick}
use Rattle.diag_setup.specs.Setup.{link_of}
use Rattle.diag_port.specs.Port.{port_of}
use Rattle.diag_port.proofs.Faults.{fault_by}
use Rattle.diag_world.specs.Server.{ServerTook, server_of, state_at}
use Rattle.diag_world.specs.Weaving.{items_of}
use Rattle.diag_world.specs.declared.lazy_port.LazyPort.{LazyPort}
use Rattle.diag_world.proofs.Lazy.{caught_still, caught_told, seen_after, seen_ports, set_lazy, told_after}
use Rattle.diag_world.proofs.Tester.{IsAt, early_here, lazy_at, port_here, port_there, same_here, took_here}
use Rattle.diag_world.proofs.server.Server.take.Given.{Over}
use Rattle.diag_world.proofs.server.Server.take.Goals as goal
use Rattle.diag_world.proofs.server.Server.take.Goals.{After-take_at}

pub catch_up-requires : goal.catch_up-requires
catch_up-requires g c =
    record {
      lazy = c.self.invariant _ _ (lazy_at c.self.inside.ports.items c.self.inside.passed _ c.self.view_is c.requires.in_setup c.index-index.ensures.from_one
          c.index_mut-lazy.ensures.value);
    }

pub take_at-requires-clause-early : goal.take_at-requires-clause-early
take_at-requires-clause-early g c =
    early_here (port_there c.self.inside.ports.items c.self.inside.passed _ c.self.view_is c.requires.in_setup c.index-index.ensures.from_one
    c.index_mut-lazy.ensures.value c.catch_up.new.self.port c.catch_up.ensures.port) c.requires.early

pub take_at-requires-clause-rest : goal.take_at-requires-clause-rest
take_at-requires-clause-rest g c = c.catch_up.ensures.lazy.rest

module _ (g : Over) (c : After-take_at g) where
  -- the tester's port, where the contract sees it
  here : IsAt c.self.inside.ecu (seen_ports c.self.inside.passed c.self.inside.ports.items) c.args.self.now c.args.who c.index-index.result c.catch_up.new.self.port
  here = port_there c.self.inside.ports.items c.self.inside.passed _ c.self.view_is c.requires.in_setup c.index-index.ensures.from_one c.index_mut-lazy.ensures.value c.catch_up.new.self.port c.catch_up.ensures.port

  -- the port as it is after the call
  abbrev next : LazyPort
  next = record { port = c.take_at.new.port; taken = c.catch_up.new.self.taken }

  -- its clock didn't go back
  told : (c.catch_up.new.self.port.link.state.now ≤ next.port.link.state.now) × (next.port.link.state.now ≤ last_tick)
  told = told_after g.K.Keeper.keeps g.K.Keeper.unkept c.self.inside.ecu c.take_at.new.ecu (port_of c.catch_up.new.self.port) (port_of c.take_at.new.port)
      c.args.keeper.now c.take_at.new.keeper c.args.who c.args.event.now c.args.out.now.items c.take_at.new.out.items c.take_at.result
      (caught_told c.self.inside.passed _ c.catch_up.new.self.port c.catch_up.ensures.port)
      c.take_at.ensures.took c.take_at.ensures.err

  -- and what the server is seen to be
  seen : state_at c.take_at.new.ecu (seen_ports c.self.inside.passed (slice_set c.self.inside.ports.items c.index-index.result next))
      ≡ state_at c.take_at.new.ecu (slice_set (seen_ports c.self.inside.passed c.self.inside.ports.items) c.index-index.result next.port)
  seen = seen_after c.self.inside.passed c.index-index.result c.self.inside.ports.items next c.catch_up.ensures.taken told.1 c.take_at.new.ecu

pub invariant_of-self : goal.invariant_of-self
invariant_of-self g c =
    let after = (goal.at.invariant_of-self g c).After-take_at in
    let told = told g after in
    set_lazy c.self.inside.passed c.index-index.result c.self.inside.ports.items (next g after) c.self.invariant
    (caught_still c.self.inside.passed (next g after) c.catch_up.ensures.taken c.take_at.ensures.rest
    (omega (arith, told.0, c.catch_up.ensures.lazy.told, c.catch_up.ensures.taken)) told.1)

pub returns-clause-took : goal.returns-clause-took
returns-clause-took g c =
    let after = (goal.at.returns-clause-took g c).After-take_at in
    on_ok_weaker c.take_at.result (λ took. subst (λ s. ServerTook g.K.Keeper.keeps (server_of c.args.self.now) s c.args.keeper.now c.take_at.new.keeper
    c.args.who c.args.event.now c.args.out.now.items c.take_at.new.out.items) (sym (seen g after))
    (took_here (here g after) g.K.Keeper.keeps c.args.keeper.now c.take_at.new.keeper c.take_at.new.ecu c.take_at.new.port c.args.event.now
    c.args.out.now.items c.take_at.new.out.items took)) c.take_at.ensures.took

pub returns-clause-err : goal.returns-clause-err
returns-clause-err g c =
    let after = (goal.at.returns-clause-err g c).After-take_at in
    on_err_weaker c.take_at.result (λ err. (seen g after ∙ same_here (here g after) c.take_at.new.ecu c.take_at.new.port err.0 err.1, err.2))
    c.take_at.ensures.err

pub returns-clause-full : goal.returns-clause-full
returns-clause-full g c =
    let here = here g (goal.at.returns-clause-full g c).After-take_at in
    IfErr-weaker c.take_at.result _ _ (λ fault. fault_by g.K.Fault.From.from_gives fault (λ full. (
      full.0,
      λ setup M K run. full.1 (link_of setup c.args.who) (items_of M c.args.who) _ _ (port_here here setup M K run).stands.stands,
    ))) c.take_at.ensures.full
