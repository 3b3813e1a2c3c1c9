use Rattle.std.proofs.Common.{refl, ap, subst, ◌∙◌}
use Rattle.std.specs.Prelude.{is_some}
use Rattle.diag_store.specs.Dtcs.{status_of, with_status}
use Rattle.diag_ecu.specs.State.{State}
use Rattle.diag_world.specs.Server.{ServerView, WasSet, server_of, state_at}
use Rattle.diag_world.proofs.Lazy.{seen_ports}
use Rattle.diag_world.proofs.Serving.{was_set}
use Rattle.diag_world.proofs.server.Server.set_status.Goals as goal

pub returns-clause-known : goal.returns-clause-known
returns-clause-known c = c.set_status.ensures.known ∙ ap (λ (v : ServerView). is_some (status_of v.ecu.dtcs c.args.code)) c.self.view_is

pub returns-clause-set : goal.returns-clause-set
returns-clause-set c =
    let ports = seen_ports c.self.inside.passed c.self.inside.ports.items in
    let set : State → State = λ s. record s { dtcs = with_status s.dtcs c.args.code c.args.status } in
    subst (λ (v : ServerView). WasSet (server_of v) (state_at c.set_status.new.self ports) (set v.ecu)) c.self.view_is
    (was_set (state_at c.self.inside.ecu ports) (state_at c.set_status.new.self ports) (set c.self.inside.ecu) c.set_status.ensures.set refl)

pub returns-clause-room : goal.returns-clause-room
returns-clause-room c = ap (λ (v : ServerView). v.ports) c.self.view_is
