use Rattle.std.proofs.Common.{refl, ap, subst, ◌∙◌}
use Rattle.std.proofs.lemmas.Result.{on_err_weaker, on_ok_weaker}
use Rattle.diag_store.specs.Dids.{with_value, write_answer}
use Rattle.diag_ecu.specs.State.{State}
use Rattle.diag_world.specs.Server.{ServerView, WasSet, server_of, state_at}
use Rattle.diag_world.proofs.Lazy.{seen_ports}
use Rattle.diag_world.proofs.Serving.{was_set}
use Rattle.diag_world.proofs.server.Server.set_value.Goals as goal

pub returns-clause-answer : goal.returns-clause-answer
returns-clause-answer c = c.set_value.ensures.answer ∙ ap (λ (v : ServerView). write_answer v.ecu.dids c.args.id c.args.value.now) c.self.view_is

pub returns-clause-ok : goal.returns-clause-ok
returns-clause-ok c =
    let ports = seen_ports c.self.inside.passed c.self.inside.ports.items in
    let set : State → State = λ s. record s { dids = with_value s.dids c.args.id c.args.value.now } in
    on_ok_weaker c.set_value.result
    (λ is. subst (λ (v : ServerView). WasSet (server_of v) (state_at c.set_value.new.self ports) (set v.ecu)) c.self.view_is
    (was_set (state_at c.self.inside.ecu ports) (state_at c.set_value.new.self ports) (set c.self.inside.ecu) is refl))
    c.set_value.ensures.ok

pub returns-clause-err : goal.returns-clause-err
returns-clause-err c =
    let ports = seen_ports c.self.inside.passed c.self.inside.ports.items in
    on_err_weaker c.set_value.result
    (λ is. ap (λ (s : State). (let v : ServerView = record { ecu = s; ports = ports } in v)) is ∙ c.self.view_is) c.set_value.ensures.err

pub returns-clause-room : goal.returns-clause-room
returns-clause-room c = ap (λ (v : ServerView). v.ports) c.self.view_is
