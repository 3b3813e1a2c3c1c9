use Rattle.std.proofs.Common.{[], ◌∙◌, List, ℕ, ap, append-nil, subst, sym}
use Rattle.std.proofs.lemmas.Result.{IfErr-weaker, IfOk-weaker}
use Rattle.diag_can.specs.Growing.{HasEvent}
use Rattle.diag_can.specs.Log.{events}
use Rattle.diag_can.proofs.log_reader.read_log.Goals as goal

pub take_lines-requires : goal.take_lines-requires
take_lines-requires c = ([], c.with_log-reader.ensures c.args.ids.now c.args.timing)

pub finish-requires-clause-taken : goal.finish-requires-clause-taken
finish-requires-clause-taken c =
    let t = c.in-Ok.ensures.took in
    (t.front, t.takes [] (c.with_log-reader.ensures c.args.ids.now c.args.timing))

pub returns-in-Ok-clause-ok : goal.returns-in-Ok-clause-ok
returns-in-Ok-clause-ok c =
    let t = c.in-Ok.ensures.took in
    IfOk-weaker c.finish.result _ _
    (λ log h. ap (λ (text : List ℕ). events text c.args.ids.now c.args.timing) t.is
    ∙ h t.front (t.takes [] (c.with_log-reader.ensures c.args.ids.now c.args.timing))) c.finish.ensures.ok

pub returns-in-Ok-clause-err : goal.returns-in-Ok-clause-err
returns-in-Ok-clause-err c =
    let t = c.in-Ok.ensures.took in
    IfErr-weaker c.finish.result _ _
    (λ fault h known. ap (λ (text : List ℕ). events text c.args.ids.now c.args.timing) t.is
    ∙ h known t.front (t.takes [] (c.with_log-reader.ensures c.args.ids.now c.args.timing))) c.finish.ensures.err

pub returns-in-Ok-clause-memory : goal.returns-in-Ok-clause-memory
returns-in-Ok-clause-memory c = λ is.
    let t = c.in-Ok.ensures.took in
    subst (HasEvent c.args.timing c.args.ids.now) (sym t.is)
    (c.finish.ensures.memory is t.front (t.takes [] (c.with_log-reader.ensures c.args.ids.now c.args.timing)))

pub returns-in-Err-clause-memory : goal.returns-in-Err-clause-memory
returns-in-Err-clause-memory c = λ is.
    subst (HasEvent c.args.timing c.args.ids.now) (append-nil c.args.text.now)
    (c.in-Err.ensures.memory [] [] (c.with_log-reader.ensures c.args.ids.now c.args.timing))
