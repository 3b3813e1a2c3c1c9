use Rattle.std.proofs.Common.{ℕ, length, map, ap, subst, sym}
use Rattle.std.specs.Global.{Vec}
use Rattle.diag_workers.specs.Play.{AsksFrom}
use Rattle.diag_workers.proofs.Asking.{both_read}
use Rattle.diag_workers.proofs.reading.+fn-read_beside-join+arg3+read_beside.Goals as goal

pub returns-clause-memory : goal.returns-clause-memory
returns-clause-memory g t c _ =
    let setup = c.args.setup.now in
    let rest = c.in-Some.rest.now in
    subst (AsksFrom c.args.place setup c.args.timing) (sym (ap (map (λ (t : Vec ℕ). t.items)) c.in-Some.ensures.cases.0))
    (both_read c.args.place setup c.args.timing c.in-Some.text.now.items (map (λ text. text.items) rest) (length rest) c.join-one.result.0 c.join-one.result.1
    c.in_ok-one-2.field-0 c.in_ok-others.field-0 c.in_ok-one-2.was c.in_ok-others.was c.join-one.ensures.first.0 c.join-one.ensures.second.0)
