use Rattle.std.proofs.Common.{rules, ◌≡◌, ◌++◌, ◌∷◌, []}
use Rattle.diag_desk.specs.Entries.{asks}
use Rattle.diag_ecu.specs.Respond.{after_request, delay, reply}
use Rattle.diag_desk.proofs.Runs.{keeps_legal}
use Rattle.diag_desk.proofs.TimedLemmas.{keeps_delay}
use Rattle.diag_desk.proofs.desk.Desk.request.Goals as goal

pub invariant_of-self-2 : goal.invariant_of-self-2
invariant_of-self-2 c =
    let request = c.args.request.now in
    let e = asks c.args.who request c.put_reply.new.answer in
    let pushed : c.add.new.self.entries ≡ c.self.inside.journal.entries ++ e ∷ [] = search rules in
    let replied : c.put_reply.new.answer ≡ reply c.self.inside.ecu c.args.who request.functional request.message = search rules in
    let went : c.apply.new.self ≡ after_request c.self.inside.ecu c.args.who request.message = search rules in
    let decided : c.in_ok-decided.decided.after_ms ≡ delay c.self.inside.ecu c.args.who request.message = search rules in
    let kept = keeps_legal c.self.inside.opening c.self.inside.journal.entries c.add.new.self.entries e
    c.self.inside.ecu c.apply.new.self (c.self.invariant.0, c.self.invariant.1) pushed replied went in
    let same = keeps_delay c.self.inside.opening c.self.inside.journal.entries c.add.new.self.entries e c.self.inside.ecu c.in_ok-decided.decided.after_ms
    c.self.invariant.1 pushed decided in
    (kept.0, kept.1, c.add.ensures.journal, c.self.invariant.3, same)
