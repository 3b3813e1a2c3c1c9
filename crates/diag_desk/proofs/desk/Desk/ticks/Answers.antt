use Rattle.std.proofs.Common.{rules, ◌≡◌, ◌++◌, ◌∷◌, [], None, refl}
use Rattle.diag_pdu.specs.declared.step.Step.TheVariants as step
use Rattle.diag_desk.specs.Entries.{entry}
use Rattle.diag_desk.proofs.Runs.{keeps_legal}
use Rattle.diag_desk.proofs.TimedLemmas.{keeps_delay}
use Rattle.diag_desk.proofs.desk.Desk.ticks.Goals as goal

pub invariant_of-self-2 : goal.invariant_of-self-2
invariant_of-self-2 c =
    let e = entry c.args.who (step.Ticks c.args.count) None in
    let pushed : c.add.new.self.entries ≡ c.self.inside.journal.entries ++ e ∷ [] = search rules in
    let kept = keeps_legal c.self.inside.opening c.self.inside.journal.entries c.add.new.self.entries e
    c.self.inside.ecu c.ticks.new.self (c.self.invariant.0, c.self.invariant.1) pushed refl c.ticks.ensures in
    let same = keeps_delay c.self.inside.opening c.self.inside.journal.entries c.add.new.self.entries e c.self.inside.ecu 0 c.self.invariant.1 pushed refl in
    (kept.0, kept.1, c.add.ensures.journal, c.self.invariant.3, same)
