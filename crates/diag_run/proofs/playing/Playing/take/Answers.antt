use Rattle.std.proofs.Common.{◌-◌, arith, refl}
use Rattle.std.proofs.lemmas.Result.{IfErr-at_err, on_ok_weaker}
use Rattle.diag_desk.specs.declared.desk.StepFault.TheVariants.{JournalFull}
use Rattle.diag_port.proofs.Faults.{full_is}
use Rattle.diag_bus.proofs.Filling.{ports_moved}
use Rattle.diag_run.specs.declared.playing.Playing.{Playing}
use Rattle.diag_run.proofs.Written.{count_asked, early_by, few_asked, paced_more, took_more}
use Rattle.diag_run.proofs.playing.Playing.take.Goals as goal

pub take-requires-clause-early : goal.take-requires-clause-early
take-requires-clause-early c =
    let paced = c.requires.ready.paced in
    early_by c.args.self.now.server c.args.self.now.journal.count (c.args.who - 1) paced.few paced.clocks

pub returns-clause-took : goal.returns-clause-took
returns-clause-took c =
    let old = c.args.self.now in
    let new : Playing = record { server = c.take.new.self; out = c.take.new.out; journal = c.take.new.keeper; lines = old.lines } in
    on_ok_weaker c.take.result (λ took. took_more old new c.args.who c.args.event.now c.requires.in_setup.0 c.requires.ready.out took) c.take.ensures.took

pub returns-clause-paced : goal.returns-clause-paced
returns-clause-paced c =
    let old = c.args.self.now in
    let new = c.take.new.keeper in
    let paced = c.requires.ready.paced in
    on_ok_weaker c.take.result (λ took.
    let now = took.sent.holds.moved.before.link.now in
    record {
      few = few_asked old.journal new now took.asked took.kept paced.few;
      clocks = paced_more old.server c.take.new.self c.args.who old.journal.count new.count c.args.event.now took.asked took.sent.more
          took.sent.holds paced.clocks (count_asked old.journal new now took.asked took.kept);
    }) c.take.ensures.took

pub returns-clause-links : goal.returns-clause-links
returns-clause-links c =
    on_ok_weaker c.take.result (λ took.
    ports_moved c.args.self.now.server c.take.new.self c.args.who c.args.event.now took.asked took.sent.more took.sent.holds) c.take.ensures.took

pub returns-clause-full : goal.returns-clause-full
returns-clause-full c = λ is.
    let full = full_is JournalFull refl (IfErr-at_err _ is c.take.ensures.full) in
    (omega (arith, full.0, c.requires.ready.paced.few), full.1)
