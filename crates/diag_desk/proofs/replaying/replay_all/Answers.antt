use Rattle.std.proofs.Common.{◌≡◌, arith, sym, Some, slice_get, true, false, subst}
use Rattle.diag_desk.specs.Replay.{DiffersAt}
use Rattle.diag_desk.specs.Entry.{entry_seen}
use Rattle.diag_desk.proofs.Runs.{differs_at, run_more}
use Rattle.diag_desk.proofs.replaying.replay_all.Goals as goal

pub returns-then-testers-from-clause-differs : goal.returns-then-testers-from-clause-differs
returns-then-testers-from-clause-differs c = λ n e.
    let at : slice_get c.args.journal.now.entries c.loop-index.index ≡ Some (entry_seen c.in-Some.entry) = sym c.in-Some.ensures.same in
    let inv = c.loop-index.invariant in
    subst (DiffersAt c.args.setup.now c.args.journal.now.entries) (cc e)
    (differs_at c.args.setup.now c.args.journal.now.entries c.loop-index.index (entry_seen c.in-Some.entry) c.loop-index.ecu at inv.run inv.ecu
    (λ who reply. absurd (omega (arith, who))))

pub returns-in-Ok-false-clause-differs : goal.returns-in-Ok-false-clause-differs
returns-in-Ok-false-clause-differs c = λ n e.
    let at : slice_get c.args.journal.now.entries c.loop-index.index ≡ Some (entry_seen c.in-Some.entry) = sym c.in-Some.ensures.same in
    let inv = c.loop-index.invariant in
    let differs : c.in-Ok-false.field-0 ≡ false = c.in-Ok-false.field-0-test in
    subst (DiffersAt c.args.setup.now c.args.journal.now.entries) (cc e)
    (differs_at c.args.setup.now c.args.journal.now.entries c.loop-index.index (entry_seen c.in-Some.entry) c.loop-index.ecu at inv.run inv.ecu
    (λ who reply. cc (c.in-Ok-false.ensures.reply.1 reply)))

pub loop-index-preserved : goal.loop-index-preserved
loop-index-preserved c =
    let at : slice_get c.args.journal.now.entries c.loop-index.index ≡ Some (entry_seen c.in-Some.entry) = sym c.in-Some.ensures.same in
    let inv = c.loop-index.invariant in
    let same : c.in-Ok-true.field-0 ≡ true = c.in-Ok-true.field-0-test in
    let more = run_more c.args.setup.now c.args.journal.now.entries c.loop-index.index (entry_seen c.in-Some.entry) c.loop-index.ecu c.play.new.ecu at
    inv.run inv.ecu
    (omega arith) (c.in-Ok-true.ensures.reply.0 same) (rw c.in-Ok-true.field-0-test at c.in-Ok-true.ensures.state) in
    record { run = more.0; ecu = more.1 }
