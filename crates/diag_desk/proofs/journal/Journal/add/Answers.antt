use Rattle.std.proofs.Common.{ap, sym, ◌∙◌, length}
use Rattle.std.specs.Prelude.{option_copied}
use Rattle.diag_desk.specs.Entries.{entry}
use Rattle.diag_desk.specs.Entry.{Kept, entry_bytes, step_seen}
use Rattle.diag_desk.proofs.EntryLemmas.{journal_more}
use Rattle.diag_desk.proofs.FlatLemmas.{pushed_entries, pushed_fits}
use Rattle.diag_desk.proofs.journal.Journal.add.Goals as goal

-- the heads after the push are the old ones and the new one
pub invariant_of-self : goal.invariant_of-self
invariant_of-self c =
    let more = entry_bytes (step_seen c.args.step.now) (option_copied c.args.reply) in
    let entries = pushed_entries c.self.inside.heads.items c.push_reserved.new.self.items c.head_of-head.result c.self.inside.bytes.items
    c.head_of-head.new.bytes.items more
    (entry c.args.who (step_seen c.args.step.now) (option_copied c.args.reply)) c.push_reserved.ensures.items c.head_of-head.ensures.items c.self.invariant.0
    c.head_of-head.ensures.same in (
      pushed_fits c.self.inside.heads.items c.push_reserved.new.self.items c.head_of-head.result c.self.inside.bytes.items c.head_of-head.new.bytes.items
          more c.push_reserved.ensures.items c.head_of-head.ensures.items c.self.invariant.0 c.head_of-head.ensures.fits,
      journal_more _ _ (entry c.args.who (step_seen c.args.step.now) (option_copied c.args.reply)) c.self.invariant.1 c.head_of-head.ensures.entry
          (λ full. c.requires.open (ap (λ (k : Kept). length k.entries) (sym c.self.view_is) ∙ full)) entries,
    )

pub returns-clause-ok : goal.returns-clause-ok
returns-clause-ok c =
    rw (← c.self.view_is)
    (pushed_entries c.self.inside.heads.items c.push_reserved.new.self.items c.head_of-head.result c.self.inside.bytes.items
    c.head_of-head.new.bytes.items (entry_bytes (step_seen c.args.step.now) (option_copied c.args.reply)) _ c.push_reserved.ensures.items
    c.head_of-head.ensures.items c.self.invariant.0
    c.head_of-head.ensures.same)

pub returns-clause-journal : goal.returns-clause-journal
returns-clause-journal c =
    let entries = pushed_entries c.self.inside.heads.items c.push_reserved.new.self.items c.head_of-head.result c.self.inside.bytes.items
    c.head_of-head.new.bytes.items (entry_bytes (step_seen c.args.step.now) (option_copied c.args.reply))
    (entry c.args.who (step_seen c.args.step.now) (option_copied c.args.reply)) c.push_reserved.ensures.items c.head_of-head.ensures.items c.self.invariant.0
    c.head_of-head.ensures.same in
    journal_more _ _ (entry c.args.who (step_seen c.args.step.now) (option_copied c.args.reply)) c.self.invariant.1 c.head_of-head.ensures.entry
    (λ full. c.requires.open (ap (λ (k : Kept). length k.entries) (sym c.self.view_is) ∙ full)) entries
