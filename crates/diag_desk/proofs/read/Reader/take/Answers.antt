use Rattle.std.proofs.Common.{◌≡◌, ◌≢◌, ◌≤◌, ◌<◌, ◌∙◌, ◌++◌, ◌∷◌, [], length, sym, subst, arith, rules}
use Rattle.diag_desk.specs.Entry.{most_entries}
use Rattle.diag_desk.specs.Line.{line_entry}
use Rattle.diag_desk.specs.PartRead.{HasNext, PartRead}
use Rattle.diag_desk.proofs.ReadLemmas.{clocks_more}
use Rattle.diag_desk.proofs.EntryLemmas.{journal_more}
use Rattle.diag_desk.proofs.read.Reader.take.Goals as goal

pub invariant_of-self : goal.invariant_of-self
invariant_of-self c =
    let pushed : c.push_line.new.self.entries ≡ c.self.inside.journal.entries ++ line_entry c.in-Some.entry ∷ [] = search rules in
    let clock = c.clock_with-clock.ensures c.self.inside.journal.entries c.self.invariant.1 in (
      journal_more c.self.inside.journal.entries c.push_line.new.self.entries (line_entry c.in-Some.entry) c.self.invariant.0 c.in-Some.ensures.entry
          (λ full. cc (sym c.in-Ok.is ∙ c.push_line.ensures.full.1 full)) pushed,
      clocks_more c.self.inside.journal.entries c.push_line.new.self.entries (line_entry c.in-Some.entry) c.self.inside.clocks.ticks _
          c.clock_with-clock.result c.in-Some.ensures.entry c.self.invariant.1 pushed clock c.set.ensures,
    )

pub returns-in-Ok-clause-journal : goal.returns-in-Ok-clause-journal
returns-in-Ok-clause-journal c =
    let pushed : c.push_line.new.self.entries ≡ c.self.inside.journal.entries ++ line_entry c.in-Some.entry ∷ [] = search rules in
    journal_more c.self.inside.journal.entries c.push_line.new.self.entries (line_entry c.in-Some.entry) c.self.invariant.0 c.in-Some.ensures.entry
    (λ full. cc (sym c.in-Ok.is ∙ c.push_line.ensures.full.1 full)) pushed

-- memory is asked for a line that is found well, where there is room
pub returns-in-Err-Memory-clause-memory : goal.returns-in-Err-Memory-clause-memory
returns-in-Err-Memory-clause-memory c = λ e.
    let entries = c.self.inside.journal.entries in
    let most : length entries ≤ most_entries = c.self.invariant.0.1 in
    let has_room : length entries ≢ most_entries = λ full. cc (sym c.in-Err-Memory.is ∙ c.push_line.ensures.full.1 full) in
    let room : length entries < most_entries = omega (arith, most, has_room) in
    let next : HasNext (record { version = c.self.inside.version; entries = entries }) c.args.line.now = record {
      entry = line_entry c.in-Some.entry;
      is_entry = c.in-Some.ensures.entry;
      room = room;
      line = c.in-Some.ensures.some entries c.self.invariant.1;
    } in
    subst (λ (r : PartRead). HasNext r c.args.line.now) c.self.view_is next
