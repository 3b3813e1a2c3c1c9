use Rattle.std.proofs.Common.{◌≡◌, ◌∷◌, ◌++◌, [], ap, sym, ◌∙◌, length}
use Rattle.diag_desk.specs.Entry.{Kept, entry_bytes}
use Rattle.diag_desk.specs.Line.{line_entry}
use Rattle.diag_desk.proofs.EntryLemmas.{journal_more}
use Rattle.diag_desk.proofs.FlatLemmas.{pushed_entries, pushed_fits}
use Rattle.diag_desk.proofs.journal.Journal.push_line.Goals as goal

pub invariant_of-self-2 : goal.invariant_of-self-2
invariant_of-self-2 c =
    let heads : c.push_reserved.new.self.items ≡ c.self.inside.heads.items ++ c.in-Ok.head ∷ [] = rw c.reserve.ensures.items at c.push_reserved.ensures.items in
    let more = entry_bytes (line_entry c.args.line.now).step (line_entry c.args.line.now).reply in
    let entries = pushed_entries c.self.inside.heads.items c.push_reserved.new.self.items c.in-Ok.head c.self.inside.bytes.items
    c.head_of_line.new.bytes.items more (line_entry c.args.line.now) heads c.in-Ok.ensures.items c.self.invariant.0 c.in-Ok.ensures.entry in (
      pushed_fits c.self.inside.heads.items c.push_reserved.new.self.items c.in-Ok.head c.self.inside.bytes.items c.head_of_line.new.bytes.items more
          heads c.in-Ok.ensures.items c.self.invariant.0 c.in-Ok.ensures.fits,
      journal_more _ _ (line_entry c.args.line.now) c.self.invariant.1 c.requires.entry
          (λ full. cc (sym c.if-is_full.false ∙ c.is_full.ensures.1 (ap (λ (k : Kept). length k.entries) (sym c.self.view_is) ∙ full))) entries,
    )

pub returns-clause-ok : goal.returns-clause-ok
returns-clause-ok c =
    let heads : c.push_reserved.new.self.items ≡ c.self.inside.heads.items ++ c.in-Ok.head ∷ [] = rw c.reserve.ensures.items at c.push_reserved.ensures.items in
    rw (← c.self.view_is)
    (pushed_entries c.self.inside.heads.items c.push_reserved.new.self.items c.in-Ok.head c.self.inside.bytes.items c.head_of_line.new.bytes.items
    (entry_bytes (line_entry c.args.line.now).step (line_entry c.args.line.now).reply) _ heads c.in-Ok.ensures.items c.self.invariant.0
    c.in-Ok.ensures.entry)
