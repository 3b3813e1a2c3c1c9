use Rattle.std.proofs.Common.{subst, sym, ◌∙◌, ◌<◌, ap, arith, Some, length}
use Rattle.diag_desk.specs.Entry.{IsEntry}
use Rattle.diag_desk.specs.Flat.{entry_of}
use Rattle.diag_desk.specs.declared.flat.Head.{Head}
use Rattle.diag_desk.proofs.FlatLemmas.{fits_at, kept_at}
use Rattle.diag_desk.proofs.EntryLemmas.{entry_at}
use Rattle.diag_desk.proofs.journal.Journal.get.Goals as goal

pub entry_at-requires : goal.entry_at-requires
entry_at-requires c =
    let below : c.args.index < length c.self.inside.heads.items = omega arith in
    rw (c.deref.ensures.value, c.index.ensures)
    (fits_at c.self.inside.heads.items (length c.self.inside.bytes.items) c.args.index c.index.result.now c.self.invariant.0 below)

pub returns-clause-same : goal.returns-clause-same
returns-clause-same c =
    let below : c.args.index < length c.self.inside.heads.items = omega arith in
    rw (← c.self.view_is, c.entry_at.ensures.same, c.deref.ensures.value)
    (ap (λ (head : Head). Some (entry_of c.self.inside.bytes.items head)) c.index.ensures
    ∙ kept_at c.self.inside.bytes.items c.self.inside.heads.items c.args.index c.index.result.now below)

pub returns-clause-entry : goal.returns-clause-entry
returns-clause-entry c =
    let below : c.args.index < length c.self.inside.heads.items = omega arith in
    let at = ap (λ (head : Head). Some (entry_of c.self.inside.bytes.items head)) c.index.ensures
    ∙ kept_at c.self.inside.bytes.items c.self.inside.heads.items c.args.index c.index.result.now below in
    let same = c.entry_at.ensures.same ∙ ap (λ bytes. entry_of bytes c.index.result.now) c.deref.ensures.value in
    subst IsEntry (sym same) (entry_at _ c.args.index _ c.self.invariant.1.0 (sym at))
