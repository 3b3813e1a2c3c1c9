use Rattle.std.proofs.Common.{◌≡◌, ◌++◌, [], ◌∷◌, false, arith, sym, ap₂, ◌∙◌, refl}
use Rattle.std.specs.Prelude.{IsTrue}
use Rattle.diag_desk.specs.Entry.{entry_seen}
use Rattle.diag_desk.proofs.Runs.{take_one}
use Rattle.diag_workers.proofs.Compared.{none_left, other_left, own_skips, own_takes}
use Rattle.diag_workers.proofs.agreeing.agree.Goals as goal
use Rattle.diag_workers.proofs.agreeing.agree.Goals.{then-eq+in-Some-get+else-not-is_same_entry, else-eq}
use Rattle.std.proofs.lemmas.Option.{slice_get_within}

not_true : IsTrue false → ⊥
not_true h = cc

pub returns-in_default-get : goal.returns-in_default-get
returns-in_default-get c = (
  (λ no. absurd (not_true no)),
  (λ whole. absurd (none_left
      c.args.journal.now.entries
      c.args.kept.now.entries
      c.args.who
      c.loop-i.i
      c.loop-i.next
      (entry_seen c.in-Some.entry)
      (sym c.in-Some.ensures.same)
      (sym c.if-eq.ensures)
      c.loop-i.invariant.same
      (sym c.in_default-get.ensures.same)
      whole)),
)

pub returns-then-not-is_same_entry : goal.returns-then-not-is_same_entry
returns-then-not-is_same_entry c = (
  (λ no. absurd (not_true no)),
  (λ whole. absurd (other_left
      c.args.journal.now.entries
      c.args.kept.now.entries
      c.args.who
      c.loop-i.i
      c.loop-i.next
      (entry_seen c.in-Some.entry)
      (entry_seen c.in-Some-get.known)
      (sym c.in-Some.ensures.same)
      (sym c.if-eq.ensures)
      c.loop-i.invariant.same
      (sym c.in-Some-get.ensures.same)
      (λ one. not_true (c.if-not-is_same_entry.ensures.1 one))
      whole)),
)

pub loop-i-preserved : goal.loop-i-preserved
loop-i-preserved c =
    let journal = c.args.journal.now.entries in
    let kept = c.args.kept.now.entries in
    elim c.if-eq.branch [
      | then-eq+in-Some-get+else-not-is_same_entry w ↦
          let same : (entry_seen c.in-Some.entry) ≡ (entry_seen w.in-Some-get.known) = w.if-not-is_same_entry.ensures.0 refl in
          rw w.next-is (
          record {
            same =
                take_one kept c.loop-i.next (entry_seen w.in-Some-get.known) (sym w.in-Some-get.ensures.same)
                ∙ (ap₂ (λ xs x. xs ++ x ∷ []) c.loop-i.invariant.same (sym same)
                ∙ sym (own_takes journal c.args.who c.loop-i.i (entry_seen c.in-Some.entry) (sym c.in-Some.ensures.same) (sym w.if-eq.ensures)));
            within = omega (arith, slice_get_within kept c.loop-i.next (entry_seen w.in-Some-get.known) (sym w.in-Some-get.ensures.same));
          }
          )
      | else-eq w ↦
          rw w.next-is (
          record {
            same = c.loop-i.invariant.same ∙ sym (own_skips journal c.args.who c.loop-i.i (entry_seen c.in-Some.entry) (sym c.in-Some.ensures.same)
                (sym w.if-eq.ensures));
            within = c.loop-i.invariant.within;
          }
          )
    ]
