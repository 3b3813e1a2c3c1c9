use Rattle.std.proofs.Common.{◌≡◌, ◌≤◌, ◌∙◌, sym, ap, arith, length}
use Rattle.std.specs.Prelude.{map, List}
use Rattle.diag_store.specs.declared.answers.AnswerRow.{AnswerRow}
use Rattle.diag_store.specs.Answers.{any_late, row_first, rows_moved_on}
use Rattle.diag_store.proofs.AnswerLemmas.{count_stays, firsts_stay, late_stays}
use Rattle.diag_store.proofs.RowLemmas.{refilled}
use Rattle.diag_store.proofs.answers.Answers.move_on.Goals as goal

-- the first items are as before, and whether an answer goes later
pub invariant_of-self : goal.invariant_of-self
invariant_of-self c =
    let rows = c.self.inside.rows in
    let new = c.move_on.new.rows in
    let now : new ≡ rows_moved_on rows.items c.args.index = cc in
    let count : length new ≡ length rows.items = ap length now ∙ count_stays rows.items c.args.index in
    let same : rows.len ≡ length new = omega arith in
    let before = c.self.invariant.0 in
    let few : length new ≤ 1024 = omega arith in
    rw (refilled new rows.items rows.len same) (
      few,
      c.self.invariant.1 ∙ sym (firsts_stay rows.items c.args.index) ∙ ap (λ (r : List AnswerRow). map row_first r) (sym now),
      c.self.invariant.2 ∙ sym (late_stays rows.items c.args.index) ∙ ap any_late (sym now),
    )
