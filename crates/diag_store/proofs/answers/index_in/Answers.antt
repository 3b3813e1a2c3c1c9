use Rattle.std.proofs.Common.{◌≡◌, ◌∙◌, sym, arith, ap, length, false, true, slice_index, slice_index_or}
use Rattle.std.proofs.lemmas.List.{length-map}
use Rattle.diag_setup.specs.declared.raw.PatternItem.TheVariants as pattern
use Rattle.diag_store.specs.Answers.{applies, is_of, row_first}
use Rattle.diag_store.proofs.AnswerLemmas.{any_default, none_more, other_at, first_at, first_nowhere}
use Rattle.diag_store.proofs.answers.index_in.Goals as goal

pub loop-index-preserved-then-not-is_of : goal.loop-index-preserved-then-not-is_of
loop-index-preserved-then-not-is_of c =
    let p = c.args.p.now in
    let firsts = c.args.firsts.now in
    let rows = c.args.rows.now in
    let i = c.loop-index.index in
    let x = slice_index_or firsts i (pattern.Byte 0) in
    let other : is_of x (slice_index p 0) ≡ false = cc in
    let before = c.loop-index.invariant in
    record {
      none = none_more (applies c.args.access p) rows i before.none
          (other_at c.args.access p rows firsts i (pattern.Byte 0) before.firsts (omega arith) before.some other);
      firsts = before.firsts;
      some = before.some;
    }

pub returns-then-applies : goal.returns-then-applies
returns-then-applies c =
    let rows = c.args.rows.now in
    let i = c.loop-index.index in
    let test = applies c.args.access c.args.p.now in
    let row = c.index-rows-index.result in
    let here : test (slice_index_or rows i row) ≡ true = ap test (sym c.index-rows-index.is) ∙ (sym c.applies.ensures ∙ c.if-applies.true) in
    let count : length c.args.firsts.now ≡ length rows = ap length c.loop-index.invariant.firsts ∙ length-map rows row_first in
    sym (first_at test rows i row c.loop-index.invariant.none (omega arith) here)

pub loop-index-preserved : goal.loop-index-preserved
loop-index-preserved c =
    let rows = c.args.rows.now in
    let i = c.loop-index.index in
    let test = applies c.args.access c.args.p.now in
    let row = c.index-rows-index.result in
    let before = c.loop-index.invariant in
    let count : length c.args.firsts.now ≡ length rows = ap length before.firsts ∙ length-map rows row_first in
    let here : test (slice_index_or rows i row) ≡ false = ap test (sym c.index-rows-index.is) ∙ (sym c.applies.ensures ∙ c.if-applies.false) in
    record {
      none = none_more test rows i before.none (λ d. ap test (any_default rows i d row (omega arith)) ∙ here);
      firsts = before.firsts;
      some = before.some;
    }

pub returns : goal.returns
returns c =
    let rows = c.args.rows.now in
    let count : length c.args.firsts.now ≡ length rows = ap length c.loop-index.invariant.firsts ∙ length-map rows row_first in
    sym (first_nowhere (applies c.args.access c.args.p.now) rows c.loop-index.index c.loop-index.invariant.none (omega arith))
