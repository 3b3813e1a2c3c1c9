use Rattle.std.proofs.Common.{◌∙◌, sym, arith, ap, ◌||◌, ◌==◌, length}
use Rattle.diag_store.proofs.AnswerLemmas.{fits_short, fits_end}
use Rattle.diag_store.proofs.answers.fits.Goals as goal

pub returns-then-p-items : goal.returns-then-p-items
returns-then-p-items c = sym (fits_short c.args.items.now c.args.more c.args.p.now (omega arith))

pub returns-else-more : goal.returns-else-more
returns-else-more c =
    let items = c.args.items.now in
    let p = c.args.p.now in
    let end = fits_end items c.args.more p c.loop-index.index (omega arith) (omega arith) (omega arith) in
    sym (c.loop-index.invariant ∙ (end ∙ ap (λ b. b || (length p == length items)) c.if-more.false))
