use Rattle.std.proofs.Common.{◌≡◌, ◌++◌, List, [], map, append-nil, ap, subst, sym, refl, ◌∙◌}
use Rattle.std.specs.Prelude.{option_copied}
use Rattle.diag_exchange.specs.Over.{Over}
use Rattle.diag_listen.proofs.Hearing.{both_ok}
use Rattle.diag_judge.specs.Judging.{AreCounts, bytes_in, judged_for}
use Rattle.diag_judge.specs.declared.tester.Counts.{Counts}
use Rattle.diag_judge.proofs.Lines.{line_judged, none_over}
use Rattle.diag_judge.proofs.tester.Tester.take.Goals as goal

pub returns-then-is_empty-clause-judges : goal.returns-then-is_empty-clause-judges
returns-then-is_empty-clause-judges c =
    let old = c.args.self.now in
    let new = c.hear.new.self in
    let over = c.hear.new.self.over.items in
    let judged = c.args.judged.now.items in
    let frame = bytes_in (option_copied c.args.frame) in
    let none : over ≡ [] = none_over c.hear.new.self.over c.is_empty.ensures c.if-is_empty.true in
    line_judged c.args.setup.now c.args.at c.args.who old new new.listener judged judged over c.args.span frame c.in_ok-hear.ensures.heard refl
    (sym (append-nil judged) ∙ ap (λ (os : List Over). judged ++ map (judged_for c.args.who) os) (sym none))
    (λ before h. subst
    (λ (os : List Over). AreCounts new.counts os) (sym (append-nil before) ∙ ap (λ (os : List Over). before ++ os) (sym none))
    (subst (λ (n : Counts). AreCounts n before) (sym c.hear.ensures.counts) h))

pub returns-clause-judges : goal.returns-clause-judges
returns-clause-judges c =
    let old = c.args.self.now in
    let heard = c.hear.new.self.listener in
    let over = c.hear.new.self.over.items in
    let frame = bytes_in (option_copied c.args.frame) in
    both_ok c.judge.result _ _ _ c.judge.ensures.judged c.judge.ensures.counts (λ judged counts.
    line_judged c.args.setup.now c.args.at c.args.who old
    (record { listener = heard; entered = c.hear.new.self.entered; over = c.judge.new.over; counts = c.judge.new.self })
    heard c.args.judged.now.items c.judge.new.judged.items over c.args.span frame c.in_ok-hear.ensures.heard refl judged (subst
    (λ (n : Counts). (before : List Over) → AreCounts n before → AreCounts c.judge.new.self (before ++ over)) c.hear.ensures.counts counts))
