use Rattle.std.proofs.Common.{◌++◌, codes, decimal, ap, append_assoc, ◌∙◌}
use Rattle.std.proofs.lemmas.Result.{on_ok_weaker}
use Rattle.diag_comparing.proofs.ending.add_count.Goals as goal

pub returns : goal.returns
returns c =
    let counts = c.args.counts in
    on_ok_weaker c.add_word-4.result (λ e.
    e ∙ (ap (λ w. w ++ codes " differ\n") (c.in_ok-add_number-2.ensures
    ∙ ap (λ w. w ++ decimal counts.differ) (c.in_ok-add_word-3.ensures
    ∙ ap (λ w. w ++ codes " exchanges, ") (c.in_ok-add_number.ensures
    ∙ ap (λ w. w ++ decimal counts.count) (c.in_ok-add_word-2.ensures
    ∙ ap (λ w. w ++ codes " ") c.in_ok-add_word.ensures))))
    ∙ simp append_assoc)) c.add_word-4.ensures
