use Rattle.std.proofs.Common.{◌+◌, ◌-◌, ◌∷◌, ◌++◌, ◌∙◌, length, take, drop, sym, ap, arith, length-drop}
use Rattle.std.proofs.lemmas.List.{take_all}
use Rattle.diag_can.proofs.Lines.{no_feed_before, split_at_feed}
use Rattle.diag_can.proofs.front.other_front.Goals as goal

pub returns : goal.returns
returns c known =
    let text = c.args.text.now in
    let end = c.in_ok-end.end in
    let after = drop (end + 1) text in
    record {
      is = split_at_feed text end c.in_ok-end.ensures
          ∙ ap (λ r. take end text ++ 10 ∷ r) (sym (take_all (length text - (end + 1)) after (omega (arith, length-drop (end + 1) text))));
      plain = no_feed_before text end c.in_ok-end.ensures;
      says = tt;
    }
