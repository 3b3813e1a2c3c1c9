use Rattle.std.proofs.Common.{◌++◌, Ok, ap, sym, ◌∙◌}
use Rattle.diag_text.specs.Text.{end_text}
use Rattle.diag_run.specs.Wanted.{end_with}
use Rattle.diag_run.proofs.ending.NoTextEnding.add_end.Goals as goal

pub returns-clause-ok : goal.returns-clause-ok
returns-clause-ok c = record {
  more = c.in_ok-end.end.items;
  grown = c.in_ok-extend_from_slice.ensures.items ∙ ap (λ w. c.args.text.now.items ++ w) c.as_slice.ensures.value;
  holds = λ lines took ecu. ap (λ w. Ok (end_with w 0)) (sym (c.in_ok-end.ensures ∙ ap (end_text c.args.setup.now) ecu));
}
