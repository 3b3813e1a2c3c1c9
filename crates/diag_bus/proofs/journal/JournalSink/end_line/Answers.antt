use Rattle.std.proofs.Common.{ap, ◌∙◌, [], ◌∷◌, ◌++◌}
use Rattle.diag_bus.proofs.Entries.{line_entered, none_entered}
use Rattle.diag_bus.proofs.journal.JournalSink.end_line.Goals as goal

pub returns-clause-ended : goal.returns-clause-ended
returns-clause-ended c = record {
  more = c.args.self.now.text.items;
  grown = c.in_ok-extend_from_slice.ensures.items ∙ ap (λ w. c.args.text.now.items ++ w) c.as_slice.ensures.value;
  holds = λ lines line K ends taken. (
    none_entered (record { text = c.clear.new.self }) c.args.arg2.now (lines ++ line ∷ []) c.clear.ensures.items,
    line_entered c.args.self.now c.args.arg2.now lines line K ends.run taken,
  );
}
