use Rattle.std.proofs.Common.{Some, ap, sym, ◌∙◌}
use Rattle.std.specs.Prelude.{option_copied}
use Rattle.diag_told.proofs.Marked.{message_count}
use Rattle.diag_told.proofs.telling.count_of.Goals as goal

pub returns-in-Some-clause-count : goal.returns-in-Some-clause-count
returns-in-Some-clause-count c =
    message_count (option_copied c.args.message) c.bytes.result.now (ap option_copied c.in-Some.is ∙ ap Some (sym c.bytes.ensures.same))
