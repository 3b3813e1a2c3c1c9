use Rattle.std.proofs.Common.{Some, ap, sym, ◌∙◌, arith}
use Rattle.std.specs.Prelude.{option_copied}
use Rattle.diag_told.proofs.Marked.{message_count}
use Rattle.diag_told.proofs.telling.add_message.Goals as goal

pub add_hex-requires : goal.add_hex-requires
add_hex-requires c =
    let count = message_count (option_copied c.args.message) c.bytes.result.now (ap option_copied c.in-Some.is ∙ ap Some (sym c.bytes.ensures.same)) in
    omega (arith, count, c.requires)
