-- How what is over is kept, and how it is lent.
use Rattle.std.specs.Prelude.{option_copied}
use Rattle.diag_exchange.specs.Over.{Over}
use Rattle.diag_exchange.specs.Over as over
use Rattle.diag_exchange.specs.Streaming.{told}
use Rattle.diag_exchange.specs.declared.over.Kept.{Kept}
use Rattle.diag_exchange.specs.declared.over.Kept.TheVariants as kept
use Rattle.diag_exchange.specs.declared.over.OverKind.{OverKind}
use Rattle.diag_exchange.specs.declared.over.OverKind.TheVariants as kind

-- what is over that is kept so
abbrev pub over_in : Kept → Over
over_in (kept.Asked e) = told e
over_in (kept.Unasked heard) = over.Unasked heard.value

-- what is over that is lent so
abbrev pub over_of : OverKind → Over
over_of (kind.Exchange request pendings answer) = over.Exchange request.now pendings (option_copied answer)
over_of (kind.Unasked heard) = over.Unasked heard.now
