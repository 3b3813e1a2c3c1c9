-- What is told of a fault is told of one of which something holds.
use Rattle.std.proofs.Common.{ℕ, Option, Some}
use Rattle.diag_text.specs.declared.fault.RunFault.{RunFault}
use Rattle.diag_run.specs.declared.file_run.Outcome.{Outcome}
use Rattle.diag_run.specs.declared.file_run.Outcome.TheVariants.{Done, Fault}
use Rattle.diag_run.specs.Run.{DoneOf, EndsOf, Tells}

pub ends_of : (P : Option RunFault → Type 0) (fault : RunFault) (out : Outcome) → P (Some fault) → Tells fault out → EndsOf P out
ends_of P fault (Done number) holds tells = absurd tells
ends_of P fault (Fault told number) holds tells = (fault, holds, tells)

-- what ended by a fault didn't write its whole text
pub not_done : (P : ℕ → Type 0) (fault : RunFault) (out : Outcome) → Tells fault out → DoneOf P out
not_done P fault (Done number) tells = absurd tells
not_done P fault (Fault told number) tells = tt
