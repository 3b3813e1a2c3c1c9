-- Why a call that takes memory may refuse.
use Rattle.std.specs.Prelude.{◌⊎◌}

-- the fault that is made of a refusal of memory (`gives`), or another, which comes only where this holds
abbrev pub IsFaultBy : {Refused Fault : Type 0} → (Refused → Fault → Type 0) → Type 0 → Fault → Type 0
IsFaultBy {Refused} gives holds fault = ((refused : Refused) × gives refused fault) ⊎ holds
