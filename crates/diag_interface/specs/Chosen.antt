-- What a reader still has to give of which one interface may be chosen.
use Rattle.std.specs.Prelude.{ℕ, List, Option}
use Rattle.diag_interface.specs.Only.{left}
use Rattle.diag_interface.specs.declared.chosen.Chosen.{Chosen}
use Rattle.diag_interface.specs.declared.chosen.Chosen.TheVariants.{Whole, Only}

abbrev pub chosen_left : {R : Type 0} → (R → Option (List ℕ)) → Chosen R → Option (List ℕ)
chosen_left remaining (Whole reader) = remaining reader
chosen_left remaining (Only only) = left remaining only
