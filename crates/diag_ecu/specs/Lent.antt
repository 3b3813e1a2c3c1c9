-- A reply whose value is lent.
use Rattle.std.specs.Prelude.{ℕ, List, ◌++◌}
use Rattle.diag_ecu.specs.declared.read_data.Lent.{Lent}

-- its bytes
abbrev pub lent_bytes : Lent → List ℕ
lent_bytes lent = lent.head ++ lent.value.now
