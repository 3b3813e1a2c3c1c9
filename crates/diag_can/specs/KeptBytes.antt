-- The bytes of a frame that are kept, wherever they stand.
use Rattle.std.specs.Prelude.{ℕ, List}
use Rattle.diag_can.specs.declared.kept_bytes.Bytes.{Bytes}
use Rattle.diag_can.specs.declared.kept_bytes.Bytes.TheVariants.{Short, Long}

abbrev pub kept_in : Bytes → List ℕ
kept_in (Short bytes) = bytes
kept_in (Long bytes) = bytes.value
