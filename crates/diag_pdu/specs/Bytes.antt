-- The bytes of a message, where they are kept.
use Rattle.std.specs.Prelude.{ℕ, List}
use Rattle.diag_pdu.specs.declared.message.Bytes.{Bytes}
use Rattle.diag_pdu.specs.declared.message.Bytes.TheVariants.{Short, Long}

abbrev pub bytes_of : Bytes → List ℕ
bytes_of (Short bytes) = bytes
bytes_of (Long bytes) = bytes.items
