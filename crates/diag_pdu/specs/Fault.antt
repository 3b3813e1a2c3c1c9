-- What is printed where there is no message.
use Rattle.std.specs.Prelude.{ℕ, codes, List}
use Rattle.diag_pdu.specs.declared.message.MessageFault.{MessageFault}
use Rattle.diag_pdu.specs.declared.message.MessageFault.TheVariants.{Length, Memory}

abbrev pub message_fault_text : MessageFault → List ℕ
message_fault_text Length = codes "a message has 1 to 65535 bytes"
message_fault_text Memory = codes "no memory for a message"
