use Rattle.std.proofs.Common.{◌≡◌, ◌++◌, length}
use Rattle.std.specs.Prelude.{flat_map}
use Rattle.diag_ecu.specs.Respond.{ids_in, record_of, data_records}
use Rattle.diag_ecu.proofs.ecu.Ecu.records.Given as goal

-- the reply so far, and the records of what is left
abbrev pub invariant-loop-rest : goal.invariant-loop-rest
invariant-loop-rest l = l.bytes.items ++ flat_map (record_of l.self) (ids_in l.rest) ≡ data_records l.fn.self (ids_in l.fn.ids)

abbrev pub decreases-loop-rest : goal.decreases-loop-rest
decreases-loop-rest l = length l.rest
