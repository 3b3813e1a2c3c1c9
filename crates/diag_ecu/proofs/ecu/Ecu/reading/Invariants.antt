use Rattle.std.proofs.Common.{◌≡◌, ◌+◌, ◌≤◌, length}
use Rattle.std.specs.Prelude.{flat_map, min, ◌||◌, ◌&&◌}
use Rattle.std.specs.List.{list_any, list_all}
use Rattle.diag_ecu.specs.Respond.{ids_in, knows, may_read, record_of, data_records}
use Rattle.diag_ecu.proofs.ecu.Ecu.reading.Given as goal

-- what was found so far, and what is left
abbrev pub invariant-loop-rest : goal.invariant-loop-rest
invariant-loop-rest l = record {
  known : (l.any_known || list_any (knows l.self) (ids_in l.rest)) ≡ list_any (knows l.fn.self) (ids_in l.fn.ids);
  open_all : (l.all_open && list_all (may_read l.self l.who) (ids_in l.rest)) ≡ list_all (may_read l.fn.self l.who) (ids_in l.fn.ids);
  told : min (l.length + length (flat_map (record_of l.self) (ids_in l.rest))) 65536 ≡ min (length (data_records l.fn.self (ids_in l.fn.ids))) 65536;
  bound : l.length ≤ 65536;
}

abbrev pub decreases-loop-rest : goal.decreases-loop-rest
decreases-loop-rest l = length l.rest
