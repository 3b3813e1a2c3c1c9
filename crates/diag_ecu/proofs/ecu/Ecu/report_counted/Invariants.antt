use Rattle.std.proofs.Common.{◌≡◌, ◌≤◌, ◌++◌, ◌+◌, ◌*◌, drop, length}
use Rattle.std.specs.Prelude.{flat_map}
use Rattle.diag_store.specs.Dtcs.{matching}
use Rattle.diag_ecu.specs.Respond.{report, counted_reply}
use Rattle.diag_ecu.proofs.ecu.Ecu.report_counted.Given as goal

-- the reply so far, and the reports of what is left
abbrev pub invariant-loop-i : goal.invariant-loop-i
invariant-loop-i l = record {
  told : l.reply.items ++ flat_map (report l.self.values.availability) (matching (drop l.i l.self.dtcs) l.mask) ≡ counted_reply l.self l.mask;
  some : 3 ≤ length l.reply.items;
  len : length l.reply.items ≤ 3 + 4 * l.i;
}
