use Rattle.std.proofs.Common.{◌≡◌, ◌++◌, ◌+◌, ◌*◌, drop, length}
use Rattle.std.specs.Prelude.{flat_map}
use Rattle.diag_ecu.specs.Respond.{report, all_reply}
use Rattle.diag_ecu.proofs.ecu.Ecu.report_all.Given as goal

-- the reply so far, and the reports of what is left
abbrev pub invariant-loop-i : goal.invariant-loop-i
invariant-loop-i l = record {
  told : l.reply.items ++ flat_map (report l.self.values.availability) (drop l.i l.self.dtcs) ≡ all_reply l.self;
  len : length l.reply.items ≡ 3 + 4 * l.i;
}
