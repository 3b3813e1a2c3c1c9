use Rattle.std.proofs.Common.{◌≡◌, take}
use Rattle.diag_ecu.specs.State.{opening}
use Rattle.diag_desk.specs.Legal.{after}
use Rattle.diag_desk.specs.Replay.{IsLegalFor}
use Rattle.diag_desk.proofs.replaying.replay_all.Given as goal

-- the entries so far are a run, and the ECU is where it ends
abbrev pub invariant-loop-index : goal.invariant-loop-index
invariant-loop-index l = record {
  run : IsLegalFor l.setup (take l.index l.journal.entries);
  ecu : l.ecu ≡ after (opening l.setup) (take l.index l.journal.entries);
}
