use Rattle.std.proofs.Common.{rules}
use Rattle.std.proofs.lemmas.List.{map-append}
use Rattle.diag_workers.proofs.seating.take_apart.Goals as goal

pub loop-record-preserved : goal.loop-record-preserved
loop-record-preserved c c' = record {
  can = tt;
  ends = tt;
  seats = search (rules, map-append);
  sent = search (rules, map-append);
}
