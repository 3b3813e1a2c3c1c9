use Rattle.std.proofs.Common.{◌≡◌, take}
use Rattle.diag_port.specs.Late.{pace_of}
use Rattle.diag_setup.specs.Setup.{link_of}
use Rattle.diag_world.specs.Channel.{IsResting, channel_of}
use Rattle.diag_workers.specs.Work.{WorkerStands}
use Rattle.diag_workers.proofs.working.work_keeping.Given as goal

abbrev pub invariant-loop-index : goal.invariant-loop-index
invariant-loop-index g l = record {
  tester : g.D.Door.tester l.door ≡ g.D.Door.tester l.fn.door;
  home : g.D.Door.home l.door ≡ g.D.Door.home l.fn.door;
  rest : IsResting l.worker.channel;
  stands : WorkerStands (link_of l.setup l.fn.who) (pace_of l.setup) l.fn.who (channel_of l.worker.channel) (take l.index l.log.items)
      (g.D.Door.given l.fn.door) (g.D.Door.given l.door) (g.K.Keep.keeps l.worker.entries);
}
