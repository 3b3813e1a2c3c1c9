use Rattle.std.proofs.Common.{◌≡◌, ◌≤◌, ◌+◌, ◌++◌, ◌∷◌, [], List, length, take, drop, subst, ◌∙◌, arith}
use Rattle.std.proofs.lemmas.Grind.{common_steps}
use Rattle.std.proofs.lemmas.List.{length-take-le}
use Rattle.diag_can.specs.Event.{Event}
use Rattle.diag_desk.specs.Timed.{entries_of}
use Rattle.diag_desk.proofs.Runs.{take_one}
use Rattle.diag_port.specs.Late.{pace_of}
use Rattle.diag_world.specs.Channel.{channel_of}
use Rattle.diag_workers.specs.Work.{WorkerStands}
use Rattle.std.proofs.lemmas.Result.{err_from_is_err_and}
use Rattle.diag_setup.specs.Setup.{link_of}
use Rattle.diag_tp.specs.Gives.{steps_after}
use Rattle.diag_workers.proofs.Recording.{asks_first_by, worker_done, worker_more}
use Rattle.diag_workers.proofs.working.work_keeping.Goals as goal

pub returns-in_err-take-clause-refused : goal.returns-in_err-take-clause-refused
returns-in_err-take-clause-refused g c =
    let s = link_of c.args.setup.now c.args.who in
    let stood = c.loop-index.invariant.stands in
    let kept : g.D.Door.given c.take.new.door ≡ g.D.Door.given c.loop-index.door = c.in_err-take.ensures.refused in
    let p = err_from_is_err_and c.from_residual.result c.from_residual.ensures.1 in
    rw p.1 (
      stood.entries,
      steps_after s (take c.loop-index.index c.args.log.now.items) (drop c.loop-index.index c.args.log.now.items),
      kept ∙ stood.given,
      asks_first_by s c.args.who c.args.log.now.items c.loop-index.index (entries_of stood.entries) stood.mine stood.stands.stands.asks,
    )

pub loop-index-preserved : goal.loop-index-preserved
loop-index-preserved g c =
    let s = link_of c.args.setup.now c.args.who in
    let pace = pace_of c.args.setup.now in
    let events = c.args.log.now.items in
    let i = c.loop-index.index in
    let event = c.get.result in
    let before = g.D.Door.given c.args.door.now in
    let tester : g.D.Door.tester c.loop-index.door ≡ c.args.who = c.loop-index.invariant.tester ∙ c.requires.own_door in
    let len = c.len-index-end.ensures in
    let within : i ≤ length events = omega (arith, c.loop-index-test.true, len.count) in
    let few : length (take i events) ≤ 1000000 = omega (arith, length-take-le i events within, within, len.count, len.few) in
    let taken = worker_more s pace c.args.who _ _ _ (take i events) event before _ _ _ _ few c.loop-index.invariant.stands tester c.in_ok-take.ensures.took in
    let next : take (i + 1) events ≡ take i events ++ event ∷ [] = take_one events i event c.get.ensures in
    record {
      tester = c.in_ok-take.ensures.tester ∙ c.loop-index.invariant.tester;
      home = c.in_ok-take.ensures.home ∙ c.loop-index.invariant.home;
      rest = c.in_ok-take.ensures.rest;
      stands = rw next taken;
    }

pub returns-clause-played : goal.returns-clause-played
returns-clause-played g c =
    let s = link_of c.args.setup.now c.args.who in
    let pace = pace_of c.args.setup.now in
    let events = c.args.log.now.items in
    let before = g.D.Door.given c.args.door.now in
    let all : take c.loop-index.index events ≡ events = grind (arith, common_steps) in
    let stood = subst (λ (E : List Event). WorkerStands s pace c.args.who (channel_of c.loop-index.worker.channel) E before
    (g.D.Door.given c.loop-index.door) (g.K.Keep.keeps c.loop-index.worker.entries)) all c.loop-index.invariant.stands in
    rw c.into_sent.ensures (worker_done s pace c.args.who (channel_of c.loop-index.worker.channel) events before (g.D.Door.given c.loop-index.door)
    (g.K.Keep.keeps c.loop-index.worker.entries) stood)
