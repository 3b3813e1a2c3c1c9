use Rattle.std.proofs.Common.{length, ◌≤◌, ◌+◌, sym, ◌∙◌, arith}
use Rattle.diag_workers.proofs.Places.{places_count, places_below}
use Rattle.diag_workers.proofs.crewing.crew_keeping.Goals as goal

pub crew_of-requires-clause-as_many : goal.crew_of-requires-clause-as_many
crew_of-requires-clause-as_many g c κs within =
    places_count g.D.Door.tester c.args.doors.items 1 (length c.args.setup.now.testers) c.requires.doors ∙ sym c.requires.logs

pub crew_of-requires-clause-in_setup : goal.crew_of-requires-clause-in_setup
crew_of-requires-clause-in_setup g c κs within =
    let room : 1 + (length c.args.setup.now.testers) ≤ (length c.args.setup.now.testers) + 1 = omega arith in
    places_below g.D.Door.tester c.args.doors.items 1 (length c.args.setup.now.testers) (length c.args.setup.now.testers) room c.requires.doors
