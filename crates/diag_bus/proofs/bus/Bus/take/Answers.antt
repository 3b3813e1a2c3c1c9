use Rattle.diag_setup.specs.Setup.{known_ids}
use Rattle.std.proofs.Common.{◌++◌, ℕ, List, length, refl, subst, arith}
use Rattle.std.specs.List.{flat_map}
use Rattle.diag_can.specs.Event.{Event}
use Rattle.diag_pdu.specs.Cut.{counted_from}
use Rattle.diag_world.specs.Server.{each_of}
use Rattle.diag_bus.specs.Bus.{AreSound}
use Rattle.diag_bus.specs.Clock.{moment_end}
use Rattle.diag_bus.specs.Events.{frame_said, frame_to, said_gives}
use Rattle.diag_bus.specs.Node.{Gave, TookTime}
use Rattle.diag_bus.proofs.Taking.{is_ready, said_inside, sent_in_time, sound_taken, took_line, well_time}
use Rattle.diag_bus.proofs.Stamps.{bus_line_low}
use Rattle.diag_bus.proofs.bus.Bus.take.Given.{Over}
use Rattle.diag_bus.proofs.bus.Bus.take.Goals as goal
use Rattle.diag_bus.proofs.bus.Bus.take.Goals.{After-take}

pub returns : goal.returns
returns g c = λ line says.
    let inside = c.self.inside in
    let clock = inside.clock in
    let taken = c.take.new.self in
    let setup = inside.setup in
    let testers = length setup.testers in
    let said = c.args.said.now in
    let span = c.in_ok-span.ensures in
    let sink = g.S.Sink in
    let here = said_inside line c.self.view_is says in
    let gave : Gave sink.took c.begin.new.self inside.sink taken c.take.new.sink (said_gives setup clock.reference said) =
    subst (λ (events : List Event). Gave sink.took c.begin.new.self inside.sink taken c.take.new.sink (flat_map (each_of testers) events
    ++ flat_map (frame_to setup (frame_said said)) (counted_from 1 testers))) span.waits c.in_ok-take.ensures.ok in
    took_line sink.took sink.is_for sink.aim sink.written c.args.self.now setup line _ inside.sink c.take.new.sink c.end_line.new.self c.self.view_is c.self.invariant.0
    here (well_time setup clock line said _ here refl span.early) (span.on setup)
    c.begin.ensures.empty c.begin.ensures.server c.begin.ensures.shape span.waits
    gave c.take.ensures.shape c.take.ensures.kept c.in_ok-end_line.ensures.ended c.end_line.ensures.stays

-- ---- the clocks

pub take-requires-clause-ready : goal.take-requires-clause-ready
take-requires-clause-ready g c = is_ready c.self.inside.setup c.self.inside.node c.begin.new.self c.self.inside.clock
    c.self.invariant.0 c.begin.ensures.server _ (omega (arith, (c.in_ok-span.ensures.on c.self.inside.setup).time, c.in_ok-span.ensures.span, c.in_ok-span.ensures.early)) c.begin.ensures.shape

module _ (g : Over) (c : After-take g) where
  -- what holds of the bus's parts behind the line
  sound : AreSound c.self.inside.setup c.take.new.self c.go_on.new.self
  sound = sound_taken c.self.inside.setup c.requires.0
      c.self.invariant.0 (said_inside c.requires.0 c.self.view_is c.requires.1) (c.in_ok-span.ensures.on c.self.inside.setup) c.in_ok-span.ensures.start c.begin.ensures.server
      c.begin.ensures.shape c.take.ensures.shape
      (subst (λ (ms : ℕ). TookTime c.begin.new.self.server c.take.new.self.server ms) c.in_ok-span.ensures.span c.take.ensures.pace)

pub invariant_of-self-in_err-take : goal.invariant_of-self-in_err-take
invariant_of-self-in_err-take g c = (
  sound g (goal.at.invariant_of-self-in_err-take g c).After-take,
  c.self.invariant.1,
  c.take.ensures.kept.0 c.self.inside.setup c.self.invariant.2,
)

pub invariant_of-self-in_err-end_line : goal.invariant_of-self-in_err-end_line
invariant_of-self-in_err-end_line g c = (
  sound g (goal.at.invariant_of-self-in_err-end_line g c).After-take,
  c.self.invariant.1,
  c.end_line.ensures.stays.0 c.self.inside.setup (c.take.ensures.kept.0 c.self.inside.setup c.self.invariant.2),
)

pub invariant_of-self-2 : goal.invariant_of-self-2
invariant_of-self-2 g c = (
  sound g (goal.at.invariant_of-self-2 g c).After-take,
  c.self.invariant.1,
  c.end_line.ensures.stays.0 c.self.inside.setup (c.take.ensures.kept.0 c.self.inside.setup c.self.invariant.2),
)

-- ---- where the lists have frames

pub begin-requires : goal.begin-requires
begin-requires g c = record { filled = c.self.invariant.0.4 }

-- ---- the line's end

pub end_line-requires-clause-begun : goal.end_line-requires-clause-begun
end_line-requires-clause-begun g c = c.take.ensures.kept.0 c.self.inside.setup c.self.invariant.2

pub end_line-requires-clause-drawn : goal.end_line-requires-clause-drawn
end_line-requires-clause-drawn g c = record {
  lists = (sound g (goal.at.end_line-requires-clause-drawn g c).After-take).1;
  start = c.in_ok-span.ensures.start moment_end c.self.invariant.0.3 (bus_line_low (known_ids c.self.inside.setup) c.requires.0 c.args.said.now (said_inside c.requires.0 c.self.view_is c.requires.1));
  sent = sent_in_time c.self.inside.setup c.self.inside.node c.begin.new.self c.self.inside.clock
      c.self.invariant.0 c.begin.ensures.server _ (omega (arith, (c.in_ok-span.ensures.on c.self.inside.setup).time, c.in_ok-span.ensures.span, c.in_ok-span.ensures.early)) c.take.new.self
      c.begin.ensures.empty c.in_ok-take.ensures.sent;
  filled = (sound g (goal.at.end_line-requires-clause-drawn g c).After-take).4;
}
