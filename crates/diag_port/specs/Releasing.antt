-- Where the replies to a tester's steps are placed: from the moment that gave its step on, each when it may go.
use Rattle.std.specs.Prelude.{ℕ, List, [], ◌∷◌, ◌++◌, map, slice_index}
use Rattle.std.specs.List.{flat_map, zip}
use Rattle.std.specs.Option.{option_to_list}
use Rattle.diag_can.specs.Event.{Event}
use Rattle.diag_pdu.specs.declared.setup.LinkSetup.{LinkSetup}
use Rattle.diag_pdu.specs.declared.step.Step.{Step}
use Rattle.diag_pdu.specs.declared.step.Step.TheVariants.{Request, Ticks}
use Rattle.diag_tp.specs.declared.sent.Sent.{Sent}
use Rattle.diag_tp.specs.Moments.{history, last_moment, last_time}
use Rattle.diag_tp.specs.Gives.{gives}
use Rattle.diag_tp.specs.Wire.{Placed, wire}
use Rattle.diag_desk.specs.Timed.{Timed}
use Rattle.diag_port.specs.declared.held.Later.{Later}
use Rattle.diag_port.specs.declared.pace.Pace.{Pace}
use Rattle.diag_port.specs.Late.{Late, asked_at, held_late, laters, placed_late}

-- the moment of a step, and its time
pub record Mark : Type 0 where
  pub moment : ℕ
  pub time : ℕ

abbrev pub mark_of : List Event → Mark
mark_of E = record { moment = last_moment E; time = last_time E }

-- of each further event that gives a step, its mark; that of a tick count is its last moment
abbrev pub marks_after : LinkSetup → List Event → List Event → List Mark
marks_after s past [] = []
marks_after s past (e ∷ es) =
    map (λ step. mark_of (past ++ e ∷ [])) (option_to_list (gives s past e))
    ++ marks_after s (past ++ e ∷ []) es

-- the marks of the steps that the events give
abbrev pub marks : LinkSetup → List Event → List Mark
marks s E = marks_after s [] E

-- the service that a step asks for
abbrev pub sid_of : Step → ℕ
sid_of (Request request) = slice_index request.message 0
sid_of (Ticks count) = 0

-- the messages of what was answered to a step with this mark
abbrev pub late_at : Pace → Mark → Timed → List Late
late_at pace m x =
    asked_at m.moment (laters pace m.time x.after (sid_of x.entry.step) x.entry.reply)

-- the messages of the replies to the steps of E, in their order
abbrev pub lates : LinkSetup → Pace → List Event → List Timed → List Late
lates s pace E T = flat_map (λ p. late_at pace p.0 p.1) (zip (marks s E) T)

-- where they are placed by the end of E
abbrev pub placed : LinkSetup → Pace → List Event → List Timed → List Placed
placed s pace E T = placed_late (history E) 0 (lates s pace E T)

-- and which are held then
abbrev pub held : LinkSetup → Pace → List Event → List Timed → List Later
held s pace E T = held_late (history E) 0 (lates s pace E T)

-- what flow control draws from these replies
abbrev pub drawn : LinkSetup → Pace → List Event → List Timed → List Sent
drawn s pace E T = wire s E (placed s pace E T)
