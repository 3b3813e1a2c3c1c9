-- What a play of all testers' logs is.
use Rattle.std.specs.Prelude.{◌≡◌, ℕ, ◌+◌, List, length, Some, slice_get}
use Rattle.diag_can.specs.Event.{Event}
use Rattle.diag_tp.specs.declared.sent.Sent.{Sent}
use Rattle.diag_setup.specs.declared.raw.RawSetup.{RawSetup}
use Rattle.diag_setup.specs.Setup.{link_of}
use Rattle.diag_ecu.specs.State.{opening}
use Rattle.diag_desk.specs.Legal.{Run, Legal}
use Rattle.diag_desk.specs.Entries.{asked_by}
use Rattle.diag_desk.specs.Timed.{own_timed, timed}
use Rattle.diag_port.specs.Late.{pace_of}
use Rattle.diag_port.specs.Releasing.{drawn}
use Rattle.diag_world.specs.Weaving.{steps_of, log_of, IsInterleaving, AsksItsLog}

-- However the testers' events fall, as M says, this is what a play of their logs leaves.
pub record IsPlay (setup : RawSetup) (M : List (ℕ × Event)) (logs : List (List Event)) (desk : Run)
    (sent : List (List Sent)) : Type 0 where
  -- the desk was opened as the setup says
  pub opening : desk.opening ≡ opening setup
  -- the journal is one legal run of the sequential server; the ECU at the end is what that run makes of the opening, as
  -- every desk tells
  pub legal : Legal desk.opening desk.journal
  -- M has the events of each tester's log, in their order, and no others
  pub interleaving : IsInterleaving M logs
  -- the journal is the run of M
  pub run : asked_by desk.journal ≡ steps_of (link_of setup) M
  -- each tester's steps are those that its log gives, each once, in order; no other tester has an entry
  pub asks : AsksItsLog (link_of setup) desk.journal logs
  -- each tester's frames are what flow control draws from the replies to it, each placed from the moment that gave its step
  -- on: when the setup's rows of answers let it go, behind its response pending and behind the replies before it
  pub testers : length sent ≡ length logs
  pub frames : (i : ℕ) (frames : List Sent)
      → slice_get sent i ≡ Some frames
      → frames ≡ drawn (link_of setup (i + 1)) (pace_of setup) (log_of logs (i + 1))
      (own_timed (timed desk.opening desk.journal) (i + 1))
