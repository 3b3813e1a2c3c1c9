-- Worked examples of the definitions, with the transport's own steps.
use Rattle.std.proofs.Common.{◌≡◌, ℕ, false, None, Some, List, [], ◌∷◌, refl}
use Rattle.diag_can.specs.Event.{Event, Physical, Ticks}
use Rattle.diag_pdu.specs.declared.length.DataLength.TheVariants.{Dl8}
use Rattle.diag_pdu.specs.declared.setup.LinkSetup.{LinkSetup}
use Rattle.diag_pdu.specs.declared.step.Step.TheVariants as step
use Rattle.diag_pdu.specs.Request.{request_of}
use Rattle.diag_tp.specs.Gives.{gives, steps}
use Rattle.diag_pdu.specs.Kind.{kind}
use Rattle.diag_tp.specs.Placing.{moments_of_steps, placed}
use Rattle.diag_tp.specs.Reception.{open_at}
use Rattle.diag_desk.specs.declared.entry.Entry.{Entry}
use Rattle.diag_world.specs.Weaving.{steps_of, turns, weave}

-- the settings of tester t's link
abbrev links : ℕ → LinkSetup
links t = record {
  ids = record { request = 2016; response = 2024; functional = 2015; fd = false };
  block_size = 0;
  st_min = 0;
  max_request = 4095;
  framing = record { tx_dl = Dl8; pad = None; fill = 0 };
  n_bs = 1000;
  n_cr = 1000;
}

-- a request of eight bytes in two frames, with a tick between them
abbrev long_log : List Event
long_log = Physical (16 ∷ 8 ∷ 1 ∷ 2 ∷ 3 ∷ 4 ∷ 5 ∷ 6 ∷ []) ∷ Ticks 2 ∷ Physical (33 ∷ 7 ∷ 8 ∷ []) ∷ []

-- a request of two bytes
abbrev short_log : List Event
short_log = Physical (2 ∷ 62 ∷ 0 ∷ []) ∷ []

long_steps : steps (links 1) long_log ≡ step.Ticks 2 ∷ step.Request (request_of false (1 ∷ 2 ∷ 3 ∷ 4 ∷ 5 ∷ 6 ∷ 7 ∷ 8 ∷ [])) ∷ []
unfolding gives kind open_at
long_steps = refl

-- the request is given at moment 4: a frame, two unit ticks, a frame
long_moments : moments_of_steps (links 1) long_log ≡ 3 ∷ 4 ∷ []
unfolding gives kind open_at
long_moments = refl

long_placed : placed (links 1) long_log (None ∷ Some (126 ∷ 0 ∷ []) ∷ []) ≡ record { moment = 4; message = 126 ∷ 0 ∷ [] } ∷ []
unfolding gives kind open_at
long_placed = refl

in_turn : turns (long_log ∷ short_log ∷ [])
    ≡ (1, Physical (16 ∷ 8 ∷ 1 ∷ 2 ∷ 3 ∷ 4 ∷ 5 ∷ 6 ∷ [])) ∷ (2, Physical (2 ∷ 62 ∷ 0 ∷ [])) ∷ (1, Ticks 2) ∷ (1, Physical (33 ∷ 7 ∷ 8 ∷ [])) ∷ []
in_turn = refl

steps_in_turn : steps_of links (turns (long_log ∷ short_log ∷ []))
    ≡ (2, step.Request (request_of false (62 ∷ 0 ∷ []))) ∷ (1, step.Ticks 2) ∷ (1, step.Request (request_of false (1 ∷ 2 ∷ 3 ∷ 4 ∷ 5 ∷ 6 ∷ 7 ∷ 8 ∷ []))) ∷ []
unfolding gives kind open_at
steps_in_turn = refl

-- the second tester's request stands between the first one's steps
abbrev journal : List Entry
journal =
    record { who = 1; step = step.Ticks 2; reply = None }
    ∷ record { who = 2; step = step.Request (request_of false (62 ∷ 0 ∷ [])); reply = Some (126 ∷ 0 ∷ []) }
    ∷ record { who = 1; step = step.Request (request_of false (1 ∷ 2 ∷ 3 ∷ 4 ∷ 5 ∷ 6 ∷ 7 ∷ 8 ∷ [])); reply = None } ∷ []

woven : weave links journal (long_log ∷ short_log ∷ [])
    ≡ (1, Physical (16 ∷ 8 ∷ 1 ∷ 2 ∷ 3 ∷ 4 ∷ 5 ∷ 6 ∷ [])) ∷ (1, Ticks 2) ∷ (2, Physical (2 ∷ 62 ∷ 0 ∷ [])) ∷ (1, Physical (33 ∷ 7 ∷ 8 ∷ [])) ∷ []
unfolding gives kind open_at
woven = refl
