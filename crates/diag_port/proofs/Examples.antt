-- Worked examples of replies that go later, computed.
use Rattle.std.proofs.Common.{◌≡◌, ℕ, false, List, [], ◌∷◌, Some, refl}
use Rattle.diag_can.specs.Event.{Event, Physical, Ticks}
use Rattle.diag_pdu.specs.declared.length.DataLength.TheVariants.{Dl8}
use Rattle.diag_pdu.specs.declared.setup.LinkSetup.{LinkSetup}
use Rattle.diag_pdu.specs.Kind.{kind}
use Rattle.diag_pdu.specs.Request.{request_of}
use Rattle.diag_tp.specs.Gives.{gives}
use Rattle.diag_tp.specs.Wire.{Placed}
use Rattle.diag_desk.specs.Timed.{Timed}
use Rattle.diag_port.specs.declared.pace.Pace.{Pace}
use Rattle.diag_port.specs.Late.{pendings}
use Rattle.diag_port.specs.Releasing.{held, placed}
use Rattle.diag_port.specs.Standing.{timed_asks, timed_ticks}

abbrev settings : LinkSetup
settings = record {
  ids = record { request = 0x7E0; response = 0x7E8; functional = 0x7DF; fd = false };
  block_size = 0;
  st_min = 0;
  max_request = 4095;
  framing = record { tx_dl = Dl8; pad = Some 0xCC; fill = 0 };
  n_bs = 1000;
  n_cr = 1000;
}

abbrev pace : Pace
pace = record { first = 50; step = 5000 }

abbrev at : ℕ → List ℕ → Placed
at m message = record { moment = m; message = message }

abbrev answered : List ℕ → ℕ → List ℕ → Timed
answered request after reply = timed_asks 1 (request_of false request) (Some reply) after

abbrev clearing : Event
clearing = Physical (0x04 ∷ 0x14 ∷ 0xFF ∷ 0xFF ∷ 0xFF ∷ [])

abbrev present : Event
present = Physical (0x02 ∷ 0x3E ∷ 0x00 ∷ [])

-- 400 ticks for clearing, and so many for TesterPresent, which is asked behind it
abbrev slow_answers : ℕ → ℕ → List Timed
slow_answers after ticks =
    answered (0x14 ∷ 0xFF ∷ 0xFF ∷ 0xFF ∷ []) 400 (0x54 ∷ [])
    ∷ answered (0x3E ∷ 0x00 ∷ []) after (0x7E ∷ 0x00 ∷ [])
    ∷ timed_ticks 1 ticks ∷ []

-- rule-slow: response pending 50 ticks behind the first request, both answers at 400. The frames are the moments 1 and 2, so
-- tick n is the moment n + 2
slow_is_placed : placed settings pace (clearing ∷ present ∷ Ticks 400 ∷ []) (slow_answers 0 400)
    ≡ at 52 (0x7F ∷ 0x14 ∷ 0x78 ∷ []) ∷ at 402 (0x54 ∷ []) ∷ at 402 (0x7E ∷ 0x00 ∷ []) ∷ []
unfolding gives kind pendings
slow_is_placed = refl

-- and with a tick less both are held
slow_is_held : held settings pace (clearing ∷ present ∷ Ticks 399 ∷ []) (slow_answers 0 399)
    ≡ record { due = 400; message = 0x54 ∷ [] } ∷ record { due = 0; message = 0x7E ∷ 0x00 ∷ [] } ∷ []
unfolding gives kind pendings
slow_is_held = refl

-- rule-slow-twice: the response pending of the second request waits for the answer to the first, and so does its answer
slow_twice : placed settings pace (clearing ∷ present ∷ Ticks 400 ∷ []) (slow_answers 100 400)
    ≡ at 52 (0x7F ∷ 0x14 ∷ 0x78 ∷ []) ∷ at 402 (0x54 ∷ []) ∷ at 402 (0x7F ∷ 0x3E ∷ 0x78 ∷ []) ∷ at 402 (0x7E ∷ 0x00 ∷ []) ∷ []
unfolding gives kind pendings
slow_twice = refl

-- rule-pending-many: response pending again and again, at 50, 1050 and 2050, and the answer at 3000
pending_many : placed settings (record { first = 50; step = 1000 }) (Physical (0x04 ∷ 0x31 ∷ 0x01 ∷ 0xFF ∷ 0x00 ∷ []) ∷ Ticks 3000 ∷ [])
    (answered (0x31 ∷ 0x01 ∷ 0xFF ∷ 0x00 ∷ []) 3000 (0x71 ∷ 0x01 ∷ 0xFF ∷ 0x00 ∷ []) ∷ timed_ticks 1 3000 ∷ [])
    ≡ at 51 (0x7F ∷ 0x31 ∷ 0x78 ∷ []) ∷ at 1051 (0x7F ∷ 0x31 ∷ 0x78 ∷ []) ∷ at 2051 (0x7F ∷ 0x31 ∷ 0x78 ∷ [])
    ∷ at 3001 (0x71 ∷ 0x01 ∷ 0xFF ∷ 0x00 ∷ []) ∷ []
unfolding gives kind pendings
pending_many = refl
