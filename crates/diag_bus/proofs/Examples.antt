-- Worked examples of the definitions, computed.
use Rattle.std.proofs.Common.{◌≡◌, ℕ, List, [], ◌∷◌, ◌++◌, codes, refl, true, Some, Ok, Err}
use Rattle.hex.proofs.OnLiterals.{hex_on_literals}
use Rattle.diag_can.specs.declared.fault.LineFault.TheVariants.{BadLine, BadTick}
use Rattle.diag_can.specs.Event.{Event, Physical, Functional, Ticks}
use Rattle.diag_bus.specs.declared.fault.BusFault.TheVariants.{Line}
use Rattle.diag_setup.specs.ExampleSetup.{tester, two_testers}
use Rattle.diag_setup.specs.declared.raw.RawSetup.{RawSetup}
use Rattle.diag_bus.specs.Events.{bus_events}
use Rattle.diag_bus.specs.Text.{bus_moment, start_after}

-- ---- the bus's order decides

abbrev pub order : List ℕ
order =
    codes "(0000000100.000000) can0 7E0#021003\n"
    ++ codes "(0000000100.000400) can0 7E8#065003003201F4CC\n"
    ++ codes "(0000000100.010000) can0 7E1#021003\n"
    ++ codes "(0000000100.020000) can0 7E0#021001\n"
    ++ codes "(0000000100.030000) can0 7E1#021003\n"

abbrev enter : Event
enter = Physical (0x02 ∷ 0x10 ∷ 0x03 ∷ [])

order_events : bus_events order two_testers ≡ Ok (
    (1, enter)
    ∷ (1, Ticks 10) ∷ (2, Ticks 10) ∷ (2, enter)
    ∷ (1, Ticks 10) ∷ (2, Ticks 10) ∷ (1, Physical (0x02 ∷ 0x10 ∷ 0x01 ∷ []))
    ∷ (1, Ticks 10) ∷ (2, Ticks 10) ∷ (2, enter) ∷ [])
unfolding hex_on_literals
order_events = refl

-- ---- a functional frame is each tester's; a stamp that isn't later gives no time; tick lines leave the reference alone

functional_events : bus_events (codes "(100.000000) can0 7DF#023E80\r\ntick 5\n\n(99.000000) x 123#00\n(100.002000) x 18DB33F1#021003") two_testers ≡ Ok (
    (1, Functional (0x02 ∷ 0x3E ∷ 0x80 ∷ [])) ∷ (2, Functional (0x02 ∷ 0x3E ∷ 0x80 ∷ []))
    ∷ (1, Ticks 5) ∷ (2, Ticks 5) ∷ (1, Ticks 2) ∷ (2, Ticks 2) ∷ [])
unfolding hex_on_literals
functional_events = refl

-- ---- identifiers of 29 bits: A goes by them, and B by 11 bits

abbrev wide : RawSetup
wide = record two_testers {
  testers = record (tester (codes "A") 0x18DA10F1 0x18DAF110) { extended = true } ∷ tester (codes "B") 0x7E1 0x7E9 ∷ [];
}

abbrev wide_capture : List ℕ
wide_capture =
    codes "(0.000000) can0 18da10f1#021003\n"
    ++ codes "(0.000000) can0 18DB33F1#023E00\n"
    ++ codes "(0.000000) can0 7DF#023E00\n"
    ++ codes "(0.000000) can0 000007E1#zz\n"
    ++ codes "(0.000000) can0 38DA10F1#zz\n"
    ++ codes "(0.000000) can0 18DAF110#027E00\n"

wide_events : bus_events wide_capture wide ≡ Ok (
    (1, enter) ∷ (1, Functional (0x02 ∷ 0x3E ∷ 0x00 ∷ [])) ∷ (2, Functional (0x02 ∷ 0x3E ∷ 0x00 ∷ [])) ∷ [])
unfolding hex_on_literals
wide_events = refl

-- an ill line of one of them is a fault, and of no other
wide_fault : bus_events (codes "(0.000000) can0 18DA10F2#zz\n(0.000000) can0 18DAF110#zz\n") wide ≡ Err (2, Line BadLine)
unfolding hex_on_literals
wide_fault = refl

-- ---- CAN FD: A goes by it, and B doesn't, whose frames of CAN FD are passed over

abbrev pub fd_tester : RawSetup
fd_tester = record two_testers {
  testers = record (tester (codes "A") 0x7E0 0x7E8) { fd = true; functional = Some 0x7DE } ∷ tester (codes "B") 0x7E1 0x7E9 ∷ [];
}

abbrev fd_capture : List ℕ
fd_capture =
    codes "(0.000000) can0 7E0##1021003\n"
    ++ codes "(0.000000) can0 7E1##1zz\n"
    ++ codes "(0.000000) can0 7E0##0000A2EF19001020304050607\n"
    ++ codes "(0.000000) can0 7DE##0023E00\n"
    ++ codes "(0.000000) can0 7E1#021003\n"

fd_events : bus_events fd_capture fd_tester ≡ Ok (
    (1, enter)
    ∷ (1, Physical (0x00 ∷ 0x0A ∷ 0x2E ∷ 0xF1 ∷ 0x90 ∷ 0x01 ∷ 0x02 ∷ 0x03 ∷ 0x04 ∷ 0x05 ∷ 0x06 ∷ 0x07 ∷ []))
    ∷ (1, Functional (0x02 ∷ 0x3E ∷ 0x00 ∷ [])) ∷ (2, enter) ∷ [])
unfolding hex_on_literals
fd_events = refl

-- an ill one of A's is a fault
fd_fault : bus_events (codes "(0.000000) can0 7E1##1zz\n(0.000000) can0 7E8##1zz\n") fd_tester ≡ Err (2, Line BadLine)
unfolding hex_on_literals
fd_fault = refl

-- ---- the first fault, by its line

fault : bus_events (codes "(100.000000) can0 7E0#021003\n\ntick 0\nwrong\n") two_testers ≡ Err (3, Line BadTick)
unfolding hex_on_literals
fault = refl

-- ---- the bus's time: 7 ticks before the first stamp are no part of it

start : start_after two_testers 0 (codes "tick 7" ∷ codes "(100.000000) can0 123#00" ∷ codes "(105.000000) can0 123#00" ∷ [])
    ≡ Some (record { moment = 100000; before = 7 })
unfolding hex_on_literals
start = refl

moment : bus_moment (Some (record { moment = 100000; before = 7 })) 37 ≡ 100030
moment = refl
