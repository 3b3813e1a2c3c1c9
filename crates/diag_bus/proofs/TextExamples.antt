-- What is written, computed.
use Rattle.std.proofs.Common.{◌≡◌, ℕ, List, ◌++◌, codes, refl}
use Rattle.std.specs.Fmt.{digits}
use Rattle.hex.proofs.OnLiterals.{hex_on_literals}
use Rattle.diag_tp.specs.Gives.{gives}
use Rattle.diag_pdu.specs.Kind.{kind}
use Rattle.diag_pdu.specs.Cut.{cut}
use Rattle.diag_tp.specs.Reception.{open_at}
use Rattle.diag_tp.specs.Sending.{course}
use Rattle.diag_tp.specs.Wire.{wire, sendings, grant}
use Rattle.diag_can.specs.BusLine.{bus_lines}
use Rattle.diag_port.specs.Late.{pendings}
use Rattle.diag_setup.specs.ExampleSetup.{two_testers}
use Rattle.diag_bus.specs.Text.{text_of}
use Rattle.diag_bus.proofs.Examples.{fd_tester, order}

abbrev written : List ℕ → List ℕ
written text = text_of two_testers (bus_lines text)

-- the bus's order decides who is busy
bus_order : written order ≡
    codes "(0000000100.000000) A 7E8#065003003201F4CC\n"
    ++ codes "(0000000100.010000) B 7E9#037F1021CCCCCCCC\n"
    ++ codes "(0000000100.020000) A 7E8#065001003201F4CC\n"
    ++ codes "(0000000100.030000) B 7E9#065003003201F4CC\n"
unfolding hex_on_literals digits wire sendings grant course cut open_at kind gives pendings
bus_order = refl

-- A reads 17 bytes, with 10 ms between ConsecutiveFrames: a frame is written at the first line that comes when it has
-- gone, with its own moment
abbrev separation : List ℕ
separation =
    codes "(100.000000) can0 7E0#0322F190\n"
    ++ codes "(100.020000) can0 7E0#30000A\n"
    ++ codes "(100.025000) can0 123#00\n"
    ++ codes "(100.031000) can0 123#00\n"

bus_separation : written separation ≡
    codes "(0000000100.000000) A 7E8#101462F190544553\n"
    ++ codes "(0000000100.020000) A 7E8#215456494E303132\n"
    ++ codes "(0000000100.030000) A 7E8#2233343536373839\n"
unfolding hex_on_literals digits wire sendings grant course cut open_at kind gives pendings
bus_separation = refl

-- both wait, and a silence draws the frames of both: by time
abbrev merged : List ℕ
merged =
    codes "(100.000000) can0 7E0#0322F190\n"
    ++ codes "(100.005000) can0 7E1#0322F190\n"
    ++ codes "(100.020000) can0 7E0#30000A\n"
    ++ codes "(100.025000) can0 7E1#30000A\n"
    ++ codes "(100.100000) can0 123#00\n"

bus_merge : written merged ≡
    codes "(0000000100.000000) A 7E8#101462F190544553\n"
    ++ codes "(0000000100.005000) B 7E9#101462F190544553\n"
    ++ codes "(0000000100.020000) A 7E8#215456494E303132\n"
    ++ codes "(0000000100.025000) B 7E9#215456494E303132\n"
    ++ codes "(0000000100.030000) A 7E8#2233343536373839\n"
    ++ codes "(0000000100.035000) B 7E9#2233343536373839\n"
unfolding hex_on_literals digits wire sendings grant course cut open_at kind gives pendings
bus_merge = refl

-- a functional request is answered to both
bus_functional : written (codes "(100.000000) can0 7DF#023E80\n(100.001000) can0 7DF#0322F190\n") ≡
    codes "(0000000100.001000) A 7E8#101462F190544553\n"
    ++ codes "(0000000100.001000) B 7E9#101462F190544553\n"
unfolding hex_on_literals digits wire sendings grant course cut open_at kind gives pendings
bus_functional = refl

-- A talks by CAN FD: its reply is one frame of 24 bytes, and its line has the unit's flags; B's are as ever
bus_fd : text_of fd_tester (bus_lines (codes "(100.000000) can0 7E0##10322F190\n(100.001000) can0 7E1#0322F190\n")) ≡
    codes "(0000000100.000000) A 7E8##1001462F1905445535456494E30313233343536373839CCCC\n"
    ++ codes "(0000000100.001000) B 7E9#101462F190544553\n"
unfolding hex_on_literals digits wire sendings grant course cut open_at kind gives pendings
bus_fd = refl
