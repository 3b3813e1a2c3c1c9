-- The text of `compare`, computed.
use Rattle.std.proofs.Common.{◌≡◌, ℕ, Bool, true, false, Some, None, List, [], ◌∷◌, ◌++◌, codes, refl}
use Rattle.std.specs.Fmt.{digits}
use Rattle.std.specs.Prelude.{◌==◌, slice_index}
use Rattle.hex.proofs.OnLiterals.{hex_on_literals}
use Rattle.diag_tp.specs.Gives.{gives}
use Rattle.diag_pdu.specs.Kind.{kind}
use Rattle.diag_tp.specs.Reception.{open_at}
use Rattle.diag_can.specs.BusLine.{bus_lines}
use Rattle.diag_pdu.specs.declared.step.Step.{Step}
use Rattle.diag_pdu.specs.declared.step.Step.TheVariants as step
use Rattle.diag_setup.specs.ExampleSetup.{two_testers}
use Rattle.diag_ecu.specs.State.{State}
use Rattle.diag_desk.specs.declared.entry.Entry.{Entry}
use Rattle.diag_exchange.specs.declared.happening.Expected.{Expected}
use Rattle.diag_compare.specs.Compare.{compare_text, compared, status}

-- the reply is the model's, all bytes count, and nothing is ignored
abbrev plain : State → Entry → Expected
plain s e = record { reply = e.reply; varies = None; own = true; ignored = false }

abbrev written : List ℕ → List ℕ
written text = compare_text plain two_testers false (bus_lines text)

abbrev ends : List ℕ → ℕ
ends text = status plain two_testers (bus_lines text)

-- ---- bus-order

abbrev order : List ℕ
order =
    codes "(0000000100.000000) can0 7E0#021003\n"
    ++ codes "(0000000100.000400) can0 7E8#065003003201F4CC\n"
    ++ codes "(0000000100.010000) can0 7E1#021003\n"
    ++ codes "(0000000100.020000) can0 7E0#021001\n"
    ++ codes "(0000000100.030000) can0 7E1#021003\n"

bus_order : written order ≡
    codes "1 0000000100.000000 A P 1003 5003003201F4 = 0 0\n"
    ++ codes "3 0000000100.010000 B P 1003 - 7F1021 - 0\n"
    ++ codes "4 0000000100.020000 A P 1001 - 5001003201F4 - 0\n"
    ++ codes "5 0000000100.030000 B P 1003 - 5003003201F4 - 0\n"
    ++ codes "A 2 exchanges, 1 differ\n"
    ++ codes "B 2 exchanges, 2 differ\n"
unfolding hex_on_literals digits open_at kind gives
bus_order = refl

-- A's first exchange is over at line 4, B's first at line 5
bus_order_streamed : compared plain two_testers false (bus_lines order) ≡
    codes "1 0000000100.000000 A P 1003 5003003201F4 = 0 0\n"
    ++ codes "3 0000000100.010000 B P 1003 - 7F1021 - 0\n"
unfolding hex_on_literals digits open_at kind gives
bus_order_streamed = refl

bus_order_ends : ends order ≡ 8
unfolding hex_on_literals digits open_at kind gives
bus_order_ends = refl

-- the exchange that agrees left out
bus_order_differences : compare_text plain two_testers true (bus_lines order) ≡
    codes "3 0000000100.010000 B P 1003 - 7F1021 - 0\n"
    ++ codes "4 0000000100.020000 A P 1001 - 5001003201F4 - 0\n"
    ++ codes "5 0000000100.030000 B P 1003 - 5003003201F4 - 0\n"
    ++ codes "A 2 exchanges, 1 differ\n"
    ++ codes "B 2 exchanges, 2 differ\n"
unfolding hex_on_literals digits open_at kind gives
bus_order_differences = refl

-- ---- compare-pending

abbrev pending : List ℕ
pending =
    codes "(100.000000) can0 7E0#0322F190\n"
    ++ codes "(100.002000) can0 7E8#037F2278\n"
    ++ codes "(100.010000) can0 7DF#023E80\n"
    ++ codes "(100.030000) can0 7E8#101462F190544553\n"
    ++ codes "(100.031000) can0 7E0#300000\n"
    ++ codes "(100.032000) can0 7E8#215456494E303132\n"
    ++ codes "(100.033000) can0 7E8#2233343536373839\n"

compare_pending : written pending ≡
    codes "1 0000000100.000000 A P 22F190 62F1905445535456494E30313233343536373839 = 30 1\n"
    ++ codes "3 0000000100.010000 A F 3E80 - = - 0\n"
    ++ codes "3 0000000100.010000 B F 3E80 - = - 0\n"
    ++ codes "A 2 exchanges, 0 differ\n"
    ++ codes "B 1 exchanges, 0 differ\n"
unfolding hex_on_literals digits open_at kind gives
compare_pending = refl

compare_pending_ends : ends pending ≡ 0
unfolding hex_on_literals digits open_at kind gives
compare_pending_ends = refl

-- ---- compare-present

compare_present : written (codes "(100.000000) can0 7E0#023E00\n(100.001000) can0 7DF#023E80\n(100.002000) can0 7E8#027E00\n") ≡
    codes "1 0000000100.000000 A P 3E00 7E00 = 2 0\n"
    ++ codes "2 0000000100.001000 A F 3E80 - = - 0\n"
    ++ codes "2 0000000100.001000 B F 3E80 - = - 0\n"
    ++ codes "A 2 exchanges, 0 differ\n"
    ++ codes "B 1 exchanges, 0 differ\n"
unfolding hex_on_literals digits open_at kind gives
compare_present = refl

-- ---- compare-late

compare_late : written (codes "(100.000000) can0 7E0#023E00\n(100.001000) can0 7E0#023E00\n(100.002000) can0 7E8#027E00\n(100.003000) can0 7E8#027E00\n") ≡
    codes "1 0000000100.000000 A P 3E00 - 7E00 - 0\n"
    ++ codes "4 0000000100.003000 A U - 7E00 - - 0\n"
    ++ codes "2 0000000100.001000 A P 3E00 7E00 = 1 0\n"
    ++ codes "A 3 exchanges, 2 differ\n"
    ++ codes "B 0 exchanges, 0 differ\n"
unfolding hex_on_literals digits open_at kind gives
compare_late = refl

-- ---- compare-unasked

compare_unasked : written (codes "(100.000000) can0 7E0#021003\n(100.001000) can0 7E8#025003\n(100.002000) can0 7E8#025003\n") ≡
    codes "3 0000000100.002000 A U - 5003 - - 0\n"
    ++ codes "1 0000000100.000000 A P 1003 5003 5003003201F4 1 0\n"
    ++ codes "A 2 exchanges, 2 differ\n"
    ++ codes "B 0 exchanges, 0 differ\n"
unfolding hex_on_literals digits open_at kind gives
compare_unasked = refl

-- ---- nothing compared

abbrev silence : List ℕ
silence = codes "(100.000000) can0 7DF#023E80\n(100.001000) can0 123#00\n"

nothing : written silence ≡
    codes "1 0000000100.000000 A F 3E80 - = - 0\n"
    ++ codes "1 0000000100.000000 B F 3E80 - = - 0\n"
    ++ codes "A 1 exchanges, 0 differ\nB 1 exchanges, 0 differ\nnothing compared\n"
unfolding hex_on_literals digits open_at kind gives
nothing = refl

nothing_ends : ends silence ≡ 9
unfolding hex_on_literals digits open_at kind gives
nothing_ends = refl

-- ---- receptions that break off

-- by a SingleFrame, and by a wrong sequence number: the exchange is over with that frame, and the rest gives nothing
compare_broken : written (
    codes "(100.000000) can0 7E0#0322F190\n(100.001000) can0 7E8#101462F190544553\n"
    ++ codes "(100.002000) can0 7E0#0322F190\n(100.003000) can0 7E8#225456494E303132\n(100.004000) can0 7E8#215456494E303132\n") ≡
    codes "1 0000000100.000000 A P 22F190 - 62F1905445535456494E30313233343536373839 - 0\n"
    ++ codes "3 0000000100.002000 A P 22F190 - 62F1905445535456494E30313233343536373839 - 0\n"
    ++ codes "A 2 exchanges, 2 differ\nB 0 exchanges, 0 differ\n"
unfolding hex_on_literals digits open_at kind gives
compare_broken = refl

-- a listener doesn't judge times: a ConsecutiveFrame after N_Cr counts
compare_slow : written (
    codes "(100.000000) can0 7E0#0322F190\n(100.001000) can0 7E8#101462F190544553\n"
    ++ codes "(101.200000) can0 7E8#215456494E303132\n(101.201000) can0 7E8#2233343536373839\n") ≡
    codes "1 0000000100.000000 A P 22F190 62F1905445535456494E30313233343536373839 = 1 0\n"
    ++ codes "A 1 exchanges, 0 differ\nB 0 exchanges, 0 differ\n"
unfolding hex_on_literals digits open_at kind gives
compare_slow = refl

-- ---- bytes that vary, and requests that are ignored

-- the bytes behind the identifier vary, the last one by a template; a TesterPresent is ignored
abbrev lax : State → Entry → Expected
lax s e = record {
  reply = e.reply;
  varies = Some (0 ∷ 0 ∷ 0 ∷ 1 ∷ 1 ∷ 1 ∷ 1 ∷ 1 ∷ 1 ∷ 1 ∷ 1 ∷ 1 ∷ 1 ∷ 1 ∷ 1 ∷ 1 ∷ 1 ∷ 1 ∷ 1 ∷ 2 ∷ []);
  own = true;
  ignored = is_present e.step;
}
  where
    is_present : Step → Bool
    is_present (step.Request request) = slice_index request.message 0 == 0x3E
    is_present (step.Ticks n) = false

compare_varies : compare_text lax two_testers false (bus_lines (
    codes "(100.000000) can0 7E0#0322F190\n(100.030000) can0 7E8#101462F190FFFFFF\n"
    ++ codes "(100.032000) can0 7E8#21FFFFFFFFFFFFFF\n(100.033000) can0 7E8#22FFFFFFFFFFFFFF\n"
    ++ codes "(100.040000) can0 7E0#0322F190\n(100.041000) can0 7E8#0562F191FFFF\n(100.050000) can0 7E0#023E00\n")) ≡
    codes "1 0000000100.000000 A P 22F190 62F190FFFFFFFFFFFFFFFFFFFFFFFFFFFFFFFFFF = 30 0\n"
    ++ codes "5 0000000100.040000 A P 22F190 62F191FFFF 62F1905445535456494E303132333435363738?? 1 0\n"
    ++ codes "7 0000000100.050000 A P 3E00 - ~ - 0\n"
    ++ codes "A 3 exchanges, 1 differ\nB 0 exchanges, 0 differ\n"
unfolding hex_on_literals digits open_at kind gives
compare_varies = refl
