-- Worked examples of the definitions, computed.
use Rattle.std.proofs.Common.{◌≡◌, ℕ, true, false, List, [], ◌∷◌, ◌++◌, codes, replicate, refl}
use Rattle.std.specs.Fmt.{digits}
use Rattle.std.specs.Prelude.{Option, Some, None, Result, Ok, Err}
use Rattle.hex.proofs.OnLiterals.{hex_on_literals}
use Rattle.diag_can.specs.declared.bus_line.BusLine.{BusLine}
use Rattle.diag_can.specs.declared.bus_line.BusLine.TheVariants.{Stamped}
use Rattle.diag_can.specs.declared.fault.LineFault.{LineFault}
use Rattle.diag_can.specs.declared.fault.LineFault.TheVariants.{BadLine, BadTick, TooManyBytes}
use Rattle.diag_can.specs.declared.fault.LogFault.TheVariants.{Line}
use Rattle.diag_can.specs.declared.frame.Ids.{Ids}
use Rattle.diag_can.specs.declared.frame.KnownId.{KnownId}
use Rattle.diag_can.specs.Event.{Event, Physical, Functional, Ticks}
use Rattle.diag_can.specs.declared.log.Timing.TheVariants.{Lines, Stamps}
use Rattle.diag_can.specs.Identifier.{extended}
use Rattle.diag_can.specs.Line.{line_event, line_says}
use Rattle.diag_can.specs.Log.{events}
use Rattle.diag_can.specs.Reply.{reply_line}

abbrev ids : Ids
ids = record { request = 0x7E0; response = 0x7E8; functional = 0x7DF; fd = false }

-- a line of a frame, by its text
abbrev framed : List ℕ → List ℕ
framed text = codes "(0000000000.000000) can0 " ++ text

abbrev of_line : List ℕ → Result (Option Event) LineFault
of_line line = line_event line ids

-- an identifier that is read, and one that is read by CAN FD too
abbrev classic : ℕ → KnownId
classic id = record { id = id; fd = false }

abbrev by_fd : ℕ → KnownId
by_fd id = record { id = id; fd = true }

-- ---- the forms of a line

session_request : of_line (framed (codes "7E0#021003")) ≡ Ok (Some (Physical (0x02 ∷ 0x10 ∷ 0x03 ∷ [])))
unfolding hex_on_literals
session_request = refl

fraction_of_seven_digits : of_line (codes "(1436509052.2497131)   can1  7df#023e80 R") ≡ Ok (Some (Functional (0x02 ∷ 0x3E ∷ 0x80 ∷ [])))
unfolding hex_on_literals
fraction_of_seven_digits = refl

suffix_and_more : of_line (codes "(1436509052.249903)   can1  7df#023e00AAAAAAAAAA_9 R")
    ≡ Ok (Some (Functional (0x02 ∷ 0x3E ∷ 0x00 ∷ 0xAA ∷ 0xAA ∷ 0xAA ∷ 0xAA ∷ 0xAA ∷ [])))
unfolding hex_on_literals
suffix_and_more = refl

two_bytes : of_line (framed (codes "7E0#023E")) ≡ Ok (Some (Physical (0x02 ∷ 0x3E ∷ [])))
unfolding hex_on_literals
two_bytes = refl

no_bytes : of_line (framed (codes "7E0#")) ≡ Ok (Some (Physical []))
unfolding hex_on_literals
no_bytes = refl

other_identifier : of_line (framed (codes "123#DEADBEEF")) ≡ Ok None
unfolding hex_on_literals
other_identifier = refl

wide_identifier : of_line (framed (codes "18DB33F1#0210030000000000")) ≡ Ok None
wide_identifier = refl

wide_identifier_of_anything : of_line (framed (codes "00000000#zz")) ≡ Ok None
wide_identifier_of_anything = refl

remote_frame : of_line (framed (codes "7E0#RX")) ≡ Ok None
remote_frame = refl

fd_frame : of_line (framed (codes "7E0##1021001")) ≡ Ok None
fd_frame = refl

odd_digits : of_line (framed (codes "7E0#023E0")) ≡ Err BadLine
odd_digits = refl

no_digit : of_line (framed (codes "7E0#02G")) ≡ Err BadLine
no_digit = refl

four_digits : of_line (framed (codes "07E0#00")) ≡ Err BadLine
four_digits = refl

early_suffix : of_line (framed (codes "7E0#021003_9")) ≡ Err BadLine
early_suffix = refl

empty_suffix : of_line (framed (codes "7E0#023E00AAAAAAAAAA_")) ≡ Err BadLine
empty_suffix = refl

too_large_identifier : of_line (framed (codes "800#00")) ≡ Err BadLine
too_large_identifier = refl

too_large_identifier_first : of_line (framed (codes "FFF#R")) ≡ Err BadLine
too_large_identifier_first = refl

ten_bytes : of_line (framed (codes "7E0#021003000000000000")) ≡ Err TooManyBytes
ten_bytes = refl

seventeen_digits : of_line (framed (codes "7E0#02100300000000000!")) ≡ Err TooManyBytes
seventeen_digits = refl

short_fraction : of_line (codes "(0.00000) can0 7E0#00") ≡ Err BadLine
short_fraction = refl

long_seconds : of_line (codes "(0000000000000.000000) can0 7E0#00") ≡ Err BadLine
long_seconds = refl

no_name : of_line (codes "(0.000000) 7E0#00") ≡ Err BadLine
no_name = refl

no_text : of_line (0xFF ∷ []) ≡ Err BadLine
no_text = refl

empty_line : of_line [] ≡ Ok None
empty_line = refl

one_tick : of_line (codes "tick") ≡ Ok (Some (Ticks 1))
one_tick = refl

most_ticks : of_line (codes "tick 60000") ≡ Ok (Some (Ticks 60000))
most_ticks = refl

too_many_ticks : of_line (codes "tick 60001") ≡ Err BadTick
too_many_ticks = refl

no_ticks : of_line (codes "tick 0") ≡ Err BadTick
no_ticks = refl

leading_zero : of_line (codes "tick 01") ≡ Err BadTick
leading_zero = refl

two_spaces : of_line (codes "tick  5") ≡ Err BadTick
two_spaces = refl

trailing_space : of_line (codes "tick 5 ") ≡ Err BadTick
trailing_space = refl

other_word : of_line (codes "tickle") ≡ Err BadTick
other_word = refl

-- ---- what is said to no tester

foreign_frame : line_says [] (codes "(1.500000) can0 123#DEAD") ≡ Ok (Stamped 1500 (Some (record { id = 0x123; bytes = 0xDE ∷ 0xAD ∷ [] })))
unfolding hex_on_literals
foreign_frame = refl

wide_frame : line_says [] (codes "(1.500000) can0 18DB33F1#02") ≡ Ok (Stamped 1500 None)
wide_frame = refl

-- ---- identifiers of 29 bits

known_wide_frame : line_says (classic (extended 0x18DB33F1) ∷ []) (codes "(1.500000) can0 18db33F1#02")
    ≡ Ok (Stamped 1500 (Some (record { id = extended 0x18DB33F1; bytes = 0x02 ∷ [] })))
unfolding hex_on_literals
known_wide_frame = refl

abbrev wide_ids : Ids
wide_ids = record { request = extended 0x18DA10F1; response = extended 0x18DAF110; functional = extended 0x18DB33F1; fd = false }

wide_request : line_event (framed (codes "18DA10F1#021003")) wide_ids ≡ Ok (Some (Physical (0x02 ∷ 0x10 ∷ 0x03 ∷ [])))
unfolding hex_on_literals
wide_request = refl

wide_functional : line_event (framed (codes "18DB33F1#023E80")) wide_ids ≡ Ok (Some (Functional (0x02 ∷ 0x3E ∷ 0x80 ∷ [])))
unfolding hex_on_literals
wide_functional = refl

wide_fault : line_event (framed (codes "18DAF110#zz")) wide_ids ≡ Err BadLine
wide_fault = refl

wide_too_long : line_event (framed (codes "18DA10F1#021003000000000000")) wide_ids ≡ Err TooManyBytes
wide_too_long = refl

wide_remote : line_event (framed (codes "18DA10F1#R8")) wide_ids ≡ Ok None
wide_remote = refl

-- an error frame has bit 29, and one of 11 bits is no other's
error_frame : line_event (framed (codes "38DA10F1#zz")) wide_ids ≡ Ok None
error_frame = refl

short_in_eight_digits : of_line (framed (codes "000007E0#zz")) ≡ Ok None
short_in_eight_digits = refl

-- ---- CAN FD

abbrev fd_line : List ℕ → Result BusLine LineFault
fd_line text = line_says (classic 0x7E8 ∷ by_fd 0x7E0 ∷ []) (codes "(1.500000) can0 7E0##" ++ text)

-- what a line says of a frame with these bytes
abbrev seen : List ℕ → Result BusLine LineFault
seen bytes = Ok (Stamped 1500 (Some (record { id = 0x7E0; bytes = bytes })))

fd_request : fd_line (codes "10322F190") ≡ seen (0x03 ∷ 0x22 ∷ 0xF1 ∷ 0x90 ∷ [])
unfolding hex_on_literals
fd_request = refl

fd_of_a_classic_identifier : line_says (classic 0x7E0 ∷ []) (codes "(1.500000) can0 7E0##10322F190") ≡ Ok (Stamped 1500 None)
fd_of_a_classic_identifier = refl

fd_of_an_unknown_identifier : line_says (by_fd 0x7E0 ∷ []) (codes "(1.500000) can0 7E8##zz") ≡ Ok (Stamped 1500 None)
fd_of_an_unknown_identifier = refl

classic_frame_by_fd : line_says (by_fd 0x7E0 ∷ []) (codes "(1.500000) can0 7E0#023E00") ≡ seen (0x02 ∷ 0x3E ∷ 0x00 ∷ [])
unfolding hex_on_literals
classic_frame_by_fd = refl

remote_frame_by_fd : line_says (by_fd 0x7E0 ∷ []) (codes "(1.500000) can0 7E0#R8") ≡ Ok (Stamped 1500 None)
remote_frame_by_fd = refl

fd_twelve_bytes : fd_line (codes "f000A22F190f18CCCCCCCCCCC R") ≡ seen (0x00 ∷ 0x0A ∷ 0x22 ∷ 0xF1 ∷ 0x90 ∷ 0xF1 ∷ 0x8C ∷ replicate 5 0xCC)
unfolding hex_on_literals
fd_twelve_bytes = refl

fd_sixty_four_bytes : fd_line (codes "0" ++ replicate 128 48) ≡ seen (replicate 64 0)
unfolding hex_on_literals
fd_sixty_four_bytes = refl

fd_odd_digits : fd_line (codes "10322F19") ≡ Err BadLine
fd_odd_digits = refl

fd_nine_bytes : fd_line (codes "1021003000000000000") ≡ Err BadLine
fd_nine_bytes = refl

fd_too_many_digits : fd_line (codes "1" ++ replicate 130 48) ≡ Err TooManyBytes
fd_too_many_digits = refl

fd_no_flags : fd_line [] ≡ Err BadLine
fd_no_flags = refl

fd_flags_alone : fd_line (codes "1") ≡ seen []
unfolding hex_on_literals
fd_flags_alone = refl

fd_other_end : fd_line (codes "1023E00_9") ≡ Err BadLine
fd_other_end = refl

wide_fd_request : line_says (by_fd (extended 0x18DA10F1) ∷ []) (codes "(1.500000) can0 18DA10F1##1023E00")
    ≡ Ok (Stamped 1500 (Some (record { id = extended 0x18DA10F1; bytes = 0x02 ∷ 0x3E ∷ 0x00 ∷ [] })))
unfolding hex_on_literals
wide_fd_request = refl

-- ---- lines to a tester that talks by CAN FD

abbrev fd_ids : Ids
fd_ids = record { request = 0x7E0; response = 0x7E8; functional = 0x7DF; fd = true }

fd_request_line : line_event (codes "(0000000000.000000) bench 7E0##10322F190") fd_ids ≡ Ok (Some (Physical (0x03 ∷ 0x22 ∷ 0xF1 ∷ 0x90 ∷ [])))
unfolding hex_on_literals
fd_request_line = refl

fd_line_of_a_classic_tester : line_event (codes "(0000000000.000000) bench 7E0##10322F190") ids ≡ Ok None
fd_line_of_a_classic_tester = refl

fd_long_request_line : line_event (codes "(0000000000.000000) bench 7E0##1000A22F190F18CCCCCCCCCCC") fd_ids
    ≡ Ok (Some (Physical (0x00 ∷ 0x0A ∷ 0x22 ∷ 0xF1 ∷ 0x90 ∷ 0xF1 ∷ 0x8C ∷ replicate 5 0xCC)))
unfolding hex_on_literals
fd_long_request_line = refl

fd_functional_line : line_event (framed (codes "7DF##1023E80")) fd_ids ≡ Ok (Some (Functional (0x02 ∷ 0x3E ∷ 0x80 ∷ [])))
unfolding hex_on_literals
fd_functional_line = refl

fd_response_line : line_event (framed (codes "7E8##1027E00")) fd_ids ≡ Ok None
unfolding hex_on_literals
fd_response_line = refl

fd_nine_bytes_line : line_event (framed (codes "7E0##1021003000000000000")) fd_ids ≡ Err BadLine
fd_nine_bytes_line = refl

-- ---- logs

empty_log : events [] ids Stamps ≡ Ok []
unfolding events
empty_log = refl

returns_and_feeds : events (codes "tick\r\n\ntick 2") ids Lines ≡ Ok (Ticks 1 ∷ Ticks 2 ∷ [])
unfolding events
returns_and_feeds = refl

two_returns : events (codes "tick 2\n\ntick\r\r\n") ids Lines ≡ Err (Line 3 BadTick)
unfolding events
two_returns = refl

fault_on_line_two : events (codes "tick\n(0.000000) can0 7E0#023\ntick 0\n") ids Lines ≡ Err (Line 2 BadLine)
unfolding events
fault_on_line_two = refl

-- two frames 200 milliseconds apart: with stamps that is time
abbrev two_frames : List ℕ
two_frames = codes "(1436509052.249713) can0 7E0#0210\n(1436509052.449902) can0 123#DE\n(1436509052.449903) can0 7E0#023e\n"

frames_without_time : events two_frames ids Lines ≡ Ok (Physical (0x02 ∷ 0x10 ∷ []) ∷ Physical (0x02 ∷ 0x3E ∷ []) ∷ [])
unfolding events hex_on_literals
frames_without_time = refl

frames_with_time : events two_frames ids Stamps ≡ Ok (Physical (0x02 ∷ 0x10 ∷ []) ∷ Ticks 200 ∷ Physical (0x02 ∷ 0x3E ∷ []) ∷ [])
unfolding events hex_on_literals
frames_with_time = refl

-- a stamp that goes back leaves the reference where it was
abbrev back_and_on : List ℕ
back_and_on = codes "(5.000000) a 7E0#\ntick 3\n(4.000000) a 7DF#\n(6.000000) a 7E0#\n"

reference_stays : events back_and_on ids Stamps ≡ Ok (Physical [] ∷ Ticks 3 ∷ Functional [] ∷ Ticks 1000 ∷ Physical [] ∷ [])
unfolding events hex_on_literals
reference_stays = refl

-- a classic frame and one of CAN FD
abbrev mixed_frames : List ℕ
mixed_frames = codes "(5.000000) a 7E0#023E00\n(5.250000) a 7E0##0000A22F190F18CCCCCCCCCCC\n"

fd_frames_with_time : events mixed_frames fd_ids Stamps
    ≡ Ok (Physical (0x02 ∷ 0x3E ∷ 0x00 ∷ []) ∷ Ticks 250 ∷ Physical (0x00 ∷ 0x0A ∷ 0x22 ∷ 0xF1 ∷ 0x90 ∷ 0xF1 ∷ 0x8C ∷ replicate 5 0xCC) ∷ [])
unfolding events hex_on_literals
fd_frames_with_time = refl

fd_frames_passed_over : events mixed_frames ids Stamps ≡ Ok (Physical (0x02 ∷ 0x3E ∷ 0x00 ∷ []) ∷ [])
unfolding events hex_on_literals
fd_frames_passed_over = refl

-- 130 seconds
long_time : events (codes "(0.000000) a 7E0#023E00\n(130.000000) a 7E0#023E00\n") ids Stamps
    ≡ Ok (Physical (0x02 ∷ 0x3E ∷ 0x00 ∷ []) ∷ Ticks 60000 ∷ Ticks 60000 ∷ Ticks 10000 ∷ Physical (0x02 ∷ 0x3E ∷ 0x00 ∷ []) ∷ [])
unfolding events hex_on_literals
long_time = refl

-- ---- what is written

first_reply :
    reply_line (codes "A") None 0 (record { id = 0x7E8; bytes = 0x06 ∷ 0x50 ∷ 0x03 ∷ 0x00 ∷ 0x32 ∷ 0x01 ∷ 0xF4 ∷ 0xCC ∷ [] })
    ≡ codes "(0000000000.000000) A 7E8#065003003201F4CC\n"
unfolding hex_on_literals digits
first_reply = refl

wide_reply : reply_line (codes "A") None 0 (record { id = extended 0x18DAF110; bytes = 0x02 ∷ 0x7E ∷ 0x00 ∷ [] })
    ≡ codes "(0000000000.000000) A 18DAF110#027E00\n"
unfolding hex_on_literals digits
wide_reply = refl

late_reply : reply_line (codes "B") None 5003 (record { id = 0x7E; bytes = 0x30 ∷ [] }) ≡ codes "(0000000005.003000) B 07E#30\n"
unfolding hex_on_literals digits
late_reply = refl

fd_reply : reply_line (codes "A") (Some 1) 0 (record { id = 0x7E8; bytes = 0x00 ∷ 0x0A ∷ 0x62 ∷ replicate 9 0xCC })
    ≡ codes "(0000000000.000000) A 7E8##1000A62CCCCCCCCCCCCCCCCCC\n"
unfolding hex_on_literals digits
fd_reply = refl

wide_fd_reply : reply_line (codes "A") (Some 15) 0 (record { id = extended 0x18DAF110; bytes = [] }) ≡ codes "(0000000000.000000) A 18DAF110##F\n"
unfolding hex_on_literals digits
wide_fd_reply = refl
