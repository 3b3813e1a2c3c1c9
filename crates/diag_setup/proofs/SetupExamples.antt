-- Raw setups and what check makes of them, computed.
use Rattle.std.proofs.Common.{◌≡◌, ℕ, true, [], ◌∷◌, None, Some, Ok, refl, codes, replicate, Option, false}
use Rattle.diag_setup.specs.declared.raw.RawTester.{RawTester}
use Rattle.diag_setup.specs.declared.raw.RawAnswer.{RawAnswer}
use Rattle.diag_setup.specs.declared.raw.PatternItem.TheVariants as pattern
use Rattle.diag_setup.specs.declared.raw.TemplateItem.TheVariants as template
use Rattle.diag_setup.specs.declared.fault.SetupFault.{SetupFault}
use Rattle.diag_setup.specs.declared.fault.SetupFault.TheVariants.{Range, Empty, DuplicateId, UnknownCode, UnknownLevel}
use Rattle.diag_can.specs.Identifier.{extended}
use Rattle.diag_pdu.specs.declared.length.DataLength.TheVariants.{Dl8, Dl12, Dl64}
use Rattle.diag_setup.specs.declared.raw.RawSetup.{RawSetup}
use Rattle.diag_setup.specs.Setup.{checked, fault_of, ids_of, link_of, flags_of, known_ids}
use Rattle.diag_setup.specs.ExampleSetup.{two_testers, tester, did, routine, level, with_answers, echo_row, slow_row, enter_row}

abbrev tester_a : RawTester
tester_a = tester (codes "A") 0x7E0 0x7E8

abbrev tester_b : RawTester
tester_b = tester (codes "B") 0x7E1 0x7E9

the_setup : checked two_testers ≡ Ok two_testers
the_setup = refl

sorts : checked (record two_testers { dids = record did { id = 3 } ∷ record did { id = 1 } ∷ record did { id = 2 } ∷ [] })
    ≡ Ok (record two_testers { dids = record did { id = 1 } ∷ record did { id = 2 } ∷ record did { id = 3 } ∷ [] })
sorts = refl

no_tester : fault_of (record two_testers { testers = [] }) ≡ Some Empty
no_tester = refl

level_without_row : fault_of (record two_testers { levels = record level { rows = [] } ∷ [] }) ≡ Some Empty
level_without_row = refl

s3_of_zero : fault_of (record two_testers { s3_ms = 0 }) ≡ Some Range
s3_of_zero = refl

range_before_empty : fault_of (record two_testers { s3_ms = 0; testers = [] }) ≡ Some Range
range_before_empty = refl

request_of_65536 : fault_of (record two_testers { max_request = 65536 }) ≡ Some Range
request_of_65536 = refl

zero_seed : fault_of (record two_testers { levels = record level { rows = record { seed = 0 ∷ 0 ∷ []; key = 1 ∷ [] } ∷ [] } ∷ [] }) ≡ Some Range
zero_seed = refl

two_key_lengths : fault_of (record two_testers
    { levels = record level { rows = record { seed = 1 ∷ []; key = 1 ∷ [] } ∷ record { seed = 2 ∷ []; key = 1 ∷ 2 ∷ [] } ∷ [] } ∷ [] }) ≡ Some Range
two_key_lengths = refl

st_min_gap : fault_of (record two_testers { st_min = 240 }) ≡ Some Range
st_min_gap = refl

same_request : fault_of (record two_testers { testers = tester_a ∷ record tester_b { request = 0x7E0 } ∷ [] }) ≡ Some DuplicateId
same_request = refl

same_name : fault_of (record two_testers { testers = tester_a ∷ record tester_b { name = codes "A" } ∷ [] }) ≡ Some DuplicateId
same_name = refl

functional_is_a_response : fault_of (record two_testers { functional = 0x7E9 }) ≡ Some DuplicateId
functional_is_a_response = refl

-- ---- identifiers of 29 bits

abbrev wide : RawTester → ℕ → ℕ → RawTester
wide tester request response = record tester { extended = true; request = request; response = response }

wide_tester : fault_of (record two_testers { testers = tester_a ∷ wide tester_b 0x18DA10F1 0x18DAF110 ∷ [] }) ≡ None
wide_tester = refl

wide_ids : ids_of (record two_testers { testers = tester_a ∷ wide tester_b 0x18DA10F1 0x18DAF110 ∷ [] }) 2
    ≡ record { request = extended 0x18DA10F1; response = extended 0x18DAF110; functional = extended 0x18DB33F1; fd = false }
wide_ids = refl

-- of one number, but not of as many bits
same_number : fault_of (record two_testers { testers = tester_a ∷ wide tester_b 0x7E0 0x7E8 ∷ [] }) ≡ None
same_number = refl

two_of_one_functional : fault_of (record two_testers { testers = wide tester_a 0x18DA10F2 0x18DAF210 ∷ wide tester_b 0x18DA10F1 0x18DAF110 ∷ [] }) ≡ None
two_of_one_functional = refl

functional_is_a_request : fault_of (record two_testers { testers = tester_a ∷ wide tester_b 0x18DB33F1 0x18DAF110 ∷ [] }) ≡ Some DuplicateId
functional_is_a_request = refl

request_of_30_bits : fault_of (record two_testers { testers = tester_a ∷ wide tester_b 0x20000000 0x18DAF110 ∷ [] }) ≡ Some Range
request_of_30_bits = refl

request_of_12_bits : fault_of (record two_testers { testers = tester_a ∷ record tester_b { request = 0x800 } ∷ [] }) ≡ Some Range
request_of_12_bits = refl

-- a functional identifier of its own, of either kind
own_functional : ids_of (record two_testers { testers = tester_a ∷ record tester_b { functional = Some 0x700 } ∷ [] }) 2
    ≡ record { request = 0x7E1; response = 0x7E9; functional = 0x700; fd = false }
own_functional = refl

own_functional_of_29_bits : fault_of (record two_testers { testers = record tester_a { functional = Some 0x18DB33F1 } ∷ [] }) ≡ Some Range
own_functional_of_29_bits = refl

own_functional_is_a_response : fault_of (record two_testers { testers = tester_a ∷ record tester_b { functional = Some 0x7E8 } ∷ [] }) ≡ Some DuplicateId
own_functional_is_a_response = refl

-- that of the setup is of nobody then
functional_of_nobody : fault_of (record two_testers { functional = 0x7E8; testers = record tester_a { functional = Some 0x700 } ∷ [] }) ≡ None
functional_of_nobody = refl

-- ---- CAN FD

-- B talks by CAN FD, and has a functional identifier of its own
abbrev fd_tester : RawTester
fd_tester = record tester_b { fd = true; functional = Some 0x700 }

abbrev one_fd : RawSetup
one_fd = record two_testers { testers = tester_a ∷ fd_tester ∷ [] }

fd_is_well : fault_of one_fd ≡ None
fd_is_well = refl

ids_of_fd : ids_of one_fd 2 ≡ record { request = 0x7E1; response = 0x7E9; functional = 0x700; fd = true }
ids_of_fd = refl

framing_of_fd : (link_of one_fd 2).framing ≡ record { tx_dl = Dl64; pad = Some 0xCC; fill = 0xCC }
framing_of_fd = refl

framing_of_classic : (link_of one_fd 1).framing ≡ record { tx_dl = Dl8; pad = Some 0xCC; fill = 0xCC }
framing_of_classic = refl

-- frames of more than 8 bytes are filled all the same
framing_without_pad : (link_of (record one_fd { tx_dl = 12; pad = false }) 2).framing ≡ record { tx_dl = Dl12; pad = None; fill = 0xCC }
framing_without_pad = refl

flags_of_fd : flags_of one_fd 2 ≡ Some 1
flags_of_fd = refl

flags_of_classic : flags_of one_fd 1 ≡ None
flags_of_classic = refl

read_of_fd : known_ids one_fd ≡ record { id = 0x7E1; fd = true } ∷ record { id = 0x7E9; fd = true } ∷ record { id = 0x700; fd = true } ∷ []
read_of_fd = refl

read_of_wide : known_ids (record two_testers { testers = tester_a ∷ wide tester_b 0x18DA10F1 0x18DAF110 ∷ [] })
    ≡ record { id = extended 0x18DA10F1; fd = false } ∷ record { id = extended 0x18DAF110; fd = false }
    ∷ record { id = extended 0x18DB33F1; fd = false } ∷ []
read_of_wide = refl

-- the functional identifier that both share
fd_shares_functional : fault_of (record two_testers { testers = tester_a ∷ record tester_b { fd = true } ∷ [] }) ≡ Some DuplicateId
fd_shares_functional = refl

two_of_fd_share : fault_of (record two_testers { testers = record tester_a { fd = true } ∷ record tester_b { fd = true } ∷ [] }) ≡ None
two_of_fd_share = refl

fd_has_that_of_classic : fault_of (record two_testers { testers = record fd_tester { functional = Some 0x7DF } ∷ tester_a ∷ [] }) ≡ Some DuplicateId
fd_has_that_of_classic = refl

tx_dl_of_12 : fault_of (record two_testers { tx_dl = 12 }) ≡ None
tx_dl_of_12 = refl

tx_dl_of_10 : fault_of (record two_testers { tx_dl = 10 }) ≡ Some Range
tx_dl_of_10 = refl

tx_dl_of_7 : fault_of (record two_testers { tx_dl = 7 }) ≡ Some Range
tx_dl_of_7 = refl

flags_of_15 : fault_of (record two_testers { fd_flags = 15 }) ≡ None
flags_of_15 = refl

flags_of_16 : fault_of (record two_testers { fd_flags = 16 }) ≡ Some Range
flags_of_16 = refl

unknown_code : fault_of (record two_testers { routines = record routine { on_done = Some (record { code = 1; status = 0x2F }) } ∷ [] }) ≡ Some UnknownCode
unknown_code = refl

unknown_level : fault_of (record two_testers { dids = record did { write_level = 3 } ∷ [] }) ≡ Some UnknownLevel
unknown_level = refl

-- ---- rows of answers

the_answers : checked with_answers ≡ Ok with_answers
the_answers = refl

-- the fault of the setup with this row alone
abbrev fault_with : RawAnswer → Option SetupFault
fault_with row = fault_of (record two_testers { answers = row ∷ [] })

byte_beyond_the_pattern : fault_with (record echo_row {
  pattern = pattern.Byte 0x28 ∷ pattern.Any ∷ [];
  reply = Some ((template.Byte 0x68 ∷ template.OfRequest 2 ∷ []) ∷ []);
}) ≡ Some Range
byte_beyond_the_pattern = refl

last_byte_of_the_pattern : fault_with (record echo_row { reply = Some ((template.OfRequest 2 ∷ []) ∷ []) }) ≡ None
last_byte_of_the_pattern = refl

reply_of_no_template : fault_with (record echo_row { reply = Some [] }) ≡ Some Range
reply_of_no_template = refl

template_of_no_items : fault_with (record echo_row { reply = Some ([] ∷ []) }) ≡ None
template_of_no_items = refl

pattern_of_no_items : fault_with (record slow_row { pattern = [] }) ≡ Some Range
pattern_of_no_items = refl

pattern_of_65_items : fault_with (record slow_row { pattern = replicate 65 pattern.Any }) ≡ Some Range
pattern_of_65_items = refl

template_of_4096_items : fault_with (record echo_row { reply = Some (replicate 4096 template.Varies ∷ []) }) ≡ Some Range
template_of_4096_items = refl

session_of_127 : fault_with (record slow_row { session = 127 }) ≡ Some Range
session_of_127 = refl

enters_without_a_reply : fault_with (record slow_row { enter = 2 }) ≡ Some Range
enters_without_a_reply = refl

enters_127 : fault_with (record enter_row { enter = 127 }) ≡ Some Range
enters_127 = refl

unknown_level_of_an_answer : fault_with (record slow_row { level = 3 }) ≡ Some UnknownLevel
unknown_level_of_an_answer = refl

after_600001 : fault_with (record slow_row { after_ms = 600001 }) ≡ Some Range
after_600001 = refl

-- 255 times response pending, 1 ms apart, the first at 50
latest : fault_of (record two_testers { p2_star_10ms = 0; answers = record slow_row { after_ms = 305 } ∷ [] }) ≡ None
latest = refl

too_late : fault_of (record two_testers { p2_star_10ms = 0; answers = record slow_row { after_ms = 306 } ∷ [] }) ≡ Some Range
too_late = refl

rows_of_1025 : fault_of (record two_testers { answers = replicate 1025 slow_row }) ≡ Some Range
rows_of_1025 = refl

-- ---- patterns of requests that aren't compared

pattern_to_ignore_of_no_items : fault_of (record two_testers { ignore = record { items = []; more = false } ∷ [] }) ≡ Some Range
pattern_to_ignore_of_no_items = refl

pattern_to_ignore_of_65_items : fault_of (record two_testers { ignore = record { items = replicate 65 pattern.Any; more = false } ∷ [] }) ≡ Some Range
pattern_to_ignore_of_65_items = refl

patterns_to_ignore_256 : fault_of (record two_testers { ignore = replicate 256 (record { items = pattern.Any ∷ []; more = false }) }) ≡ None
patterns_to_ignore_256 = refl

patterns_to_ignore_257 : fault_of (record two_testers { ignore = replicate 257 (record { items = pattern.Any ∷ []; more = false }) }) ≡ Some Range
patterns_to_ignore_257 = refl
