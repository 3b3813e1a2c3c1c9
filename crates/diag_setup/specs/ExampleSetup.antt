-- The setups of the worked examples, two testers, without and with rows of answers, before their tables are sorted.
use Rattle.std.specs.Prelude.{ℕ, true, false, List, [], ◌∷◌, map, Option, Some, None, codes}
use Rattle.diag_setup.specs.declared.raw.RawSetup.{RawSetup}
use Rattle.diag_setup.specs.declared.raw.RawTester.{RawTester}
use Rattle.diag_setup.specs.declared.raw.RawDid.{RawDid}
use Rattle.diag_setup.specs.declared.raw.RawDtc.{RawDtc}
use Rattle.diag_setup.specs.declared.raw.RawRoutine.{RawRoutine}
use Rattle.diag_setup.specs.declared.raw.RawKeyRow.{RawKeyRow}
use Rattle.diag_setup.specs.declared.raw.RawLevel.{RawLevel}
use Rattle.diag_setup.specs.declared.raw.RawAnswer.{RawAnswer}
use Rattle.diag_setup.specs.declared.raw.PatternItem.{PatternItem}
use Rattle.diag_setup.specs.declared.raw.PatternItem.TheVariants as pattern
use Rattle.diag_setup.specs.declared.raw.TemplateItem.{TemplateItem}
use Rattle.diag_setup.specs.declared.raw.TemplateItem.TheVariants as template

abbrev pub tester : List ℕ → ℕ → ℕ → RawTester
tester name request response = record {
  name = name;
  request = request;
  response = response;
  extended = false;
  functional = None;
  fd = false;
}

abbrev pub did : RawDid
did = record {
  id = 0xF190;
  value = codes "TESTVIN0123456789";
  read_level = 0;
  write = true;
  write_level = 1;
  varies = false;
}

abbrev pub dtc : RawDtc
dtc = record { code = 0x012345; status = 0x2F }

abbrev pub routine : RawRoutine
routine = record {
  id = 0x0203;
  time_ms = 100;
  result = 0x01 ∷ [];
  level = 0;
  on_done = Some dtc;
}

abbrev pub key_row : List ℕ → List ℕ → RawKeyRow
key_row seed key = record { seed = seed; key = key }

abbrev pub level : RawLevel
level = record {
  request_seed = 1;
  any_key = false;
  varies = false;
  rows = key_row (0x11 ∷ 0x22 ∷ 0x33 ∷ 0x44 ∷ []) (0xAA ∷ 0xBB ∷ 0xCC ∷ 0xDD ∷ [])
      ∷ key_row (0x55 ∷ 0x66 ∷ 0x77 ∷ 0x88 ∷ []) (0x01 ∷ 0x02 ∷ 0x03 ∷ 0x04 ∷ []) ∷ [];
}

abbrev pub two_testers : RawSetup
two_testers = record {
  p2_ms = 50;
  p2_star_10ms = 500;
  s3_ms = 5000;
  n_bs_ms = 1000;
  n_cr_ms = 1000;
  block_size = 0;
  st_min = 0;
  max_request = 4095;
  pad = true;
  pad_byte = 0xCC;
  tx_dl = 64;
  fd_flags = 1;
  availability = 0xFF;
  functional = 0x7DF;
  attempts = 3;
  delay_ms = 2000;
  testers = tester (codes "A") 0x7E0 0x7E8 ∷ tester (codes "B") 0x7E1 0x7E9 ∷ [];
  dids = did ∷ [];
  dtcs = dtc ∷ [];
  routines = routine ∷ [];
  levels = level ∷ [];
  answers = [];
  ignore = [];
}

-- ---- the same with rows of answers

-- a pattern, and a template, of bytes alone
abbrev pub pattern_bytes : List ℕ → List PatternItem
pattern_bytes = map pattern.Byte

abbrev pub template_bytes : List ℕ → List TemplateItem
template_bytes = map template.Byte

-- a row for every session, which goes at once and enters none
abbrev pub answer : List PatternItem → Option (List (List TemplateItem)) → RawAnswer
answer pattern reply = record {
  pattern = pattern;
  more = false;
  reply = reply;
  session = 0;
  level = 0;
  enter = 0;
  after_ms = 0;
}

-- CommunicationControl, its sub-function echoed
abbrev pub echo_row : RawAnswer
echo_row = record (answer (pattern.Byte 0x28 ∷ pattern.Any ∷ pattern.Any ∷ [])
    (Some ((template.Byte 0x68 ∷ template.OfRequest 1 ∷ []) ∷ [])))
    { more = true }

-- a measured value: each read gives the next one
abbrev pub rounds_row : RawAnswer
rounds_row = answer (pattern_bytes (0x22 ∷ 0xF4 ∷ 0x0C ∷ []))
    (Some (template_bytes (0x62 ∷ 0xF4 ∷ 0x0C ∷ 0x0B ∷ 0x54 ∷ [])
    ∷ template_bytes (0x62 ∷ 0xF4 ∷ 0x0C ∷ 0x0B ∷ 0x70 ∷ [])
    ∷ template_bytes (0x62 ∷ 0xF4 ∷ 0x0C ∷ 0x0B ∷ 0x2E ∷ []) ∷ []))

-- in the extended session alone, only unlocked, after 3 s
abbrev pub unlocked_row : RawAnswer
unlocked_row = record (answer (pattern_bytes (0x31 ∷ 0x01 ∷ 0xFF ∷ 0x00 ∷ []))
    (Some (template_bytes (0x71 ∷ 0x01 ∷ 0xFF ∷ 0x00 ∷ []) ∷ [])))
    { more = true; session = 3; level = 1; after_ms = 3000 }

-- the answer of the services, but slow
abbrev pub slow_row : RawAnswer
slow_row = record (answer (pattern_bytes (0x14 ∷ 0xFF ∷ 0xFF ∷ 0xFF ∷ [])) None) { after_ms = 400 }

-- the programming session, from the extended one alone
abbrev pub enter_row : RawAnswer
enter_row = record (answer (pattern_bytes (0x10 ∷ 0x02 ∷ []))
    (Some (template_bytes (0x50 ∷ 0x02 ∷ 0x00 ∷ 0x32 ∷ 0x01 ∷ 0xF4 ∷ []) ∷ [])))
    { session = 3; enter = 2 }

abbrev pub with_answers : RawSetup
with_answers = record two_testers {
  answers = echo_row ∷ rounds_row ∷ unlocked_row ∷ slow_row ∷ enter_row ∷ [];
}
