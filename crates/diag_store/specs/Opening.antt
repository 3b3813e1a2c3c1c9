-- The tables at the opening.
use Rattle.std.specs.Prelude.{List, map, None, option_map, replicate}
use Rattle.diag_setup.specs.declared.raw.RawSetup.{RawSetup}
use Rattle.diag_setup.specs.declared.raw.RawDid.{RawDid}
use Rattle.diag_setup.specs.declared.raw.RawDtc.{RawDtc}
use Rattle.diag_setup.specs.declared.raw.RawRoutine.{RawRoutine}
use Rattle.diag_setup.specs.declared.raw.RawKeyRow.{RawKeyRow}
use Rattle.diag_setup.specs.declared.raw.RawLevel.{RawLevel}
use Rattle.diag_setup.specs.declared.raw.RawAnswer.{RawAnswer}
use Rattle.diag_setup.specs.Setup.{templates_of}
use Rattle.diag_store.specs.declared.answers.AnswerRow.{AnswerRow}
use Rattle.diag_store.specs.declared.dids.DidRow.{DidRow}
use Rattle.diag_store.specs.declared.dtcs.Dtc.{Dtc}
use Rattle.diag_store.specs.declared.routines.Routine.{Routine}
use Rattle.diag_store.specs.declared.routines.RoutineState.TheVariants.{Idle}
use Rattle.diag_store.specs.declared.levels.KeyRow.{KeyRow}
use Rattle.diag_store.specs.declared.levels.Level.{Level}
use Rattle.diag_store.specs.declared.security.SecurityState.{SecurityState}

abbrev pub did_row : RawDid → DidRow
did_row did = record {
  id = did.id;
  value = record { items = did.value };
  rule = record { read_level = did.read_level; write = did.write; write_level = did.write_level };
}

abbrev pub opening_dids : RawSetup → List DidRow
opening_dids setup = map did_row setup.dids

abbrev pub dtc_row : RawDtc → Dtc
dtc_row row = record { code = row.code; status = row.status }

abbrev pub opening_codes : RawSetup → List Dtc
opening_codes setup = map dtc_row setup.dtcs

abbrev pub routine_row : RawRoutine → Routine
routine_row routine = record {
  id = routine.id;
  time_ms = routine.time_ms;
  result = record { items = routine.result };
  level = routine.level;
  on_done = option_map dtc_row routine.on_done;
  state = Idle;
}

abbrev pub opening_routines : RawSetup → List Routine
opening_routines setup = map routine_row setup.routines

abbrev pub key_row : RawKeyRow → KeyRow
key_row row = record { seed = record { items = row.seed }; key = record { items = row.key } }

abbrev pub level_row : RawLevel → Level
level_row level = record {
  request_seed = level.request_seed;
  any_key = level.any_key;
  rows = map key_row level.rows;
  next = 0;
}

-- nothing is unlocked, no seed is outstanding, and nobody is delayed
abbrev pub opening_security : RawSetup → SecurityState
opening_security setup = record {
  attempts = setup.attempts;
  delay_ms = setup.delay_ms;
  levels = map level_row setup.levels;
  unlocked = None;
  outstanding = None;
  wrong_keys = replicate 8 0;
  delays = replicate 8 0;
}

-- the first template of each row is next
abbrev pub answer_row : RawAnswer → AnswerRow
answer_row row = record {
  pattern = row.pattern;
  more = row.more;
  templates = templates_of row;
  session = row.session;
  level = row.level;
  enter = row.enter;
  after_ms = row.after_ms;
  next = 0;
}

abbrev pub opening_answers : RawSetup → List AnswerRow
opening_answers setup = map answer_row setup.answers
