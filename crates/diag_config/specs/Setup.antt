-- What a setup's text says: the values of its keys, or the first fault in the order of the table of keys.
use Rattle.std.specs.Prelude.{ℕ, pos, codes, nat_le, Bool, true, false, if◌then◌else◌, List, [], ◌∷◌, Option, Some, None, Result, Ok, Err}
use Rattle.std.specs.Str.{is_utf8}
use Rattle.toml.specs.Data.{Data, string, integer, boolean, array, table, Items, no_items, item, Members, get_member}
use Rattle.toml.specs.Parse.{parse_document}
use Rattle.hex.specs.Hex.{decode_of}
use Rattle.diag_setup.specs.declared.raw.RawTester.{RawTester}
use Rattle.diag_setup.specs.declared.raw.RawDid.{RawDid}
use Rattle.diag_setup.specs.declared.raw.RawDtc.{RawDtc}
use Rattle.diag_setup.specs.declared.raw.RawRoutine.{RawRoutine}
use Rattle.diag_setup.specs.declared.raw.RawKeyRow.{RawKeyRow}
use Rattle.diag_setup.specs.declared.raw.RawLevel.{RawLevel}
use Rattle.diag_setup.specs.declared.raw.RawAnswer.{RawAnswer}
use Rattle.diag_setup.specs.declared.raw.RawPattern.{RawPattern}
use Rattle.diag_setup.specs.declared.raw.TemplateItem.{TemplateItem}
use Rattle.diag_setup.specs.declared.raw.RawSetup.{RawSetup}
use Rattle.diag_setup.specs.declared.fault.SetupFault.{SetupFault}
use Rattle.diag_setup.specs.Setup.{checked}
use Rattle.diag_config.specs.declared.rows.Times.{Times}
use Rattle.diag_config.specs.declared.rows.LinkValues.{LinkValues}
use Rattle.diag_config.specs.declared.rows.ServerValues.{ServerValues}
use Rattle.diag_config.specs.declared.rows.SetupTables.{SetupTables}
use Rattle.diag_config.specs.Answer.{pattern_of, template_of}
use Rattle.diag_config.specs.Key.{Fault, syntax, missing, bad_value, refused, ◌>>=◌}

-- ---- kinds of value: what a value of the kind says, or that the key holds a bad value

-- a whole number from 0 to 4294967295
abbrev pub number : List ℕ → Data → Result ℕ Fault
number key (integer (pos n)) = if nat_le n 4294967295 then Ok n else Err (bad_value key)
number key _ = Err (bad_value key)

abbrev pub truth : List ℕ → Data → Result Bool Fault
truth key (boolean b) = Ok b
truth key _ = Err (bad_value key)

abbrev pub text : List ℕ → Data → Result (List ℕ) Fault
text key (string s) = Ok s
text key _ = Err (bad_value key)

abbrev pub hex_bytes : {E : Type 0} → List ℕ → Result (List ℕ) E → Result (List ℕ) Fault
hex_bytes key (Ok bytes) = Ok bytes
hex_bytes key (Err e) = Err (bad_value key)

abbrev pub hex : List ℕ → Data → Result (List ℕ) Fault
hex key (string s) = hex_bytes key (decode_of s)
hex key _ = Err (bad_value key)

abbrev pub or_bad_value : {A : Type 0} → List ℕ → Option A → Result A Fault
or_bad_value key (Some x) = Ok x
or_bad_value key None = Err (bad_value key)

abbrev pub pattern : List ℕ → Data → Result RawPattern Fault
pattern key (string s) = or_bad_value key (pattern_of s)
pattern key _ = Err (bad_value key)

abbrev pub template : List ℕ → Data → Result (List TemplateItem) Fault
template key (string s) = or_bad_value key (template_of s)
template key _ = Err (bad_value key)

-- a table, read by its own keys
abbrev pub row : {A : Type 0} → (Members → Result A Fault) → List ℕ → Data → Result A Fault
row at key (table ms) = at ms
row at key _ = Err (bad_value key)

-- each item of a list, one after the other
abbrev pub each : {A : Type 0} → (Data → Result A Fault) → Items → Result (List A) Fault
each kind no_items = Ok []
each kind (item d ds) = kind d >>= λ first. each kind ds >>= λ others. Ok (first ∷ others)

abbrev pub list : {A : Type 0} → (List ℕ → Data → Result A Fault) → List ℕ → Data
    → Result (List A) Fault
list kind key (array ds) = each (kind key) ds
list kind key _ = Err (bad_value key)

-- ---- a key of a table, whose name in the text is the last part of the key

abbrev pub where_given : {A : Type 0} → (Data → Result A Fault) → Option Data
    → Result (Option A) Fault
where_given kind None = Ok None
where_given kind (Some d) = kind d >>= λ x. Ok (Some x)

abbrev pub where_default : {A : Type 0} → (Data → Result A Fault) → A → Option Data → Result A Fault
where_default kind default None = Ok default
where_default kind default (Some d) = kind d

abbrev pub where_required : {A : Type 0} → (Data → Result A Fault) → Fault → Option Data
    → Result A Fault
where_required kind fault None = Err fault
where_required kind fault (Some d) = kind d

unfoldable pub optional : {A : Type 0} → (List ℕ → Data → Result A Fault) → Members → List ℕ
    → List ℕ → Result (Option A) Fault
optional kind ms name key = where_given (kind key) (get_member name ms)

-- the value of a key that may be left out
unfoldable pub with_default : {A : Type 0} → (List ℕ → Data → Result A Fault) → Members → List ℕ
    → List ℕ → A → Result A Fault
with_default kind ms name key default = where_default (kind key) default (get_member name ms)

-- the value of a key at the top, whose name is the whole key
abbrev pub at_top : {A : Type 0} → (List ℕ → Data → Result A Fault) → Members → List ℕ → A
    → Result A Fault
at_top kind ms key default = with_default kind ms key key default

unfoldable pub required : {A : Type 0} → (List ℕ → Data → Result A Fault) → Members → List ℕ
    → List ℕ → Result A Fault
required kind ms name key = where_required (kind key) (missing key) (get_member name ms)

-- ---- the tables of a setup

unfoldable pub tester_at : Members → Result RawTester Fault
tester_at ms = do
  name ← required text ms (codes "name") (codes "tester.name")
  request ← required number ms (codes "request") (codes "tester.request")
  response ← required number ms (codes "response") (codes "tester.response")
  extended ← with_default truth ms (codes "extended") (codes "tester.extended") false
  functional ← optional number ms (codes "functional") (codes "tester.functional")
  fd ← with_default truth ms (codes "fd") (codes "tester.fd") false
  Ok (record {
    name = name;
    request = request;
    response = response;
    extended = extended;
    functional = functional;
    fd = fd;
  })

unfoldable pub did_at : Members → Result RawDid Fault
did_at ms = do
  id ← required number ms (codes "id") (codes "did.id")
  value ← required hex ms (codes "value") (codes "did.value")
  read_level ← with_default number ms (codes "read_level") (codes "did.read_level") 0
  write ← with_default truth ms (codes "write") (codes "did.write") false
  write_level ← with_default number ms (codes "write_level") (codes "did.write_level") 0
  varies ← with_default truth ms (codes "varies") (codes "did.varies") false
  Ok (record {
    id = id;
    value = value;
    read_level = read_level;
    write = write;
    write_level = write_level;
    varies = varies;
  })

unfoldable pub dtc_at : Members → Result RawDtc Fault
dtc_at ms = do
  code ← required number ms (codes "code") (codes "code.code")
  status ← required number ms (codes "status") (codes "code.status")
  Ok (record { code = code; status = status })

-- the DTC that a routine sets when it is done; its status is looked at only where the DTC is given
abbrev pub done_with : Members → Option ℕ → Result (Option RawDtc) Fault
done_with ms None = Ok None
done_with ms (Some code) =
    required number ms (codes "status") (codes "routine.status")
    >>= λ status. Ok (Some (record { code = code; status = status }))

unfoldable pub done_at : Members → Result (Option RawDtc) Fault
done_at ms = do
  code ← optional number ms (codes "code") (codes "routine.code")
  done_with ms code

unfoldable pub routine_at : Members → Result RawRoutine Fault
routine_at ms = do
  id ← required number ms (codes "id") (codes "routine.id")
  time_ms ← required number ms (codes "time_ms") (codes "routine.time_ms")
  outcome ← with_default hex ms (codes "result") (codes "routine.result") []
  level ← with_default number ms (codes "level") (codes "routine.level") 0
  done ← done_at ms
  Ok (record {
    id = id;
    time_ms = time_ms;
    result = outcome;
    level = level;
    on_done = done;
  })

unfoldable pub row_at : Members → Result RawKeyRow Fault
row_at ms = do
  seed ← required hex ms (codes "seed") (codes "level.row.seed")
  key ← required hex ms (codes "key") (codes "level.row.key")
  Ok (record { seed = seed; key = key })

unfoldable pub level_at : Members → Result RawLevel Fault
level_at ms = do
  request_seed ← required number ms (codes "sub") (codes "level.sub")
  any_key ← with_default truth ms (codes "any_key") (codes "level.any_key") false
  varies ← with_default truth ms (codes "varies") (codes "level.varies") false
  rows ← with_default (list (row row_at)) ms (codes "row") (codes "level.row") []
  Ok (record { request_seed = request_seed; any_key = any_key; varies = varies; rows = rows })

unfoldable pub answer_at : Members → Result RawAnswer Fault
answer_at ms = do
  request ← required pattern ms (codes "request") (codes "answer.request")
  reply ← optional (list template) ms (codes "reply") (codes "answer.reply")
  session ← with_default number ms (codes "session") (codes "answer.session") 0
  level ← with_default number ms (codes "level") (codes "answer.level") 0
  enter ← with_default number ms (codes "enter") (codes "answer.enter") 0
  after_ms ← with_default number ms (codes "after_ms") (codes "answer.after_ms") 0
  Ok (record {
    pattern = request.items;
    more = request.more;
    reply = reply;
    session = session;
    level = level;
    enter = enter;
    after_ms = after_ms;
  })

-- ---- the keys at the top, in five groups

unfoldable pub timing_at : Members → Result Times Fault
timing_at ms = do
  p2_ms ← at_top number ms (codes "p2_ms") 50
  p2_star_10ms ← at_top number ms (codes "p2_star_10ms") 500
  s3_ms ← at_top number ms (codes "s3_ms") 5000
  n_bs_ms ← at_top number ms (codes "n_bs_ms") 1000
  n_cr_ms ← at_top number ms (codes "n_cr_ms") 1000
  Ok (record {
    p2_ms = p2_ms;
    p2_star_10ms = p2_star_10ms;
    s3_ms = s3_ms;
    n_bs_ms = n_bs_ms;
    n_cr_ms = n_cr_ms;
  })

unfoldable pub transport_at : Members → Result LinkValues Fault
transport_at ms = do
  block_size ← at_top number ms (codes "block_size") 0
  st_min ← at_top number ms (codes "st_min") 0
  max_request ← at_top number ms (codes "max_request") 4095
  pad ← at_top truth ms (codes "pad") true
  pad_byte ← at_top number ms (codes "pad_byte") 204
  tx_dl ← at_top number ms (codes "tx_dl") 64
  fd_flags ← at_top number ms (codes "fd_flags") 1
  Ok (record {
    block_size = block_size;
    st_min = st_min;
    max_request = max_request;
    pad = pad;
    pad_byte = pad_byte;
    tx_dl = tx_dl;
    fd_flags = fd_flags;
  })

unfoldable pub server_at : Members → Result ServerValues Fault
server_at ms = do
  availability ← at_top number ms (codes "availability") 255
  functional ← at_top number ms (codes "functional") 2015
  attempts ← at_top number ms (codes "attempts") 3
  delay_ms ← at_top number ms (codes "delay_ms") 10000
  Ok (record {
    availability = availability;
    functional = functional;
    attempts = attempts;
    delay_ms = delay_ms;
  })

unfoldable pub ignore_at : Members → Result (List RawPattern) Fault
ignore_at ms = at_top (list pattern) ms (codes "ignore") []

unfoldable pub tables_at : Members → Result SetupTables Fault
tables_at ms = do
  testers ← at_top (list (row tester_at)) ms (codes "tester") []
  dids ← at_top (list (row did_at)) ms (codes "did") []
  dtcs ← at_top (list (row dtc_at)) ms (codes "code") []
  routines ← at_top (list (row routine_at)) ms (codes "routine") []
  levels ← at_top (list (row level_at)) ms (codes "level") []
  answers ← at_top (list (row answer_at)) ms (codes "answer") []
  Ok (record {
    testers = testers;
    dids = dids;
    dtcs = dtcs;
    routines = routines;
    levels = levels;
    answers = answers;
  })

-- all keys, in the order of the table
unfoldable pub setup_at : Members → Result RawSetup Fault
setup_at ms = do
  timing ← timing_at ms
  transport ← transport_at ms
  server ← server_at ms
  ignore ← ignore_at ms
  tables ← tables_at ms
  Ok (record {
    p2_ms = timing.p2_ms;
    p2_star_10ms = timing.p2_star_10ms;
    s3_ms = timing.s3_ms;
    n_bs_ms = timing.n_bs_ms;
    n_cr_ms = timing.n_cr_ms;
    block_size = transport.block_size;
    st_min = transport.st_min;
    max_request = transport.max_request;
    pad = transport.pad;
    pad_byte = transport.pad_byte;
    tx_dl = transport.tx_dl;
    fd_flags = transport.fd_flags;
    availability = server.availability;
    functional = server.functional;
    attempts = server.attempts;
    delay_ms = server.delay_ms;
    testers = tables.testers;
    dids = tables.dids;
    dtcs = tables.dtcs;
    routines = tables.routines;
    levels = tables.levels;
    answers = tables.answers;
    ignore = ignore;
  })

-- ---- a whole text

-- the tree that toml gives, where it gives one
abbrev pub setup_of_tree : Option Members → Result RawSetup Fault
setup_of_tree None = Err syntax
setup_of_tree (Some ms) = setup_at ms

-- the setup that a text says, before its values are checked
abbrev pub raw_setup_of : List ℕ → Result RawSetup Fault
raw_setup_of bytes = if is_utf8 bytes then setup_of_tree (parse_document bytes) else Err syntax

abbrev pub or_refused : {A : Type 0} → Result A SetupFault → Result A Fault
or_refused (Ok setup) = Ok setup
or_refused (Err fault) = Err (refused fault)

-- the setup that a text says, or the first fault
unfoldable pub setup_of : List ℕ → Result RawSetup Fault
setup_of bytes = raw_setup_of bytes >>= λ raw. or_refused (checked raw)
