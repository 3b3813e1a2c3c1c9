-- Which raw setups are refused, with which fault, what setup the others are, and what a setup tells.
use Rattle.std.specs.Prelude.{◌≡◌, ◌==◌, ◌&&◌, ◌||◌, ◌%◌, ◌+◌, ◌-◌, ◌*◌, max, bytes_eq, ℕ, Bool, true, false, not, List, [], ◌∷◌, length, Option, Some, None, is_some, Result, Ok, Err, if◌then◌else◌, nat_le, nat_lt, slice_get, unwrap_or}
use Rattle.std.specs.List.{list_all, list_any, flat_map, sum_by}
use Rattle.diag_can.specs.Identifier.{extended}
use Rattle.diag_can.specs.Line.{known_to}
use Rattle.diag_can.specs.declared.frame.Ids.{Ids}
use Rattle.diag_can.specs.declared.frame.KnownId.{KnownId}
use Rattle.diag_pdu.specs.Length.{length_of}
use Rattle.diag_pdu.specs.declared.framing.Framing.{Framing}
use Rattle.diag_pdu.specs.declared.length.DataLength.{DataLength}
use Rattle.diag_pdu.specs.declared.length.DataLength.TheVariants.{Dl8}
use Rattle.diag_pdu.specs.declared.setup.LinkSetup.{LinkSetup}
use Rattle.diag_setup.specs.declared.setup.ServerParameters.{ServerParameters}
use Rattle.diag_setup.specs.Rows.{is_between, has_length, have_one_length, has_key, has_repeat, in_order, is_rising}
use Rattle.diag_setup.specs.declared.raw.RawSetup.{RawSetup}
use Rattle.diag_setup.specs.declared.raw.RawTester.{RawTester}
use Rattle.diag_setup.specs.declared.raw.RawDid.{RawDid}
use Rattle.diag_setup.specs.declared.raw.RawDtc.{RawDtc}
use Rattle.diag_setup.specs.declared.raw.RawRoutine.{RawRoutine}
use Rattle.diag_setup.specs.declared.raw.RawKeyRow.{RawKeyRow}
use Rattle.diag_setup.specs.declared.raw.RawLevel.{RawLevel}
use Rattle.diag_setup.specs.declared.raw.RawAnswer.{RawAnswer}
use Rattle.diag_setup.specs.declared.raw.RawPattern.{RawPattern}
use Rattle.diag_setup.specs.declared.raw.TemplateItem.{TemplateItem}
use Rattle.diag_setup.specs.declared.raw.TemplateItem.TheVariants.{OfRequest}
use Rattle.diag_setup.specs.declared.fault.SetupFault.{SetupFault}
use Rattle.diag_setup.specs.declared.fault.SetupFault.TheVariants.{Range, Empty, DuplicateId, UnknownCode, UnknownLevel}

-- the keys by which the tables are looked up
abbrev pub did_id : RawDid → ℕ
did_id did = did.id

abbrev pub dtc_code : RawDtc → ℕ
dtc_code row = row.code

abbrev pub routine_id : RawRoutine → ℕ
routine_id routine = routine.id

abbrev pub level_sub : RawLevel → ℕ
level_sub level = level.request_seed

-- letters, digits and the underscore
abbrev pub is_name_byte : ℕ → Bool
is_name_byte b = is_between 48 57 b || is_between 65 90 b || is_between 97 122 b || b == 95

abbrev pub is_can_id : ℕ → Bool
is_can_id id = nat_le id 0x7FF

abbrev pub is_wide_id : ℕ → Bool
is_wide_id id = nat_le id 0x1FFFFFFF

-- the number of an identifier of 29 bits, or of 11
abbrev pub is_id_by : Bool → ℕ → Bool
is_id_by wide id = if wide then is_wide_id id else is_can_id id

-- the same of one that may be left out
abbrev pub is_own_id : Bool → Option ℕ → Bool
is_own_id wide None = true
is_own_id wide (Some id) = is_id_by wide id

abbrev pub tester_is_in_range : RawTester → Bool
tester_is_in_range tester =
    has_length 1 16 tester.name && list_all is_name_byte tester.name && is_id_by tester.extended tester.request
    && is_id_by tester.extended tester.response && is_own_id tester.extended tester.functional

abbrev pub did_is_in_range : RawDid → Bool
did_is_in_range did = nat_le did.id 0xFFFF && has_length 1 255 did.value

abbrev pub dtc_is_in_range : RawDtc → Bool
dtc_is_in_range row = nat_le row.code 0xFFFFFE && nat_le row.status 0xFF

-- the code that a routine names is one of the list, so it has no range of its own
abbrev pub on_done_is_in_range : Option RawDtc → Bool
on_done_is_in_range None = true
on_done_is_in_range (Some row) = nat_le row.status 0xFF

abbrev pub routine_is_in_range : RawRoutine → Bool
routine_is_in_range routine =
    nat_le routine.id 0xFFFF && is_between 1 600000 routine.time_ms
    && nat_le (length routine.result) 32 && on_done_is_in_range routine.on_done

abbrev pub key_row_is_in_range : RawKeyRow → Bool
key_row_is_in_range row =
    has_length 1 255 row.seed && list_any (λ b. not (b == 0)) row.seed && has_length 1 255 row.key

abbrev pub seed_of : RawKeyRow → List ℕ
seed_of row = row.seed

abbrev pub key_of : RawKeyRow → List ℕ
key_of row = row.key

-- in one level all seeds have one length, and all keys have one
abbrev pub level_is_in_range : RawLevel → Bool
level_is_in_range level =
    is_between 1 65 level.request_seed && level.request_seed % 2 == 1 && nat_le (length level.rows) 64
    && list_all key_row_is_in_range level.rows && have_one_length seed_of level.rows
    && have_one_length key_of level.rows

abbrev pub items_or_none : {X : Type 0} → Option (List X) → List X
items_or_none None = []
items_or_none (Some items) = items

-- the templates of a row of answers; none where the services answer
abbrev pub templates_of : RawAnswer → List (List TemplateItem)
templates_of row = items_or_none row.reply

abbrev pub template_count : RawAnswer → ℕ
template_count row = length (templates_of row)

-- an item names a byte only of those that each request of a pattern of n items has
abbrev pub item_is_in_range : ℕ → TemplateItem → Bool
item_is_in_range n (OfRequest k) = nat_lt k n
item_is_in_range n _ = true

abbrev pub template_is_in_range : ℕ → List TemplateItem → Bool
template_is_in_range n template =
    nat_le (length template) 4095 && list_all (item_is_in_range n) template

abbrev pub reply_is_in_range : ℕ → Option (List (List TemplateItem)) → Bool
reply_is_in_range n None = true
reply_is_in_range n (Some templates) =
    has_length 1 4096 templates && list_all (template_is_in_range n) templates

-- a session is entered only beside a reply
abbrev pub enter_is_in_range : RawAnswer → Bool
enter_is_in_range row = nat_le row.enter 126 && (row.enter == 0 || is_some row.reply)

abbrev pub answer_is_in_range : RawAnswer → Bool
answer_is_in_range row =
    has_length 1 64 row.pattern && reply_is_in_range (length row.pattern) row.reply
    && nat_le row.session 126 && enter_is_in_range row && nat_le row.after_ms 600000

abbrev pub pattern_is_in_range : RawPattern → Bool
pattern_is_in_range pattern = has_length 1 64 pattern.items

abbrev pub is_st_min : ℕ → Bool
is_st_min st = nat_le st 127 || is_between 241 249 st

-- a length that frames of CAN FD have, or that of the longest classic one
abbrev pub is_tx_dl : ℕ → Bool
is_tx_dl n = is_some (length_of n)

abbrev pub times_are_in_range : RawSetup → Bool
times_are_in_range raw =
    nat_le raw.p2_ms 0xFFFF && nat_le raw.p2_star_10ms 0xFFFF && is_between 1 600000 raw.s3_ms
    && is_between 1 60000 raw.n_bs_ms && is_between 1 60000 raw.n_cr_ms

abbrev pub link_is_in_range : RawSetup → Bool
link_is_in_range raw =
    nat_le raw.block_size 0xFF && is_st_min raw.st_min && is_between 8 0xFFFF raw.max_request
    && nat_le raw.pad_byte 0xFF && is_tx_dl raw.tx_dl && nat_le raw.fd_flags 15
    && is_can_id raw.functional

abbrev pub server_is_in_range : RawSetup → Bool
server_is_in_range raw = nat_le raw.availability 0xFF && is_between 1 0xFF raw.attempts
    && is_between 1 600000 raw.delay_ms

abbrev pub testers_are_in_range : List RawTester → Bool
testers_are_in_range testers = nat_le (length testers) 8 && list_all tester_is_in_range testers

abbrev pub dids_are_in_range : List RawDid → Bool
dids_are_in_range dids = nat_le (length dids) 1024 && list_all did_is_in_range dids

abbrev pub dtcs_are_in_range : List RawDtc → Bool
dtcs_are_in_range dtcs = nat_le (length dtcs) 4096 && list_all dtc_is_in_range dtcs

abbrev pub routines_are_in_range : List RawRoutine → Bool
routines_are_in_range routines =
    nat_le (length routines) 256 && list_all routine_is_in_range routines

abbrev pub levels_are_in_range : List RawLevel → Bool
levels_are_in_range levels = nat_le (length levels) 4 && list_all level_is_in_range levels

-- the latest that an answer goes: at most 255 times response pending comes before it, the first after P2 and each
-- further one after P2*, of which the least is 1 ms
abbrev pub latest_answer_ms : ℕ → ℕ → ℕ
latest_answer_ms p2_ms p2_star_10ms = p2_ms + 255 * max 1 (10 * p2_star_10ms)

abbrev pub is_in_time : ℕ → RawAnswer → Bool
is_in_time latest row = nat_le row.after_ms latest

abbrev pub answers_are_in_range : RawSetup → Bool
answers_are_in_range raw =
    nat_le (length raw.answers) 1024 && list_all answer_is_in_range raw.answers
    && list_all (is_in_time (latest_answer_ms raw.p2_ms raw.p2_star_10ms)) raw.answers
    && nat_le (sum_by template_count raw.answers) 65536

abbrev pub ignored_are_in_range : List RawPattern → Bool
ignored_are_in_range patterns = nat_le (length patterns) 256 && list_all pattern_is_in_range patterns

-- Range: every value and every number of rows is one that the table allows
abbrev pub is_in_range : RawSetup → Bool
is_in_range raw =
    times_are_in_range raw && link_is_in_range raw && server_is_in_range raw
    && testers_are_in_range raw.testers && dids_are_in_range raw.dids
    && dtcs_are_in_range raw.dtcs && routines_are_in_range raw.routines
    && levels_are_in_range raw.levels && answers_are_in_range raw && ignored_are_in_range raw.ignore

abbrev pub has_no_rows : RawLevel → Bool
has_no_rows level = length level.rows == 0

-- Empty: no tester, or a level without a row
abbrev pub lacks_rows : RawSetup → Bool
lacks_rows raw = length raw.testers == 0 || list_any has_no_rows raw.levels

abbrev pub has_name : List RawTester → List ℕ → Bool
has_name testers name = list_any (λ tester. bytes_eq tester.name name) testers

abbrev pub has_repeated_name : List RawTester → Bool
has_repeated_name [] = false
has_repeated_name (tester ∷ testers) = has_name testers tester.name || has_repeated_name testers

abbrev pub itself : ℕ → ℕ
itself n = n

-- the identifier of a number, of 29 bits or of 11
abbrev pub id_by : Bool → ℕ → ℕ
id_by wide number = if wide then extended number else number

-- the identifiers of a tester alone
abbrev pub own_ids : RawTester → List ℕ
own_ids tester = id_by tester.extended tester.request ∷ id_by tester.extended tester.response ∷ []

-- the identifiers of requests and responses
abbrev pub can_ids : List RawTester → List ℕ
can_ids testers = flat_map own_ids testers

-- the number of the functional identifier of a tester: its own, or else 18DB33F1 of 29 bits (ISO 15765-4), or the one of 11 bits
-- that the testers share
abbrev pub functional_number : ℕ → RawTester → ℕ
functional_number shared tester = unwrap_or tester.functional (if tester.extended then 0x18DB33F1 else shared)

abbrev pub functional_of : ℕ → RawTester → ℕ
functional_of shared tester = id_by tester.extended (functional_number shared tester)

-- a tester's functional identifier is one of these: several testers may have the same, and no other use of it is allowed
abbrev pub asks_by : List ℕ → ℕ → RawTester → Bool
asks_by ids shared tester = has_key itself ids (functional_of shared tester)

-- a tester talks by CAN FD and another one doesn't, and both have one functional identifier
abbrev pub mixes_with : ℕ → RawTester → RawTester → Bool
mixes_with shared tester other =
    tester.fd && not other.fd && functional_of shared tester == functional_of shared other

-- the same of a tester and any of these
abbrev pub mixes_among : List RawTester → ℕ → RawTester → Bool
mixes_among others shared tester = list_any (mixes_with shared tester) others

-- two requests or responses have one identifier, or one of them has a functional one, or a tester that talks by CAN FD has the
-- functional one of a classic tester
abbrev pub has_repeated_id : List RawTester → ℕ → Bool
has_repeated_id testers shared =
    has_repeat itself (can_ids testers) || list_any (asks_by (can_ids testers) shared) testers
    || list_any (mixes_among testers shared) testers

-- DuplicateId: two testers of one name, two equal identifiers, or two rows of one key
abbrev pub has_duplicates : RawSetup → Bool
has_duplicates raw =
    has_repeated_name raw.testers || has_repeated_id raw.testers raw.functional
    || has_repeat did_id raw.dids || has_repeat dtc_code raw.dtcs
    || has_repeat routine_id raw.routines || has_repeat level_sub raw.levels

abbrev pub is_known_code : List RawDtc → Option RawDtc → Bool
is_known_code dtcs None = true
is_known_code dtcs (Some row) = has_key dtc_code dtcs row.code

-- a level that is 0 is open
abbrev pub is_known_level : List RawLevel → ℕ → Bool
is_known_level levels level = level == 0 || has_key level_sub levels level

abbrev pub done_code_is_known : List RawDtc → RawRoutine → Bool
done_code_is_known dtcs routine = is_known_code dtcs routine.on_done

abbrev pub routine_level_is_known : List RawLevel → RawRoutine → Bool
routine_level_is_known levels routine = is_known_level levels routine.level

-- UnknownCode: a routine names a code that isn't in the list
abbrev pub names_unknown_code : RawSetup → Bool
names_unknown_code raw = not (list_all (done_code_is_known raw.dtcs) raw.routines)

abbrev pub did_levels_are_known : List RawLevel → RawDid → Bool
did_levels_are_known levels did =
    is_known_level levels did.read_level && is_known_level levels did.write_level

abbrev pub answer_level_is_known : List RawLevel → RawAnswer → Bool
answer_level_is_known levels row = is_known_level levels row.level

-- UnknownLevel: an identifier, a routine or a row of answers names a level that isn't in the list
abbrev pub names_unknown_level : RawSetup → Bool
names_unknown_level raw =
    not (list_all (did_levels_are_known raw.levels) raw.dids
    && list_all (routine_level_is_known raw.levels) raw.routines
    && list_all (answer_level_is_known raw.levels) raw.answers)

-- what is looked at, in this order, and the fault where it holds
abbrev pub faults : RawSetup → List (Bool × SetupFault)
faults raw =
    (not (is_in_range raw), Range)
    ∷ (lacks_rows raw, Empty)
    ∷ (has_duplicates raw, DuplicateId)
    ∷ (names_unknown_code raw, UnknownCode)
    ∷ (names_unknown_level raw, UnknownLevel)
    ∷ []

abbrev pub first_holding : {X : Type 0} → List (Bool × X) → Option X
first_holding [] = None
first_holding (check ∷ rest) = if check.0 then Some check.1 else first_holding rest

abbrev pub fault_of : RawSetup → Option SetupFault
fault_of raw = first_holding (faults raw)

-- the same setup with its tables in rising order
abbrev pub sorted : RawSetup → RawSetup
sorted raw = record raw {
  dids = in_order did_id raw.dids;
  dtcs = in_order dtc_code raw.dtcs;
  routines = in_order routine_id raw.routines;
  levels = in_order level_sub raw.levels;
}

-- whether the tables are in rising order, each key once
abbrev pub tables_rise : RawSetup → Bool
tables_rise raw = is_rising did_id raw.dids && is_rising dtc_code raw.dtcs
    && is_rising routine_id raw.routines && is_rising level_sub raw.levels

-- what a setup is: a raw one without a fault, its tables in rising order
abbrev pub IsSetup : RawSetup → Type 0
IsSetup raw = (fault_of raw ≡ None) × (tables_rise raw ≡ true)

abbrev pub setup_or_fault : Option SetupFault → RawSetup → Result RawSetup SetupFault
setup_or_fault None raw = Ok (sorted raw)
setup_or_fault (Some fault) raw = Err fault

-- the setup that a raw one is, or its first fault
abbrev pub checked : RawSetup → Result RawSetup SetupFault
checked raw = setup_or_fault (fault_of raw) raw

-- what stands for the tester of a number that has none
abbrev pub nobody : RawTester
nobody = record {
  name = [];
  request = 0;
  response = 0;
  extended = false;
  functional = None;
  fd = false;
}

-- the tester of a number from 1
abbrev pub tester_of : RawSetup → ℕ → RawTester
tester_of setup who = unwrap_or (slice_get setup.testers (who - 1)) nobody

abbrev pub name_of : RawSetup → ℕ → List ℕ
name_of setup who = (tester_of setup who).name

-- the identifiers of a tester's link
abbrev pub link_ids : ℕ → RawTester → Ids
link_ids shared tester = record {
  request = id_by tester.extended tester.request;
  response = id_by tester.extended tester.response;
  functional = functional_of shared tester;
  fd = tester.fd;
}

abbrev pub ids_of : RawSetup → ℕ → Ids
ids_of setup who = link_ids setup.functional (tester_of setup who)

-- the identifiers of a tester's link of which lines are read that are passed over otherwise: those of 29 bits, and of a tester
-- that talks by CAN FD all
abbrev pub read_ids : ℕ → RawTester → List KnownId
read_ids shared tester =
    if tester.extended || tester.fd then known_to (link_ids shared tester) else []

-- those of all testers, in a recording of the whole bus
abbrev pub known_ids : RawSetup → List KnownId
known_ids setup = flat_map (read_ids setup.functional) setup.testers

-- the greatest length of the frames to a tester, where the unit has this one for those that talk by CAN FD
abbrev pub tx_dl_of : ℕ → RawTester → DataLength
tx_dl_of most tester = if tester.fd then unwrap_or (length_of most) Dl8 else Dl8

-- how the frames to a tester are made: those of more than 8 bytes are filled whether the others are padded or not
abbrev pub framing_of : RawSetup → RawTester → Framing
framing_of setup tester = record {
  tx_dl = tx_dl_of setup.tx_dl tester;
  pad = if setup.pad then Some setup.pad_byte else None;
  fill = setup.pad_byte;
}

-- the settings of a tester's link
abbrev pub link_of : RawSetup → ℕ → LinkSetup
link_of setup who = record {
  ids = ids_of setup who;
  block_size = setup.block_size;
  st_min = setup.st_min;
  max_request = setup.max_request;
  framing = framing_of setup (tester_of setup who);
  n_bs = setup.n_bs_ms;
  n_cr = setup.n_cr_ms;
}

-- whether a tester and the unit talk by CAN FD
abbrev pub is_fd_of : RawSetup → ℕ → Bool
is_fd_of setup who = (tester_of setup who).fd

-- the flags that stand in the lines of what is sent to a tester; a classic frame has none
abbrev pub flags_of : RawSetup → ℕ → Option ℕ
flags_of setup who = if is_fd_of setup who then Some setup.fd_flags else None

-- the values that the services answer with
abbrev pub values_of : RawSetup → ServerParameters
values_of setup = record {
  p2_ms = setup.p2_ms;
  p2_star_10ms = setup.p2_star_10ms;
  s3_ms = setup.s3_ms;
  availability = setup.availability;
}
