-- What the ECU answers a request, and what it is then: the checks in their order, then the service's row.
use Rattle.std.specs.Prelude.{ℕ, ◌+◌, ◌-◌, ◌%◌, ◌==◌, ◌&&◌, ◌||◌, Bool, true, false, not, List, [], ◌∷◌, ◌++◌, length, drop, flat_map, Option, Some, None, is_some, is_none, option_map, if◌then◌else◌, nat_lt, nat_le, max, bit_and, slice_get, slice_index, unwrap_or, Result, Ok, Err}
use Rattle.std.specs.List.{list_any, list_all}
use Rattle.diag_setup.specs.Setup.{first_holding}
use Rattle.diag_setup.specs.declared.raw.TemplateItem.{TemplateItem}
use Rattle.diag_store.specs.Answers as answers
use Rattle.diag_store.specs.Dids as dids
use Rattle.diag_store.specs.Dtcs as dtcs
use Rattle.diag_store.specs.Routines as routines
use Rattle.diag_store.specs.Security as security
use Rattle.diag_store.specs.declared.answers.Access.{Access}
use Rattle.diag_store.specs.declared.answers.AnswerRow.{AnswerRow}
use Rattle.diag_store.specs.declared.dids.DidRule.{DidRule}
use Rattle.diag_store.specs.declared.dtcs.Dtc.{Dtc}
use Rattle.diag_store.specs.declared.routines.Routine.{Routine}
use Rattle.diag_store.specs.declared.routines.RoutineState.{RoutineState}
use Rattle.diag_store.specs.declared.routines.RoutineState.TheVariants.{Idle, Running, Done}
use Rattle.diag_store.specs.declared.security.SeedAnswer.{SeedAnswer}
use Rattle.diag_store.specs.declared.security.SeedAnswer.TheVariants as seeds
use Rattle.diag_store.specs.declared.security.KeyAnswer.{KeyAnswer}
use Rattle.diag_store.specs.declared.security.KeyAnswer.TheVariants.{Delayed, NoSeed, Right, Wrong, TooMany}
use Rattle.diag_ecu.specs.declared.effect.Decision.{Decision}
use Rattle.diag_ecu.specs.declared.effect.Effect.{Effect}
use Rattle.diag_ecu.specs.declared.effect.Effect.TheVariants.{Nothing, Serve, CountWrongKey, Answer}
use Rattle.diag_ecu.specs.declared.service.Service.{Service}
use Rattle.diag_ecu.specs.declared.service.Service.TheVariants.{DiagnosticSessionControl, EcuReset, ClearDiagnosticInformation, ReadDtcInformation, ReadDataByIdentifier, SecurityAccess, WriteDataByIdentifier, RoutineControl, TesterPresent, ControlDtcSetting}
use Rattle.diag_ecu.specs.declared.service.ServiceRow.{ServiceRow}
use Rattle.diag_ecu.specs.declared.service.SubFunctions.{SubFunctions}
use Rattle.diag_ecu.specs.declared.service.SubFunctions.TheVariants.{Absent, Range, Two, Three, OfLevels}
use Rattle.diag_ecu.specs.declared.service.Busy.{Busy}
use Rattle.diag_ecu.specs.declared.service.Busy.TheVariants.{Never, Always, On}
use Rattle.diag_ecu.specs.declared.service.Lengths.{Lengths}
use Rattle.diag_ecu.specs.declared.service.Lengths.TheVariants.{Any, Only, Either, Report, Odd, SeedOrKey}
use Rattle.diag_ecu.specs.declared.service.Nrc.{Nrc}
use Rattle.diag_ecu.specs.declared.service.Nrc.TheVariants.{ServiceNotSupported, SubFunctionNotSupported, IncorrectMessageLengthOrInvalidFormat, ResponseTooLong, BusyRepeatRequest, ConditionsNotCorrect, RequestSequenceError, RequestOutOfRange, SecurityAccessDenied, InvalidKey, ExceedNumberOfAttempts, RequiredTimeDelayNotExpired, ServiceNotSupportedInActiveSession}
use Rattle.diag_ecu.specs.Bytes.{bytes_16, bytes_24, number_16, number_24, has_bit_7, without_bit_7}
use Rattle.diag_ecu.specs.Service.{service_of, nrc_code, row, is_silent, is_of_wrong_key}
use Rattle.diag_ecu.specs.State.{State, is_holder, is_held_by_another, is_open, session_of, session_ended, entered}

-- ---- the parts of a request

abbrev pub sid : List ℕ → ℕ
sid p = slice_index p 0

-- the second byte without the suppress bit
abbrev pub sub : List ℕ → ℕ
sub p = without_bit_7 (slice_index p 1)

-- the identifiers of a request to read data
abbrev pub ids_in : List ℕ → List ℕ
ids_in [] = []
ids_in (high ∷ []) = []
ids_in (high ∷ low ∷ rest) = number_16 (high ∷ low ∷ []) 0 ∷ ids_in rest

abbrev pub ids : List ℕ → List ℕ
ids p = ids_in (drop 1 p)

-- ---- what a row of the table of services says of a request

-- whether the request is busy while another tester is the holder
abbrev pub is_busy : Busy → List ℕ → Bool
is_busy Never p = false
is_busy Always p = true
is_busy (On n) p = sub p == n

-- whether there is this sub-function; of a service that has none, any
abbrev pub is_sub_function : State → SubFunctions → ℕ → Bool
is_sub_function s Absent n = true
is_sub_function s (Range first last) n = nat_le first n && nat_le n last
is_sub_function s (Two a b) n = (n == a) || (n == b)
is_sub_function s (Three a b c) n = (n == a) || (n == b) || (n == c)
is_sub_function s OfLevels n =
    is_some (security.level_of s.security n) || is_some (security.level_of s.security (n - 1))

-- whether the second byte is a sub-function
abbrev pub has_sub_function : SubFunctions → Bool
has_sub_function Absent = false
has_sub_function (Range first last) = true
has_sub_function (Two a b) = true
has_sub_function (Three a b c) = true
has_sub_function OfLevels = true

-- whether a request for a seed, and not a key, is meant
abbrev pub is_seed_request : State → List ℕ → Bool
is_seed_request s p = is_some (security.level_of s.security (sub p))

-- the level that a key is for
abbrev pub key_level : List ℕ → ℕ
key_level p = sub p - 1

-- whether the length is one of these
abbrev pub has_length : State → Lengths → List ℕ → Bool
has_length s Any p = true
has_length s (Only n) p = length p == n
has_length s (Either m n) p = (length p == m) || (length p == n)
has_length s Report p = length p == (if sub p == 0x0A then 2 else 3)
has_length s Odd p = length p % 2 == 1
has_length s SeedOrKey p =
    if is_seed_request s p
    then length p == 2
    else security.option_is (security.key_len s.security (key_level p)) (length (drop 2 p))

-- ---- positive replies

-- a code with its reported status
abbrev pub report : ℕ → Dtc → List ℕ
report availability row = bytes_24 row.code ++ bit_and row.status availability ∷ []

-- the DTCStatusMask of a request AND the DTCStatusAvailabilityMask
abbrev pub mask_of : State → List ℕ → ℕ
mask_of s p = bit_and (slice_index p 2) s.values.availability

-- the codes that have a bit of the mask, and all codes
abbrev pub counted_reply : State → ℕ → List ℕ
counted_reply s mask = 0x59 ∷ 0x02 ∷ s.values.availability
    ∷ flat_map (report s.values.availability) (dtcs.matching s.dtcs mask)

abbrev pub all_reply : State → List ℕ
all_reply s = 0x59 ∷ 0x0A ∷ s.values.availability ∷ flat_map (report s.values.availability) s.dtcs

-- 01 reportNumberOfDTCByStatusMask, 02 reportDTCByStatusMask, 0A reportSupportedDTC
abbrev pub dtc_reply : State → List ℕ → List ℕ
dtc_reply s p =
    if sub p == 0x01
    then 0x59 ∷ 0x01 ∷ s.values.availability ∷ 0x01
    ∷ bytes_16 (length (dtcs.matching s.dtcs (mask_of s p)))
    else if sub p == 0x02 then counted_reply s (mask_of s p)
    else all_reply s

-- whether there is such an identifier
abbrev pub knows : State → ℕ → Bool
knows s id = is_some (dids.value_of s.dids id)

-- an identifier with its value, and nothing for one that is unknown
abbrev pub did_record : ℕ → Option (List ℕ) → List ℕ
did_record id None = []
did_record id (Some value) = bytes_16 id ++ value

abbrev pub record_of : State → ℕ → List ℕ
record_of s id = did_record id (dids.value_of s.dids id)

abbrev pub data_records : State → List ℕ → List ℕ
data_records s ids = 0x62 ∷ flat_map (record_of s) ids

abbrev pub data_reply : State → List ℕ → List ℕ
data_reply s p = data_records s (ids p)

abbrev pub result_record : RoutineState → List ℕ → List ℕ
result_record Idle result = []
result_record (Running left) result = 0x01 ∷ []
result_record Done result = 0x00 ∷ result

abbrev pub routine_results : Option Routine → List ℕ
routine_results None = []
routine_results (Some row) = result_record row.state row.result.items

abbrev pub routine_of : State → List ℕ → Option Routine
routine_of s p = routines.routine_of s.routines (number_16 p 2)

abbrev pub routine_reply : State → ℕ → ℕ → List ℕ
routine_reply s n id = 0x71 ∷ n ∷ bytes_16 id
    ++ (if n == 0x03 then routine_results (routines.routine_of s.routines id) else [])

-- the positive reply of a service, by the state before
abbrev pub positive_reply : State → Service → List ℕ → List ℕ
positive_reply s DiagnosticSessionControl p =
    0x50 ∷ sub p ∷ bytes_16 s.values.p2_ms ++ bytes_16 s.values.p2_star_10ms
positive_reply s EcuReset p = 0x51 ∷ sub p ∷ []
positive_reply s ClearDiagnosticInformation p = 0x54 ∷ []
positive_reply s ReadDtcInformation p = dtc_reply s p
positive_reply s ReadDataByIdentifier p = data_reply s p
positive_reply s SecurityAccess p =
    0x67 ∷ sub p ∷ (if is_seed_request s p then security.seed_given s.security (sub p) else [])
positive_reply s WriteDataByIdentifier p = 0x6E ∷ bytes_16 (number_16 p 1)
positive_reply s RoutineControl p = routine_reply s (sub p) (number_16 p 2)
positive_reply s TesterPresent p = 0x7E ∷ 0x00 ∷ []
positive_reply s ControlDtcSetting p = 0xC5 ∷ sub p ∷ []

-- ---- the checks

-- a condition, and the negative response code that it gives
abbrev pub Check : Type 0
Check = Bool × Nrc

-- the checks that every service has, by its row
abbrev pub common_checks : State → ℕ → ServiceRow → List ℕ → List Check
common_checks s who row p =
    (row.needs_extended && not (is_holder s who), ServiceNotSupportedInActiveSession)
    ∷ (is_held_by_another s who && is_busy row.busy p, BusyRepeatRequest)
    ∷ (nat_lt (length p) row.shortest, IncorrectMessageLengthOrInvalidFormat)
    ∷ (not (is_sub_function s row.sub_functions (sub p)), SubFunctionNotSupported)
    ∷ (not (has_length s row.lengths p), IncorrectMessageLengthOrInvalidFormat)
    ∷ []

-- whether the tester may read by a rule; an unknown identifier has none
abbrev pub allows_reading : State → ℕ → Option DidRule → Bool
allows_reading s who None = true
allows_reading s who (Some rule) = is_open s who rule.read_level

abbrev pub may_read : State → ℕ → ℕ → Bool
may_read s who id = allows_reading s who (dids.rule_of s.dids id)

abbrev pub is_writable : Option DidRule → Bool
is_writable None = false
is_writable (Some rule) = rule.write

abbrev pub write_level : Option DidRule → ℕ
write_level None = 0
write_level (Some rule) = rule.write_level

abbrev pub write_checks : State → ℕ → List ℕ → List Check
write_checks s who p =
    let id = number_16 p 1 in
    (not (is_writable (dids.rule_of s.dids id)), RequestOutOfRange)
    ∷ (not (is_open s who (write_level (dids.rule_of s.dids id))), SecurityAccessDenied)
    ∷ (
      not (security.option_is (option_map (λ v. length v) (dids.value_of s.dids id))
          (length (drop 3 p))),
      IncorrectMessageLengthOrInvalidFormat,
    )
    ∷ []

abbrev pub security_checks : State → ℕ → List ℕ → List Check
security_checks s who p =
    let is_key = not (is_seed_request s p) in
    (security.is_delayed s.security who, RequiredTimeDelayNotExpired)
    ∷ (
      is_key && is_none (security.outstanding_row s.security.outstanding (key_level p)),
      RequestSequenceError,
    )
    ∷ (
      is_key && not (security.is_right_key s.security (key_level p) (drop 2 p)),
      if security.is_last_attempt s.security who then ExceedNumberOfAttempts else InvalidKey,
    )
    ∷ []

abbrev pub state_is_idle : RoutineState → Bool
state_is_idle Idle = true
state_is_idle _ = false

abbrev pub state_is_running : RoutineState → Bool
state_is_running (Running left) = true
state_is_running _ = false

abbrev pub routine_checks_of : State → ℕ → ℕ → Option Routine → List Check
routine_checks_of s who n None = (true, RequestOutOfRange) ∷ []
routine_checks_of s who n (Some row) =
    (not (is_open s who row.level), SecurityAccessDenied)
    ∷ (not (n == 0x01) && state_is_idle row.state, RequestSequenceError)
    ∷ ((n == 0x01) && state_is_running row.state, ConditionsNotCorrect)
    ∷ []

abbrev pub clear_checks : State → List ℕ → List Check
clear_checks s p = (not (dtcs.is_known_group s.dtcs (number_24 p 1)), RequestOutOfRange) ∷ []

abbrev pub read_checks : State → ℕ → List ℕ → List Check
read_checks s who p =
    (not (list_any (knows s) (ids p)), RequestOutOfRange)
    ∷ (not (list_all (may_read s who) (ids p)), SecurityAccessDenied)
    ∷ (nat_lt 65535 (length (data_reply s p)), ResponseTooLong)
    ∷ []

abbrev pub setting_checks : List ℕ → List Check
setting_checks p = ((length p == 5) && not (number_24 p 2 == 0xFFFFFF), RequestOutOfRange) ∷ []

abbrev pub routine_checks : State → ℕ → List ℕ → List Check
routine_checks s who p = routine_checks_of s who (sub p) (routine_of s p)

-- the checks of one service alone
abbrev pub own_checks : State → ℕ → Service → List ℕ → List Check
own_checks s who ClearDiagnosticInformation p = clear_checks s p
own_checks s who ReadDataByIdentifier p = read_checks s who p
own_checks s who SecurityAccess p = security_checks s who p
own_checks s who WriteDataByIdentifier p = write_checks s who p
own_checks s who RoutineControl p = routine_checks s who p
own_checks s who ControlDtcSetting p = setting_checks p
own_checks s who DiagnosticSessionControl p = []
own_checks s who EcuReset p = []
own_checks s who ReadDtcInformation p = []
own_checks s who TesterPresent p = []

abbrev pub checks : State → ℕ → Service → List ℕ → List Check
checks s who service p = common_checks s who (row service) p ++ own_checks s who service p

-- ---- effects

abbrev pub security_effect : State → ℕ → List ℕ → State
security_effect s who p =
    if is_seed_request s p then record s { security = security.after_seed s.security who (sub p) }
    else record s { security = security.after_key s.security who (key_level p) (drop 2 p) }

abbrev pub routine_effect : State → ℕ → ℕ → State
routine_effect s id n =
    if n == 0x01 then record s { routines = routines.started s.routines id }
    else if n == 0x02 then record s { routines = routines.stopped s.routines id }
    else s

-- what a request that passes all checks does; session control goes to the session that its sub-function names
abbrev pub effect : State → ℕ → Service → List ℕ → State
effect s who DiagnosticSessionControl p = entered s who (sub p)
effect s who EcuReset p = session_ended s
effect s who ClearDiagnosticInformation p =
    record s { dtcs = dtcs.cleared s.dtcs (number_24 p 1) }
effect s who SecurityAccess p = security_effect s who p
effect s who WriteDataByIdentifier p =
    record s { dids = dids.with_value s.dids (number_16 p 1) (drop 3 p) }
effect s who RoutineControl p = routine_effect s (number_16 p 2) (sub p)
effect s who ControlDtcSetting p = record s { dtc_setting_on = sub p == 0x01 }
effect s who ReadDtcInformation p = s
effect s who ReadDataByIdentifier p = s
effect s who TesterPresent p = s

-- the effect that is told of a request that passes all checks: none of a service that changes nothing
abbrev pub own_effect : Service → Effect
own_effect service = if (row service).changes then Serve service else Nothing

-- and of one that is refused: none, but for a wrong key
abbrev pub refused_effect : Nrc → Effect
refused_effect nrc = if is_of_wrong_key nrc then CountWrongKey else Nothing

abbrev pub enter_of : Option AnswerRow → ℕ
enter_of None = 0
enter_of (Some row) = row.enter

-- the state once the row at an index has answered: its next template moves on, and the tester goes to the row's session
abbrev pub answered : State → ℕ → ℕ → State
answered s who index = entered (record s { answers = answers.rows_moved_on s.answers index }) who
    (enter_of (slice_get s.answers index))

-- the state after an effect
abbrev pub done : State → ℕ → List ℕ → Effect → State
done s who p Nothing = s
done s who p (Serve service) = effect s who service p
done s who p CountWrongKey = record s { security = security.after_wrong_key s.security who }
done s who p (Answer index) = answered s who index

-- ---- what the services answer

-- what a request does, and the answer to it: the positive reply or a negative response code
pub record Outcome : Type 0 where
  pub effect : Effect
  pub answer : Result (List ℕ) Nrc

abbrev pub outcome_of : State → Service → List ℕ → Option Nrc → Outcome
outcome_of s service p (Some nrc) = record { effect = refused_effect nrc; answer = Err nrc }
outcome_of s service p None =
    record { effect = own_effect service; answer = Ok (positive_reply s service p) }

abbrev pub served : State → ℕ → Option Service → List ℕ → Outcome
served s who None p = record { effect = Nothing; answer = Err ServiceNotSupported }
served s who (Some service) p = outcome_of s service p (first_holding (checks s who service p))

-- whether the request asks that no positive reply be sent
abbrev pub asks_for_silence : ServiceRow → List ℕ → Bool
asks_for_silence row p = has_sub_function row.sub_functions && has_bit_7 (slice_index p 1)

abbrev pub is_suppressed : Option Service → List ℕ → Bool
is_suppressed None p = false
is_suppressed (Some service) p = asks_for_silence (row service) p

-- what is sent where a negative response code is the answer: not each of them on a functional request
abbrev pub sent_negative : Bool → ℕ → Nrc → Option (List ℕ)
sent_negative functional sid nrc =
    if functional && is_silent nrc then None else Some (0x7F ∷ sid ∷ nrc_code nrc ∷ [])

-- what is sent where the positive reply is: none where the request asks for silence
abbrev pub sent_positive : State → Service → List ℕ → Option (List ℕ)
sent_positive s service p =
    if asks_for_silence (row service) p then None else Some (positive_reply s service p)

-- what is sent of an answer
abbrev pub sent : Bool → List ℕ → Result (List ℕ) Nrc → Option (List ℕ)
sent functional p (Ok reply) = if is_suppressed (service_of (sid p)) p then None else Some reply
sent functional p (Err nrc) = sent_negative functional (sid p) nrc

abbrev pub outcome : State → ℕ → List ℕ → Outcome
outcome s who p = served s who (service_of (sid p)) p

-- the services' own reply, or none
abbrev pub own_reply : State → ℕ → Bool → List ℕ → Option (List ℕ)
own_reply s who functional p = sent functional p (outcome s who p).answer

-- ---- the rows of answers, which are looked at first

abbrev pub access_of : State → ℕ → Access
access_of s who = record {
  session = session_of s who;
  unlocked = if is_holder s who then s.security.unlocked else None;
}

-- the row that decides, the first that applies, and its index
abbrev pub rule_for : State → ℕ → List ℕ → Option AnswerRow
rule_for s who p = answers.row_for s.answers (access_of s who) p

abbrev pub index_for : State → ℕ → List ℕ → Option ℕ
index_for s who p = answers.index_for s.answers (access_of s who) p

-- whether it answers, and doesn't leave that to the services
abbrev pub rule_answers : Option AnswerRow → Bool
rule_answers None = false
rule_answers (Some row) = answers.has_reply row

-- whether the row would enter a session that another tester holds
abbrev pub is_barred : State → ℕ → AnswerRow → Bool
is_barred s who row = nat_lt 1 row.enter && is_held_by_another s who

abbrev pub reply_of_row : State → ℕ → List ℕ → AnswerRow → Option (List ℕ)
reply_of_row s who p row =
    if is_barred s who row then Some (0x7F ∷ sid p ∷ nrc_code BusyRepeatRequest ∷ [])
    else answers.row_reply row p

-- the template from which the row answers, where it does, and doesn't leave that to the services
abbrev pub template_by : State → ℕ → Option AnswerRow → Option (List TemplateItem)
template_by s who None = None
template_by s who (Some row) =
    if answers.has_reply row && not (is_barred s who row) then Some (answers.template_now row) else None

abbrev pub template_for : State → ℕ → List ℕ → Option (List TemplateItem)
template_for s who p = template_by s who (rule_for s who p)

abbrev pub reply_by : State → ℕ → Bool → List ℕ → Option AnswerRow → Option (List ℕ)
reply_by s who functional p None = own_reply s who functional p
reply_by s who functional p (Some row) =
    if answers.has_reply row then reply_of_row s who p row else own_reply s who functional p

-- what a request does by the row at an index
abbrev pub effect_by : State → ℕ → List ℕ → ℕ → AnswerRow → Effect
effect_by s who p index row =
    if answers.has_reply row then (if is_barred s who row then Nothing else Answer index)
    else (outcome s who p).effect

abbrev pub decision_by : State → ℕ → List ℕ → Option ℕ → Option AnswerRow → Decision
decision_by s who p index None = record { effect = (outcome s who p).effect; after_ms = 0 }
decision_by s who p index (Some row) =
    record { effect = effect_by s who p (unwrap_or index 0) row; after_ms = row.after_ms }

-- ---- the response

-- what a request does, and how long after it its answer goes
abbrev pub decision : State → ℕ → List ℕ → Decision
decision s who p = decision_by s who p (index_for s who p) (rule_for s who p)

abbrev pub delay : State → ℕ → List ℕ → ℕ
delay s who p = (decision s who p).after_ms

-- whether an answer may go later than at once: a row says so
abbrev pub may_delay : State → Bool
may_delay s = answers.any_late s.answers

-- after a request of the holder S3 lasts for the whole time from its answer on, where it doesn't last longer already
abbrev pub kept_alive : State → ℕ → ℕ → State
kept_alive s who after =
    if is_holder s who then record s { s3_left = max s.s3_left (s.values.s3_ms + after) } else s

-- the state after a request, which is the same for a functional and a physical one
abbrev pub after_request : State → ℕ → List ℕ → State
after_request s who p =
    let d = decision s who p in kept_alive (done s who p d.effect) who d.after_ms

-- the reply that is sent, or none
abbrev pub reply : State → ℕ → Bool → List ℕ → Option (List ℕ)
reply s who functional p = reply_by s who functional p (rule_for s who p)

-- the negative response code of what security access is answered, told by the table of levels
abbrev pub seed_refusal : SeedAnswer → Option Nrc
seed_refusal seeds.Delayed = Some RequiredTimeDelayNotExpired
seed_refusal (seeds.Seed seed) = None

abbrev pub key_refusal : KeyAnswer → Option Nrc
key_refusal Delayed = Some RequiredTimeDelayNotExpired
key_refusal NoSeed = Some RequestSequenceError
key_refusal Right = None
key_refusal Wrong = Some InvalidKey
key_refusal TooMany = Some ExceedNumberOfAttempts
