-- A setup keeps to its bounds.
use Rattle.std.proofs.Common.{◌≡◌, ℕ, ◌≤◌, ◌||◌, ◌&&◌, ◌==◌, ◌%◌, Bool, true, false, not, nat_le, List, [], ◌∷◌, length, refl, arith, Option, Some, None, slice_index_or, IsTrue, is_some, unwrap_or, if◌then◌else◌}
use Rattle.std.specs.List.{All, list_any, list_all, sum_by}
use Rattle.std.proofs.lemmas.Bool.{eqb-true, eqb-false, leb-true, and_parts, or_parts, not-false}
use Rattle.std.proofs.lemmas.List.Elements.{All-cons}
use Rattle.std.proofs.lemmas.List.Sums.{AllPass-from_list_all}
use Rattle.diag_setup.specs.declared.raw.RawSetup.{RawSetup}
use Rattle.diag_setup.specs.declared.raw.RawTester.{RawTester}
use Rattle.diag_setup.specs.declared.raw.RawDtc.{RawDtc}
use Rattle.diag_setup.specs.declared.raw.RawKeyRow.{RawKeyRow}
use Rattle.diag_setup.specs.declared.raw.RawLevel.{RawLevel}
use Rattle.diag_setup.specs.declared.raw.TemplateItem.{TemplateItem}
use Rattle.diag_setup.specs.Rows.{is_between, has_length, has_key, have_one_length, is_rising}
use Rattle.diag_setup.specs.Setup.{level_sub, seed_of, key_of, is_name_byte, is_can_id, is_id_by, is_own_id, is_st_min, is_tx_dl, faults, is_in_range, times_are_in_range, link_is_in_range, server_is_in_range, testers_are_in_range, dids_are_in_range, dtcs_are_in_range, routines_are_in_range, levels_are_in_range, tester_is_in_range, did_is_in_range, dtc_is_in_range, routine_is_in_range, on_done_is_in_range, key_row_is_in_range, level_is_in_range, has_no_rows, is_known_level, did_levels_are_known, routine_level_is_known, IsSetup, did_id, dtc_code, routine_id, answers_are_in_range, answer_is_in_range, reply_is_in_range, enter_is_in_range, template_is_in_range, item_is_in_range, items_or_none, template_count, is_in_time, latest_answer_ms, answer_level_is_known, ignored_are_in_range}
use Rattle.diag_setup.specs.Fits.{IdFits, TesterFits, DidFits, DtcFits, OnDoneFits, RoutineFits, KeyRowFits, LevelFits, AnswerFits, NumbersFit}
use Rattle.diag_setup.proofs.SetupLemmas.{NoneHold, none_hold}

and3 : (a b c : Bool) → (a && b && c) ≡ true → (a ≡ true) × (b ≡ true) × (c ≡ true)
and3 a b c h =
    let last = and_parts (a && b) c h in
    let front = and_parts a b last.0 in
    (front.0, front.1, last.1)

and4 : (a b c d : Bool) → (a && b && c && d) ≡ true → (a ≡ true) × (b ≡ true) × (c ≡ true) × (d ≡ true)
and4 a b c d h =
    let last = and_parts (a && b && c) d h in
    let front = and3 a b c last.0 in
    (front.0, front.1, front.2, last.1)

and5 : (a b c d e : Bool) → (a && b && c && d && e) ≡ true → (a ≡ true) × (b ≡ true) × (c ≡ true) × (d ≡ true) × (e ≡ true)
and5 a b c d e h =
    let last = and_parts (a && b && c && d) e h in
    let front = and4 a b c d last.0 in
    (front.0, front.1, front.2, front.3, last.1)

and6 : (a b c d e f : Bool) → (a && b && c && d && e && f) ≡ true → (a ≡ true) × (b ≡ true) × (c ≡ true) × (d ≡ true) × (e ≡ true) × (f ≡ true)
and6 a b c d e f h =
    let last = and_parts (a && b && c && d && e) f h in
    let front = and5 a b c d e last.0 in
    (front.0, front.1, front.2, front.3, front.4, last.1)

and7 : (a b c d e f g : Bool) → (a && b && c && d && e && f && g) ≡ true
    → (a ≡ true) × (b ≡ true) × (c ≡ true) × (d ≡ true) × (e ≡ true) × (f ≡ true) × (g ≡ true)
and7 a b c d e f g h =
    let last = and_parts (a && b && c && d && e && f) g h in
    let front = and6 a b c d e f last.0 in
    (front.0, front.1, front.2, front.3, front.4, front.5, last.1)

and8 : (a b c d e f g i : Bool) → (a && b && c && d && e && f && g && i) ≡ true
    → (a ≡ true) × (b ≡ true) × (c ≡ true) × (d ≡ true) × (e ≡ true) × (f ≡ true) × (g ≡ true) × (i ≡ true)
and8 a b c d e f g i h =
    let last = and_parts (a && b && c && d && e && f && g) i h in
    let front = and7 a b c d e f g last.0 in
    (front.0, front.1, front.2, front.3, front.4, front.5, front.6, last.1)

and9 : (a b c d e f g i j : Bool) → (a && b && c && d && e && f && g && i && j) ≡ true
    → (a ≡ true) × (b ≡ true) × (c ≡ true) × (d ≡ true) × (e ≡ true) × (f ≡ true) × (g ≡ true) × (i ≡ true) × (j ≡ true)
and9 a b c d e f g i j h =
    let last = and_parts (a && b && c && d && e && f && g && i) j h in
    let front = and8 a b c d e f g i last.0 in
    (front.0, front.1, front.2, front.3, front.4, front.5, front.6, front.7, last.1)

and10 : (a b c d e f g i j k : Bool) → (a && b && c && d && e && f && g && i && j && k) ≡ true
    → (a ≡ true) × (b ≡ true) × (c ≡ true) × (d ≡ true) × (e ≡ true) × (f ≡ true) × (g ≡ true) × (i ≡ true) × (j ≡ true) × (k ≡ true)
and10 a b c d e f g i j k h =
    let last = and_parts (a && b && c && d && e && f && g && i && j) k h in
    let front = and9 a b c d e f g i j last.0 in
    (front.0, front.1, front.2, front.3, front.4, front.5, front.6, front.7, front.8, last.1)

between : (low high n : ℕ) → is_between low high n ≡ true → (low ≤ n) × (n ≤ high)
between low high n h =
    let parts = and_parts (nat_le low n) (nat_le n high) h in
    (leb-true low n parts.0, leb-true n high parts.1)

st_min-fits : (st : ℕ) → is_st_min st ≡ true → st ≤ 0xFF
st_min-fits st h =
    elim (nat_le st 127) as (λ b. nat_le st 127 ≡ b → (b || is_between 241 249 st) ≡ true → st ≤ 0xFF) [
      | true ↦ λ e given. let low : st ≤ 127 = leb-true st 127 e in omega arith
      | false ↦ λ e given. let high : st ≤ 249 = (between 241 249 st given).1 in omega arith
    ] refl h

abbrev Parts : RawSetup → Type 0
Parts raw = (times_are_in_range raw ≡ true) × (link_is_in_range raw ≡ true) × (server_is_in_range raw ≡ true)
    × (testers_are_in_range raw.testers ≡ true) × (dids_are_in_range raw.dids ≡ true) × (dtcs_are_in_range raw.dtcs ≡ true)
    × (routines_are_in_range raw.routines ≡ true) × (levels_are_in_range raw.levels ≡ true) × (answers_are_in_range raw ≡ true)
    × (ignored_are_in_range raw.ignore ≡ true)

-- where the values are in range
ranged_parts : (raw : RawSetup) → is_in_range raw ≡ true → Parts raw
ranged_parts raw h =
    and10 (times_are_in_range raw) (link_is_in_range raw) (server_is_in_range raw) (testers_are_in_range raw.testers) (dids_are_in_range raw.dids)
    (dtcs_are_in_range raw.dtcs) (routines_are_in_range raw.routines) (levels_are_in_range raw.levels) (answers_are_in_range raw) (ignored_are_in_range raw.ignore) h

parts_of : (raw : RawSetup) → IsSetup raw → Parts raw
parts_of raw h =
    let none : NoneHold (faults raw) = none_hold (faults raw) h.0 in
    ranged_parts raw (not-false (is_in_range raw) none.0)

abbrev LinkParts : RawSetup → Type 0
LinkParts raw = (nat_le raw.block_size 0xFF ≡ true) × (is_st_min raw.st_min ≡ true) × (is_between 8 0xFFFF raw.max_request ≡ true)
    × (nat_le raw.pad_byte 0xFF ≡ true) × (is_tx_dl raw.tx_dl ≡ true) × (nat_le raw.fd_flags 15 ≡ true) × (is_can_id raw.functional ≡ true)

link_parts : (raw : RawSetup) → link_is_in_range raw ≡ true → LinkParts raw
link_parts raw h =
    and7 (nat_le raw.block_size 0xFF) (is_st_min raw.st_min) (is_between 8 0xFFFF raw.max_request) (nat_le raw.pad_byte 0xFF) (is_tx_dl raw.tx_dl)
    (nat_le raw.fd_flags 15) (is_can_id raw.functional) h

pub numbers_fit : (raw : RawSetup) → IsSetup raw → NumbersFit raw
numbers_fit raw h =
    let parts = parts_of raw h in
    let times = and5 (nat_le raw.p2_ms 0xFFFF) (nat_le raw.p2_star_10ms 0xFFFF) (is_between 1 600000 raw.s3_ms) (is_between 1 60000 raw.n_bs_ms)
    (is_between 1 60000 raw.n_cr_ms) parts.0 in
    let link = link_parts raw parts.1 in
    let server = and3 (nat_le raw.availability 0xFF) (is_between 1 0xFF raw.attempts) (is_between 1 600000 raw.delay_ms) parts.2 in
    record {
      p2_ms = leb-true raw.p2_ms 0xFFFF times.0;
      p2_star_10ms = leb-true raw.p2_star_10ms 0xFFFF times.1;
      n_bs_some = (between 1 60000 raw.n_bs_ms times.3).0;
      n_bs_ms = (between 1 60000 raw.n_bs_ms times.3).1;
      n_cr_some = (between 1 60000 raw.n_cr_ms times.4).0;
      n_cr_ms = (between 1 60000 raw.n_cr_ms times.4).1;
      block_size = leb-true raw.block_size 0xFF link.0;
      st_min = st_min-fits raw.st_min link.1;
      max_request = (between 8 0xFFFF raw.max_request link.2).1;
      pad_byte = leb-true raw.pad_byte 0xFF link.3;
      tx_dl = link.4;
      fd_flags = leb-true raw.fd_flags 15 link.5;
      functional = leb-true raw.functional 0x7FF link.6;
      availability = leb-true raw.availability 0xFF server.0;
      attempts_some = (between 1 0xFF raw.attempts server.1).0;
      attempts = (between 1 0xFF raw.attempts server.1).1;
      delay_ms = (between 1 600000 raw.delay_ms server.2).0;
      s3_ms = (between 1 600000 raw.s3_ms times.2).1;
    }

-- rows that are in range are so many at most, and each is
few_rows : {X : Type 0} (test : X → Bool) (most : ℕ) (rows : List X) → (nat_le (length rows) most && list_all test rows) ≡ true → length rows ≤ most
few_rows test most rows h = leb-true (length rows) most (and_parts (nat_le (length rows) most) (list_all test rows) h).0

all_rows : {X : Type 0} (test : X → Bool) (most : ℕ) (rows : List X) → (nat_le (length rows) most && list_all test rows) ≡ true → list_all test rows ≡ true
all_rows test most rows h = (and_parts (nat_le (length rows) most) (list_all test rows) h).1

pub testers_few : (raw : RawSetup) → IsSetup raw → length raw.testers ≤ 8
testers_few raw h = few_rows tester_is_in_range 8 raw.testers (parts_of raw h).3

pub dids_few : (raw : RawSetup) → IsSetup raw → length raw.dids ≤ 1024
dids_few raw h = few_rows did_is_in_range 1024 raw.dids (parts_of raw h).4

pub dtcs_few : (raw : RawSetup) → IsSetup raw → length raw.dtcs ≤ 4096
dtcs_few raw h = few_rows dtc_is_in_range 4096 raw.dtcs (parts_of raw h).5

pub routines_few : (raw : RawSetup) → IsSetup raw → length raw.routines ≤ 256
routines_few raw h = few_rows routine_is_in_range 256 raw.routines (parts_of raw h).6

pub levels_few : (raw : RawSetup) → IsSetup raw → length raw.levels ≤ 4
levels_few raw h = few_rows level_is_in_range 4 raw.levels (parts_of raw h).7

-- a test that each row passes, and what it says of a row
each : {X : Type 0} (test : X → Bool) (P : X → Type 0) → ((x : X) → test x ≡ true → P x) → (xs : List X) → list_all test xs ≡ true → All P xs
each test P says xs h = let all = AllPass-from_list_all test xs h in λ k d below. says (slice_index_or xs k d) (all k d below)

id-fits : (wide : Bool) (id : ℕ) → is_id_by wide id ≡ true → IdFits wide id
id-fits true id h = leb-true id 0x1FFFFFFF h
id-fits false id h = leb-true id 0x7FF h

functional-fits : (wide : Bool) (own : Option ℕ) (shared : ℕ) → is_own_id wide own ≡ true → shared ≤ 0x7FF
    → IdFits wide (unwrap_or own (if wide then 0x18DB33F1 else shared))
functional-fits wide (Some id) shared h fits = id-fits wide id h
functional-fits true None shared h fits = leb-true 0x18DB33F1 0x1FFFFFFF refl
functional-fits false None shared h fits = fits

tester-fits : (tester : RawTester) → tester_is_in_range tester ≡ true → TesterFits tester
tester-fits tester h =
    let parts = and5 (has_length 1 16 tester.name) (list_all is_name_byte tester.name) (is_id_by tester.extended tester.request)
    (is_id_by tester.extended tester.response) (is_own_id tester.extended tester.functional) h in
    record {
      request = id-fits tester.extended tester.request parts.2;
      response = id-fits tester.extended tester.response parts.3;
      functional = λ shared fits. functional-fits tester.extended tester.functional shared parts.4 fits;
    }

pub testers_fit : (raw : RawSetup) → IsSetup raw → All TesterFits raw.testers
testers_fit raw h = each tester_is_in_range TesterFits tester-fits raw.testers (all_rows tester_is_in_range 8 raw.testers (parts_of raw h).3)

-- the same of a setup whose values are in range
pub ranged_testers : (raw : RawSetup) → is_in_range raw ≡ true → All TesterFits raw.testers
ranged_testers raw h =
    each tester_is_in_range TesterFits tester-fits raw.testers (all_rows tester_is_in_range 8 raw.testers (ranged_parts raw h).3)

pub ranged_functional : (raw : RawSetup) → is_in_range raw ≡ true → raw.functional ≤ 0x7FF
ranged_functional raw h = leb-true raw.functional 0x7FF (link_parts raw (ranged_parts raw h).1).6

dtc-fits : (row : RawDtc) → dtc_is_in_range row ≡ true → DtcFits row
dtc-fits row h =
    let parts = and_parts (nat_le row.code 0xFFFFFE) (nat_le row.status 0xFF) h in
    record { code = leb-true row.code 0xFFFFFE parts.0; status = leb-true row.status 0xFF parts.1 }

pub dtcs_fit : (raw : RawSetup) → IsSetup raw → All DtcFits raw.dtcs
dtcs_fit raw h = each dtc_is_in_range DtcFits dtc-fits raw.dtcs (all_rows dtc_is_in_range 4096 raw.dtcs (parts_of raw h).5)

level_in_list-fits : (levels : List RawLevel) → list_all level_is_in_range levels ≡ true → (n : ℕ) → has_key level_sub levels n ≡ true → n ≤ 65
level_in_list-fits [] all n h = cc
level_in_list-fits (level ∷ levels) all n h =
    let parts = and_parts (level_is_in_range level) (list_all level_is_in_range levels) all in
    let first = and6 (is_between 1 65 level.request_seed) (level.request_seed % 2 == 1) (nat_le (length level.rows) 64)
    (list_all key_row_is_in_range level.rows) (have_one_length seed_of level.rows) (have_one_length key_of level.rows) parts.0 in
    let sub : level.request_seed ≤ 65 = (between 1 65 level.request_seed first.0).1 in
    let rest = level_in_list-fits levels parts.1 n in
    elim (level.request_seed == n) as (λ b. (level.request_seed == n) ≡ b → (b || has_key level_sub levels n) ≡ true → n ≤ 65) [
      | true ↦ λ e given. let same = eqb-true level.request_seed n e in omega arith
      | false ↦ λ e given. rest given
    ] refl h

known_level-fits : (levels : List RawLevel) → list_all level_is_in_range levels ≡ true → (n : ℕ) → is_known_level levels n ≡ true → n ≤ 65
known_level-fits levels all n h =
    let found = level_in_list-fits levels all n in
    elim (n == 0) as (λ b. (n == 0) ≡ b → (b || has_key level_sub levels n) ≡ true → n ≤ 65) [
      | true ↦ λ e given. let zero = eqb-true n 0 e in omega arith
      | false ↦ λ e given. found given
    ] refl h

levels-in_range : (raw : RawSetup) → IsSetup raw → list_all level_is_in_range raw.levels ≡ true
levels-in_range raw h = all_rows level_is_in_range 4 raw.levels (parts_of raw h).7

abbrev KnownLevels : RawSetup → Type 0
KnownLevels raw = (list_all (did_levels_are_known raw.levels) raw.dids ≡ true) × (list_all (routine_level_is_known raw.levels) raw.routines ≡ true)
    × (list_all (answer_level_is_known raw.levels) raw.answers ≡ true)

known_levels : (raw : RawSetup) → IsSetup raw → KnownLevels raw
known_levels raw h =
    let none : NoneHold (faults raw) = none_hold (faults raw) h.0 in
    and3 (list_all (did_levels_are_known raw.levels) raw.dids) (list_all (routine_level_is_known raw.levels) raw.routines)
    (list_all (answer_level_is_known raw.levels) raw.answers) (not-false (list_all (did_levels_are_known raw.levels) raw.dids
    && list_all (routine_level_is_known raw.levels) raw.routines && list_all (answer_level_is_known raw.levels) raw.answers) none.1.1.1.1.0)

pub dids_fit : (raw : RawSetup) → IsSetup raw → All DidFits raw.dids
dids_fit raw h =
    let in_range = AllPass-from_list_all did_is_in_range raw.dids (all_rows did_is_in_range 1024 raw.dids (parts_of raw h).4) in
    let known = AllPass-from_list_all (did_levels_are_known raw.levels) raw.dids (known_levels raw h).0 in
    λ k d below.
    let did = slice_index_or raw.dids k d in
    let sizes = and_parts (nat_le did.id 0xFFFF) (has_length 1 255 did.value) (in_range k d below) in
    let levels = and_parts (is_known_level raw.levels did.read_level) (is_known_level raw.levels did.write_level) (known k d below) in
    record {
      id = leb-true did.id 0xFFFF sizes.0;
      value = (between 1 255 (length did.value) sizes.1).1;
      read_level = known_level-fits raw.levels (levels-in_range raw h) did.read_level levels.0;
      write_level = known_level-fits raw.levels (levels-in_range raw h) did.write_level levels.1;
    }

on_done-fits : (on_done : Option RawDtc) → on_done_is_in_range on_done ≡ true → OnDoneFits on_done
on_done-fits None h = tt
on_done-fits (Some row) h = leb-true row.status 0xFF h

pub routines_fit : (raw : RawSetup) → IsSetup raw → All RoutineFits raw.routines
routines_fit raw h =
    let in_range = AllPass-from_list_all routine_is_in_range raw.routines (all_rows routine_is_in_range 256 raw.routines (parts_of raw h).6) in
    let known = AllPass-from_list_all (routine_level_is_known raw.levels) raw.routines (known_levels raw h).1 in
    λ k d below.
    let routine = slice_index_or raw.routines k d in
    let parts = and4 (nat_le routine.id 0xFFFF) (is_between 1 600000 routine.time_ms) (nat_le (length routine.result) 32)
    (on_done_is_in_range routine.on_done) (in_range k d below) in
    record {
      id = leb-true routine.id 0xFFFF parts.0;
      result = leb-true (length routine.result) 32 parts.2;
      level = known_level-fits raw.levels (levels-in_range raw h) routine.level (known k d below);
      on_done = on_done-fits routine.on_done parts.3;
    }

key_row-fits : (row : RawKeyRow) → key_row_is_in_range row ≡ true → KeyRowFits row
key_row-fits row h =
    let parts = and3 (has_length 1 255 row.seed) (list_any (λ b. not (b == 0)) row.seed) (has_length 1 255 row.key) h in
    record { seed = (between 1 255 (length row.seed) parts.0).1; key = (between 1 255 (length row.key) parts.2).1 }

some_rows : (levels : List RawLevel) → list_any has_no_rows levels ≡ false → All (λ level. 1 ≤ length level.rows) levels
some_rows [] h = λ k d below. absurd (omega arith)
some_rows (level ∷ levels) h =
    let parts = or_parts (has_no_rows level) (list_any has_no_rows levels) h in
    let first : 1 ≤ length level.rows = let not_zero = eqb-false (length level.rows) 0 parts.0 in grind arith in
    All-cons (λ l. 1 ≤ length l.rows) level levels first (some_rows levels parts.1)

pub levels_fit : (raw : RawSetup) → IsSetup raw → All LevelFits raw.levels
levels_fit raw h =
    let none : NoneHold (faults raw) = none_hold (faults raw) h.0 in
    let in_range = AllPass-from_list_all level_is_in_range raw.levels (levels-in_range raw h) in
    let some = some_rows raw.levels (or_parts (length raw.testers == 0) (list_any has_no_rows raw.levels) none.1.0).1 in
    λ k d below.
    let level = slice_index_or raw.levels k d in
    let parts = and6 (is_between 1 65 level.request_seed) (level.request_seed % 2 == 1) (nat_le (length level.rows) 64)
    (list_all key_row_is_in_range level.rows) (have_one_length seed_of level.rows) (have_one_length key_of level.rows) (in_range k d below) in
    record {
      request_seed = (between 1 65 level.request_seed parts.0).1;
      some = some k d below;
      few = leb-true (length level.rows) 64 parts.2;
      rows = each key_row_is_in_range KeyRowFits key_row-fits level.rows parts.3;
    }

answer_parts : (raw : RawSetup) → IsSetup raw → (nat_le (length raw.answers) 1024 ≡ true) × (list_all answer_is_in_range raw.answers ≡ true)
    × (list_all (is_in_time (latest_answer_ms raw.p2_ms raw.p2_star_10ms)) raw.answers ≡ true) × (nat_le (sum_by template_count raw.answers) 65536 ≡ true)
answer_parts raw h =
    and4 (nat_le (length raw.answers) 1024) (list_all answer_is_in_range raw.answers) (list_all (is_in_time (latest_answer_ms raw.p2_ms raw.p2_star_10ms)) raw.answers)
    (nat_le (sum_by template_count raw.answers) 65536) (parts_of raw h).8

pub answers_few : (raw : RawSetup) → IsSetup raw → length raw.answers ≤ 1024
answers_few raw h = leb-true (length raw.answers) 1024 (answer_parts raw h).0

template-fits : (n : ℕ) (template : List TemplateItem) → template_is_in_range n template ≡ true → length template ≤ 4095
template-fits n template h =
    leb-true (length template) 4095 (and_parts (nat_le (length template) 4095) (list_all (item_is_in_range n) template) h).0

abbrev ReplyFits : List (List TemplateItem) → Type 0
ReplyFits templates = (length templates ≤ 4096) × All (λ template. length template ≤ 4095) templates

reply-fits : (n : ℕ) (reply : Option (List (List TemplateItem))) → reply_is_in_range n reply ≡ true → ReplyFits (items_or_none reply)
reply-fits n None h = (omega arith, λ k d below. absurd (omega arith))
reply-fits n (Some templates) h =
    let parts = and_parts (has_length 1 4096 templates) (list_all (template_is_in_range n) templates) h in (
      (between 1 4096 (length templates) parts.0).1,
      each (template_is_in_range n) (λ template. length template ≤ 4095) (template-fits n) templates parts.1,
    )

pub answers_fit : (raw : RawSetup) → IsSetup raw → All AnswerFits raw.answers
answers_fit raw h =
    let in_range = AllPass-from_list_all answer_is_in_range raw.answers (answer_parts raw h).1 in
    let known = AllPass-from_list_all (answer_level_is_known raw.levels) raw.answers (known_levels raw h).2 in
    λ k d below.
    let row = slice_index_or raw.answers k d in
    let parts = and5 (has_length 1 64 row.pattern) (reply_is_in_range (length row.pattern) row.reply) (nat_le row.session 126)
    (enter_is_in_range row) (nat_le row.after_ms 600000) (in_range k d below) in
    let reply = reply-fits (length row.pattern) row.reply parts.1 in
    record {
      pattern = (between 1 64 (length row.pattern) parts.0).1;
      templates = reply.0;
      items = reply.1;
      session = leb-true row.session 126 parts.2;
      level = known_level-fits raw.levels (levels-in_range raw h) row.level (known k d below);
      enter = leb-true row.enter 126 (and_parts (nat_le row.enter 126) (row.enter == 0 || is_some row.reply) parts.3).0;
      after_ms = leb-true row.after_ms 600000 parts.4;
    }

tables : (raw : RawSetup) → IsSetup raw → (is_rising did_id raw.dids ≡ true) × (is_rising dtc_code raw.dtcs ≡ true)
    × (is_rising routine_id raw.routines ≡ true) × (is_rising level_sub raw.levels ≡ true)
tables raw h = and4 (is_rising did_id raw.dids) (is_rising dtc_code raw.dtcs) (is_rising routine_id raw.routines) (is_rising level_sub raw.levels) h.1

pub dids_rise : (raw : RawSetup) → IsSetup raw → IsTrue (is_rising did_id raw.dids)
dids_rise raw h = (tables raw h).0

pub dtcs_rise : (raw : RawSetup) → IsSetup raw → IsTrue (is_rising dtc_code raw.dtcs)
dtcs_rise raw h = (tables raw h).1

pub routines_rise : (raw : RawSetup) → IsSetup raw → IsTrue (is_rising routine_id raw.routines)
routines_rise raw h = (tables raw h).2

pub levels_rise : (raw : RawSetup) → IsSetup raw → IsTrue (is_rising level_sub raw.levels)
levels_rise raw h = (tables raw h).3
