-- What the rows of a setup without a fault keep to, as bounds.
use Rattle.std.specs.Prelude.{ℕ, ◌≤◌, Bool, true, false, length, Option, Some, None, IsSome}
use Rattle.std.specs.List.{All}
use Rattle.diag_pdu.specs.Length.{length_of}
use Rattle.diag_setup.specs.declared.raw.RawSetup.{RawSetup}
use Rattle.diag_setup.specs.declared.raw.RawTester.{RawTester}
use Rattle.diag_setup.specs.declared.raw.RawDid.{RawDid}
use Rattle.diag_setup.specs.declared.raw.RawDtc.{RawDtc}
use Rattle.diag_setup.specs.declared.raw.RawRoutine.{RawRoutine}
use Rattle.diag_setup.specs.declared.raw.RawKeyRow.{RawKeyRow}
use Rattle.diag_setup.specs.declared.raw.RawLevel.{RawLevel}
use Rattle.diag_setup.specs.declared.raw.RawAnswer.{RawAnswer}
use Rattle.diag_setup.specs.Setup.{functional_number, templates_of}

-- the number of an identifier of 29 bits, or of 11
abbrev pub IdFits : Bool → ℕ → Type 0
IdFits true id = id ≤ 0x1FFFFFFF
IdFits false id = id ≤ 0x7FF

pub record TesterFits (tester : RawTester) : Type 0 where
  pub request : IdFits tester.extended tester.request
  pub response : IdFits tester.extended tester.response
  pub functional : (shared : ℕ) → shared ≤ 0x7FF → IdFits tester.extended (functional_number shared tester)

pub record DidFits (did : RawDid) : Type 0 where
  pub id : did.id ≤ 0xFFFF
  pub value : length did.value ≤ 255
  pub read_level : did.read_level ≤ 65
  pub write_level : did.write_level ≤ 65

pub record DtcFits (row : RawDtc) : Type 0 where
  pub code : row.code ≤ 0xFFFFFE
  pub status : row.status ≤ 0xFF

abbrev pub OnDoneFits : Option RawDtc → Type 0
OnDoneFits None = Unit {0}
OnDoneFits (Some row) = row.status ≤ 0xFF

pub record RoutineFits (routine : RawRoutine) : Type 0 where
  pub id : routine.id ≤ 0xFFFF
  pub result : length routine.result ≤ 32
  pub level : routine.level ≤ 65
  pub on_done : OnDoneFits routine.on_done

pub record KeyRowFits (row : RawKeyRow) : Type 0 where
  pub seed : length row.seed ≤ 255
  pub key : length row.key ≤ 255

pub record LevelFits (level : RawLevel) : Type 0 where
  pub request_seed : level.request_seed ≤ 65
  pub some : 1 ≤ length level.rows
  pub few : length level.rows ≤ 64
  pub rows : All KeyRowFits level.rows

pub record AnswerFits (row : RawAnswer) : Type 0 where
  pub pattern : length row.pattern ≤ 64
  pub templates : length (templates_of row) ≤ 4096
  pub items : All (λ template. length template ≤ 4095) (templates_of row)
  pub session : row.session ≤ 126
  pub level : row.level ≤ 65
  pub enter : row.enter ≤ 126
  pub after_ms : row.after_ms ≤ 600000

-- the numbers that stand beside the tables
pub record NumbersFit (raw : RawSetup) : Type 0 where
  pub p2_ms : raw.p2_ms ≤ 0xFFFF
  pub p2_star_10ms : raw.p2_star_10ms ≤ 0xFFFF
  pub n_bs_some : 1 ≤ raw.n_bs_ms
  pub n_bs_ms : raw.n_bs_ms ≤ 60000
  pub n_cr_some : 1 ≤ raw.n_cr_ms
  pub n_cr_ms : raw.n_cr_ms ≤ 60000
  pub block_size : raw.block_size ≤ 0xFF
  pub st_min : raw.st_min ≤ 0xFF
  pub max_request : raw.max_request ≤ 0xFFFF
  pub pad_byte : raw.pad_byte ≤ 0xFF
  pub tx_dl : IsSome (length_of raw.tx_dl)
  pub fd_flags : raw.fd_flags ≤ 15
  pub functional : raw.functional ≤ 0x7FF
  pub availability : raw.availability ≤ 0xFF
  pub s3_ms : raw.s3_ms ≤ 600000
  pub attempts_some : 1 ≤ raw.attempts
  pub attempts : raw.attempts ≤ 0xFF
  pub delay_ms : 1 ≤ raw.delay_ms
