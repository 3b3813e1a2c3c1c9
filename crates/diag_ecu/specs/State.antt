-- The state of the ECU, and the changes that several services share.
use Rattle.std.specs.Prelude.{ℕ, Bool, true, ◌==◌, not, [], Some, None, ◌&&◌, is_some, if◌then◌else◌, replicate}
use Rattle.diag_store.specs.Routines.{all_idle}
use Rattle.diag_store.specs.Security as security
use Rattle.diag_setup.specs.declared.raw.RawSetup.{RawSetup}
use Rattle.diag_setup.specs.Setup.{values_of}
use Rattle.diag_store.specs.Opening.{opening_dids, opening_codes, opening_routines, opening_security, opening_answers}
use Rattle.diag_ecu.specs.declared.ecu.Ecu.{Ecu}

abbrev pub State : Type 0
State = Ecu

-- whether the tester is the holder: the one in a session other than the default one
abbrev pub is_holder : State → ℕ → Bool
is_holder s who = security.option_is s.holder who

-- the number of a tester's session: 1 is the default one, in which all but the holder are
abbrev pub session_of : State → ℕ → ℕ
session_of s who = if is_holder s who then s.session else 1

-- whether another tester is the holder
abbrev pub is_held_by_another : State → ℕ → Bool
is_held_by_another s who = is_some s.holder && not (is_holder s who)

-- a level that a row names: 0 is open, another has to be unlocked for the holder
abbrev pub is_open : State → ℕ → ℕ → Bool
is_open s who level =
    if level == 0 then true else is_holder s who && security.is_unlocked s.security level

-- no unlocked level and no outstanding seed
abbrev pub relocked : State → State
relocked s = record s { security = security.locked s.security }

-- relocked, the DTC setting is on, and all routines are idle
abbrev pub cleaned : State → State
cleaned s = record s {
  security = security.locked s.security;
  dtc_setting_on = true;
  routines = all_idle s.routines;
}

-- the session ends with cleaning
abbrev pub session_ended : State → State
session_ended s = record (cleaned s) { holder = None; session = 1; s3_left = 0 }

-- S3 is full again
abbrev pub s3_filled : State → State
s3_filled s = record s { s3_left = s.values.s3_ms }

-- the tester goes to the session of this number, and to none where it is 0: the default one ends the holder's, and in
-- another the tester is the holder, relocked, S3 full
abbrev pub entered : State → ℕ → ℕ → State
entered s who n =
    if n == 0 then s
    else if n == 1 then (if is_holder s who then session_ended s else s)
    else s3_filled (record (relocked s) { holder = Some who; session = n })

-- the state that a setup opens with
abbrev pub opening : RawSetup → State
opening setup = record {
  values = values_of setup;
  dids = opening_dids setup;
  dtcs = opening_codes setup;
  routines = opening_routines setup;
  security = opening_security setup;
  holder = None;
  session = 1;
  s3_left = 0;
  dtc_setting_on = true;
  answers = opening_answers setup;
}

-- the state of an ECU that has no data, codes, routines, levels or rows of answers
abbrev pub blank : State
blank = record {
  values = record { p2_ms = 0; p2_star_10ms = 0; s3_ms = 0; availability = 0 };
  dids = [];
  dtcs = [];
  routines = [];
  security = record {
    attempts = 0;
    delay_ms = 0;
    levels = [];
    unlocked = None;
    outstanding = None;
    wrong_keys = replicate 8 0;
    delays = replicate 8 0;
  };
  holder = None;
  session = 1;
  s3_left = 0;
  dtc_setting_on = true;
  answers = [];
}
