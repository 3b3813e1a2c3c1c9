-- What C's calls do to a unit, and what they answer.
use Rattle.std.specs.Prelude.{◌≡◌, ℕ, ◌+◌, ◌-◌, ◌^◌, ◌<◌, ◌≤◌, ◌⊎◌, ◌&&◌, ◌||◌, nat_le, nat_lt, codes, take, Bool, List, [], ◌∷◌, ◌++◌, length, drop, replicate, Option, Some, None, Result, Ok, Err, if◌then◌else◌}
use Rattle.std.specs.Option.{option_map}
use Rattle.diag_can.specs.Identifier.{extended, is_extended, number_of}
use Rattle.diag_can.specs.Line.{is_fd_among, is_fd_length}
use Rattle.diag_can.specs.declared.frame.Frame.{Frame}
use Rattle.diag_config.specs.Fault.{Fails}
use Rattle.diag_config.specs.Setup.{setup_of}
use Rattle.diag_config.specs.Text.{config_fault_text}
use Rattle.diag_config.specs.declared.fault.ConfigFault.{ConfigFault}
use Rattle.diag_config.specs.declared.fault.ConfigFault.TheVariants as config
use Rattle.diag_ecu.specs.State.{State, session_of}
use Rattle.diag_setup.specs.Setup.{is_fd_of, known_ids}
use Rattle.diag_setup.specs.declared.raw.RawSetup.{RawSetup}
use Rattle.diag_store.specs.declared.dids.DidFault.{DidFault}
use Rattle.diag_store.specs.declared.dids.DidFault.TheVariants.{Unknown, Length}
use Rattle.diag_bus.specs.Drawn.{Drawn}
use Rattle.uds_unit.specs.Device.{DeviceState, HandedOut, Ran, SameUnit, ToldJournal, TookCall}
use Rattle.uds_unit.specs.History.{At, Call}
use Rattle.uds_unit.specs.Moments.{clock_at, moment_us, start_of}
use Rattle.uds_unit.specs.declared.exports.Code.{Code}
use Rattle.uds_unit.specs.declared.exports.Reply.{Reply}
use Rattle.uds_unit.specs.declared.exports.Session.{Session}

-- the unit was open and is, and this holds of before and after; or it was closed and is
abbrev pub Both : Option DeviceState → Option DeviceState → (DeviceState → DeviceState → Type 0) → Type 0
Both None None P = Unit {0}
Both None (Some new) P = ⊥
Both (Some old) None P = ⊥
Both (Some old) (Some new) P = P old new

-- ---- status

abbrev pub fault_status : ConfigFault → ℕ
fault_status config.Memory = 4
fault_status other = 2

abbrev pub write_status : Result (Unit {0}) DidFault → ℕ
write_status (Ok done) = 0
write_status (Err Unknown) = 19
write_status (Err Length) = 20

-- the line of a setup's fault, as the program tells it
abbrev pub fault_line : ConfigFault → List ℕ
fault_line config.Memory = codes "uds_play: memory\n"
fault_line other = codes "uds_play: config: " ++ config_fault_text other ++ codes "\n"

-- ---- frames

-- the identifier that C tells so: of 11 bits, or with bit 31 of 29 bits
abbrev pub identifier_of : ℕ → Option ℕ
identifier_of id =
    if nat_lt id 2048 then Some id
    else if nat_le (2 ^ 31) id && nat_lt id (2 ^ 31 + 2 ^ 29) then Some (extended (id - 2 ^ 31))
    else None

-- how C is told an identifier
abbrev pub told_id : ℕ → ℕ
told_id id = if is_extended id then 2 ^ 31 + number_of id else number_of id

-- the frame with this identifier and these bytes, where a frame, classic or of CAN FD, can have so many
abbrev pub frame_of : ℕ → List ℕ → Option Frame
frame_of id bytes =
    if is_fd_length (length bytes) then option_map (λ id. record { id = id; bytes = bytes }) (identifier_of id) else None

-- what a unit hears of it: one of more than eight bytes is of CAN FD, which is heard where its identifier is read by it
abbrev pub heard : RawSetup → Frame → Option Frame
heard setup frame =
    if nat_le (length frame.bytes) 8 || is_fd_among (known_ids setup) frame.id then Some frame else None

-- how C is told whether a frame is one of CAN FD
abbrev pub told_fd : Bool → ℕ
told_fd fd = if fd then 1 else 0

-- ---- what is told

-- these bytes begin with as much of the text as fits, and are as before behind it
abbrev pub CopiedInto : List ℕ → List ℕ → List ℕ → Type 0
CopiedInto old new text = new ≡ take (length old) text ++ drop (length text) old

-- the 64 bytes of a reply: those of a frame, and zeros behind them
abbrev pub all_of : List ℕ → List ℕ
all_of bytes = bytes ++ replicate (64 - length bytes) 0

-- a frame was handed out, and this tells it
pub record HandedReply (old new : DeviceState) (reply : Reply) : Type 0 where
  pub drawn : Drawn
  pub handed : HandedOut old new drawn
  pub at : reply.at_us ≡ moment_us (start_of old.clock) drawn.sent.at
  pub id : reply.id ≡ told_id drawn.sent.frame.id
  pub tester : reply.tester ≡ drawn.who
  pub len : reply.len ≡ length drawn.sent.frame.bytes
  pub fd : reply.fd ≡ told_fd (is_fd_of old.setup drawn.who)
  pub bytes : reply.bytes ≡ all_of drawn.sent.frame.bytes

-- the session and its holder, by its place from 1, or 0
abbrev pub session_told : State → Option ℕ → Session
session_told s None = record { session = 1; holder = 0 }
session_told s (Some who) = record { session = session_of s who; holder = who }

-- ---- opening

-- the unit is that of the setup which these bytes say, and took no call
pub record Opened (device : DeviceState) (config : List ℕ) (wanted : Bool) : Type 0 where
  pub setup : setup_of config ≡ Ok device.setup
  pub journal : device.wanted ≡ wanted
  pub ran : Ran device [] [] []

-- a fault, or want of memory in its place, was told as the program does, as far as it fits, and this is its status
pub record TellsFault (fault : ConfigFault) (old new : List ℕ) (status : ℕ) : Type 0 where
  pub told : ConfigFault
  pub is : (told ≡ fault) ⊎ (told ≡ config.Memory)
  pub line : CopiedInto old new (fault_line told ++ 0 ∷ [])
  pub answer : status ≡ fault_status told

-- it is the first fault of the setup that these bytes say, or memory was refused
pub record Refused (config old new : List ℕ) (status : ℕ) : Type 0 where
  pub fault : ConfigFault
  pub is : Fails fault (setup_of config)
  pub line : CopiedInto old new (fault_line fault ++ 0 ∷ [])
  pub answer : status ≡ fault_status fault

-- ---- calls

-- the unit took this call more, which sets something
pub record Sets (old new : DeviceState) (call : Call) : Type 0 where
  pub took : TookCall old new call
  pub same : SameUnit old new

-- the unit took this moment more, with what is heard of its frame, or memory was refused; its clock is there either way
pub record Took (old new : DeviceState) (moment : ℕ) (frame : Option Frame) (status : ℕ) : Type 0 where
  pub only : (status ≡ 0) ⊎ (status ≡ 4)
  pub took : status ≡ 0 → TookCall old new (At moment frame)
  pub clock : new.clock ≡ Some (clock_at old.clock moment)
  pub same : SameUnit old new

-- the same with what is heard of a frame, where there is one
abbrev pub TookFrame : DeviceState → DeviceState → ℕ → Option Frame → ℕ → Type 0
TookFrame old new moment None status = (status ≡ 18) × (new ≡ old)
TookFrame old new moment (Some frame) status = Took old new moment (heard old.setup frame) status

-- the ECU was set by this call, or the unit is as before
pub record SetsOr (old new : DeviceState) (call : Call) (status : ℕ) : Type 0 where
  pub set : status ≡ 0 → TookCall old new call
  pub kept : 1 ≤ status → new ≡ old
  pub same : SameUnit old new

-- the text of the journal was handed out, or the unit is as before
pub record TellsOr (old new : DeviceState) (status : ℕ) : Type 0 where
  pub told : status ≡ 0 → ToldJournal old new old.text
  pub kept : 1 ≤ status → new ≡ old
  pub same : SameUnit old new

abbrev pub code_status : Option ℕ → ℕ
code_status None = 19
code_status (Some status) = 0

abbrev pub close_status : Option DeviceState → ℕ
close_status None = 16
close_status (Some device) = 0

-- the code at a place is told, where there is one; else nothing is written
abbrev pub TellsCode : Option (ℕ × ℕ) → Code → Code → ℕ → Type 0
TellsCode None old new status = (status ≡ 17) × (new ≡ old)
TellsCode (Some row) old new status = (status ≡ 0) × (new ≡ record { code = row.0; status = row.1 })

abbrev pub TellsNumber : Option ℕ → ℕ → ℕ → ℕ → Type 0
TellsNumber None old new status = (status ≡ 17) × (new ≡ old)
TellsNumber (Some n) old new status = (status ≡ 0) × (new ≡ n)

-- the text was copied whole, or there is too little room; its length is told
pub record CopiesWhole (text old new : List ℕ) (len status : ℕ) : Type 0 where
  pub whole : len ≡ length text
  pub only : (status ≡ 0) ⊎ (status ≡ 21)
  pub copied : status ≡ 0 → (length text ≤ length old) × CopiedInto old new text
  pub short : status ≡ 21 → (length old < length text) × (new ≡ old)

-- the same of an identifier's value, where there is one; else nothing is written
abbrev pub TellsValue : Option (List ℕ) → List ℕ → List ℕ → ℕ → ℕ → ℕ → Type 0
TellsValue None old new len len' status = (status ≡ 19) × (new ≡ old) × (len' ≡ len)
TellsValue (Some value) old new len len' status = CopiesWhole value old new len' status
