-- The texts that a run writes.
use Rattle.std.specs.Prelude.{ℕ, ◌+◌, ◌==◌, nat_le, codes, decimal, if◌then◌else◌, List, [], ◌∷◌, ◌++◌, length, Option, Some, None}
use Rattle.std.specs.List.{flat_map}
use Rattle.hex.specs.Hex.{encode_upper}
use Rattle.diag_can.specs.Reply.{reply_line}
use Rattle.diag_can.specs.declared.log.Timing.{Timing}
use Rattle.diag_can.specs.declared.log.Timing.TheVariants.{Lines, Stamps}
use Rattle.diag_tp.specs.declared.sent.Sent.{Sent}
use Rattle.diag_can.specs.WriterView.{WriterView}
use Rattle.diag_setup.specs.Setup.{name_of}
use Rattle.diag_setup.specs.declared.raw.RawSetup.{RawSetup}
use Rattle.diag_store.specs.declared.dtcs.Dtc.{Dtc}
use Rattle.diag_ecu.specs.Bytes.{bytes_24}
use Rattle.diag_ecu.specs.State.{State, session_of}
use Rattle.diag_bus.specs.Writing.{writer_of}
use Rattle.diag_desk.specs.declared.entry.Entry.{Entry}
use Rattle.diag_desk.specs.Legal.{Run, after}
use Rattle.diag_desk.specs.Text.{journal_text, journal_text_at}

-- the reply lines of one tester
abbrev pub lines_of : WriterView → List Sent → List ℕ
lines_of w sent = flat_map (λ s. reply_line w.name w.flags s.at s.frame) sent

-- the reply lines of the testers from number n on, tester by tester
unfoldable pub lines_from : RawSetup → ℕ → List (List Sent) → List ℕ
lines_from setup n [] = []
lines_from setup n (sent ∷ others) =
    lines_of (writer_of setup n) sent ++ lines_from setup (n + 1) others

-- the journal's text: of version 2 where stamps carry time
abbrev pub journal_part : Timing → List Entry → List ℕ
journal_part Lines entries = journal_text entries
journal_part Stamps entries = journal_text_at entries

-- the holder's name; its number, where the setup has no such tester
abbrev pub holder_name : RawSetup → ℕ → List ℕ
holder_name setup who =
    if nat_le who (length setup.testers) then name_of setup who else (48 + who) ∷ []

-- the name of a session other than the default one (ISO 14229-1:2013, 9.2); its number in hex, where it has none
abbrev pub session_name : ℕ → List ℕ
session_name n =
    if n == 0x02 then codes "programming"
    else if n == 0x03 then codes "extended"
    else if n == 0x04 then codes "safety"
    else encode_upper (n ∷ [])

abbrev pub held_lines : RawSetup → ℕ → ℕ → List ℕ
held_lines setup who session =
    codes "session "
    ++ (session_name session ++ (codes "\nholder " ++ (holder_name setup who ++ codes "\n")))

abbrev pub holder_lines : RawSetup → State → Option ℕ → List ℕ
holder_lines setup s None = codes "session default\nholder none\n"
holder_lines setup s (Some who) = held_lines setup who (session_of s who)

-- a DTC in three bytes, and its status
abbrev pub code_line : ℕ → ℕ → List ℕ
code_line code status =
    codes "code "
    ++ (encode_upper (bytes_24 code) ++ (codes " " ++ (encode_upper (status ∷ []) ++ codes "\n")))

abbrev pub code_lines : List Dtc → List ℕ
code_lines dtcs = flat_map (λ dtc. code_line dtc.code dtc.status) dtcs

-- the end of a run
unfoldable pub end_text : RawSetup → State → List ℕ
end_text setup s = holder_lines setup s s.holder ++ code_lines s.dtcs

-- all that a play writes, which left this desk and these frames
abbrev pub whole_text : Timing → RawSetup → Run → List (List Sent) → List ℕ
whole_text timing setup desk sent =
    lines_from setup 1 sent
    ++ (journal_part timing desk.journal ++ end_text setup (after desk.opening desk.journal))

-- what a replay of so many entries writes, which left this state
abbrev pub replay_text : RawSetup → ℕ → State → List ℕ
replay_text setup count s = codes "entries " ++ (decimal count ++ (codes "\n" ++ end_text setup s))
