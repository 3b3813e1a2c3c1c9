-- The text of a journal: a header, and a line for each entry. There is one spelling.
use Rattle.std.specs.Prelude.{◌≢◌, ◌≤◌, ◌<◌, ◌^◌, ◌+◌, ◌==◌, ◌&&◌, ◌||◌, ℕ, Bool, nat_le, List, [], ◌∷◌, ◌++◌, codes, decimal, Option, Some, None, unwrap_or, if◌then◌else◌}
use Rattle.hex.specs.Hex.{encode_upper, hex_digit_value}
use Rattle.diag_pdu.specs.declared.step.Step.{Step}
use Rattle.diag_pdu.specs.declared.step.Step.TheVariants.{Request, Ticks}
use Rattle.diag_desk.specs.declared.entry.Entry.{Entry}
use Rattle.diag_desk.specs.declared.version.JournalVersion.{JournalVersion}
use Rattle.diag_desk.specs.declared.version.JournalVersion.TheVariants.{Plain, Stamped}
use Rattle.diag_desk.specs.Entry.{IsEntry, IsMessage}

abbrev pub reply_text : Option (List ℕ) → List ℕ
reply_text None = codes "-"
reply_text (Some reply) = encode_upper reply

abbrev pub kind_text : Bool → List ℕ
kind_text functional = if functional then codes " F " else codes " P "

-- what follows a tester's number
abbrev pub step_text : Step → Option (List ℕ) → List ℕ
step_text (Request request) reply =
    kind_text request.functional
    ++ (encode_upper request.message ++ (codes " " ++ reply_text reply))
step_text (Ticks count) reply = codes " T " ++ decimal count

-- the line of an entry, without its end
abbrev pub entry_line : Entry → List ℕ
entry_line e = (48 + e.who) ∷ step_text e.step e.reply

-- the ticks of one tester in a list of entries
abbrev pub ticks_in : Step → ℕ
ticks_in (Request request) = 0
ticks_in (Ticks count) = count

abbrev pub ticks_of : ℕ → List Entry → ℕ
ticks_of who [] = 0
ticks_of who (e ∷ entries) = (if e.who == who then ticks_in e.step else 0) + ticks_of who entries

abbrev pub stamped_line : JournalVersion → ℕ → List ℕ → List ℕ
stamped_line Plain at line = line
stamped_line Stamped at line = decimal at ++ (codes " " ++ line)

-- the line of an entry after others; its stamp is the ticks of its tester up to and with it
abbrev pub line_after : JournalVersion → List Entry → Entry → List ℕ
line_after version past e =
    stamped_line version (ticks_of e.who past + ticks_in e.step) (entry_line e)

abbrev pub ended : List ℕ → List ℕ
ended line = line ++ codes "\n"

abbrev pub lines_after : JournalVersion → List Entry → List Entry → List ℕ
lines_after version past [] = []
lines_after version past (e ∷ entries) =
    ended (line_after version past e) ++ lines_after version (past ++ e ∷ []) entries

abbrev pub header : JournalVersion → List ℕ
header Plain = codes "diag-journal 1"
header Stamped = codes "diag-journal 2"

-- the text of a version
abbrev pub text_of : JournalVersion → List Entry → List ℕ
text_of version entries = ended (header version) ++ lines_after version [] entries

abbrev pub journal_text : List Entry → List ℕ
journal_text entries = text_of Plain entries

abbrev pub journal_text_at : List Entry → List ℕ
journal_text_at entries = text_of Stamped entries

-- a digit as the journal writes it
abbrev pub is_upper_digit : ℕ → Bool
is_upper_digit c = (nat_le 48 c && nat_le c 57) || (nat_le 65 c && nat_le c 70)

-- its value, and of another byte more than two digits make
abbrev pub upper_value : ℕ → ℕ
upper_value c = if is_upper_digit c then unwrap_or (hex_digit_value c) 0 else 4096

-- ---- texts that nothing is written as

abbrev pub IsNoMessage : List ℕ → Type 0
IsNoMessage text = (m : List ℕ) → IsMessage m → encode_upper m ≢ text

abbrev pub IsNoReply : List ℕ → Type 0
IsNoReply text = (text ≢ codes "-") × IsNoMessage text

abbrev pub IsNoCount : List ℕ → Type 0
IsNoCount text = (n : ℕ) → 1 ≤ n → n ≤ 60000 → decimal n ≢ text

abbrev pub IsNoNumber : List ℕ → Type 0
IsNoNumber text = (n : ℕ) → n < 2 ^ 64 → decimal n ≢ text

abbrev pub IsNoEntry : List ℕ → Type 0
IsNoEntry line = (e : Entry) → IsEntry e → entry_line e ≢ line
