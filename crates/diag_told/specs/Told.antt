-- How an exchange is told.
use Rattle.std.specs.Prelude.{ℕ, ◌+◌, ◌==◌, codes, Bool, if◌then◌else◌, List, [], ◌∷◌, ◌++◌, length, Option, Some, None}
use Rattle.std.specs.Fmt.{decimal}
use Rattle.hex.specs.Hex.{encode_upper}
use Rattle.diag_can.specs.Reply.{stamp_digits}
use Rattle.diag_exchange.specs.Agreeing.{marks, waited}
use Rattle.diag_exchange.specs.Over.{Over, Exchange, Unasked}
use Rattle.diag_exchange.specs.declared.happening.CaptureLine.{CaptureLine}

abbrev pub dash : List ℕ
dash = codes "-"

-- the line of a request, or of the first frame of a message that no request asked
abbrev pub capture_line_told : Over → CaptureLine
capture_line_told (Exchange request pendings answer) = request.at
capture_line_told (Unasked heard) = heard.start.at

-- the bytes of a message, where there is one
abbrev pub message_text : Option (List ℕ) → List ℕ
message_text None = dash
message_text (Some bytes) = encode_upper bytes

abbrev pub kind_text : Over → List ℕ
kind_text (Exchange request pendings answer) = if request.functional then codes "F" else codes "P"
kind_text (Unasked heard) = codes "U"

abbrev pub request_text : Over → List ℕ
request_text (Exchange request pendings answer) = encode_upper request.bytes
request_text (Unasked heard) = dash

abbrev pub sent_text : Over → List ℕ
sent_text (Exchange request pendings None) = dash
sent_text (Exchange request pendings (Some heard)) = encode_upper heard.bytes
sent_text (Unasked heard) = encode_upper heard.bytes

-- a byte that a template leaves open has the mark 2
abbrev pub byte_text : ℕ → ℕ → List ℕ
byte_text mark b = if mark == 2 then codes "??" else encode_upper (b ∷ [])

abbrev pub bytes_text : List ℕ → List ℕ → List ℕ
bytes_text marks [] = []
bytes_text [] (b ∷ bytes) = encode_upper (b ∷ bytes)
bytes_text (m ∷ marks) (b ∷ bytes) = byte_text m b ++ bytes_text marks bytes

abbrev pub reply_text : List ℕ → Option (List ℕ) → List ℕ
reply_text marks None = dash
reply_text marks (Some reply) = bytes_text marks reply

-- what was expected, where an exchange agrees or doesn't
abbrev pub expected_text : Bool → Over → List ℕ
expected_text same (Exchange request pendings answer) =
    if request.expected.ignored then codes "~"
    else if same then codes "="
    else reply_text (marks request.expected.varies) request.expected.reply
expected_text same (Unasked heard) = dash

abbrev pub time_text : Option ℕ → List ℕ
time_text None = dash
time_text (Some ms) = decimal ms

abbrev pub pendings_told : Over → ℕ
pendings_told (Exchange request pendings answer) = pendings
pendings_told (Unasked heard) = 0

-- parted by one space each
abbrev pub parted : List (List ℕ) → List ℕ
parted [] = []
parted (word ∷ []) = word
parted (word ∷ next ∷ words) = word ++ codes " " ++ parted (next ∷ words)

-- the line of an exchange of a tester of this name, by the bus's time of its line, where it agrees or doesn't
abbrev pub told_text : List ℕ → ℕ → Bool → Over → List ℕ
told_text name moment same o = parted (
    decimal (capture_line_told o).number
    ∷ stamp_digits moment
    ∷ name
    ∷ kind_text o
    ∷ request_text o
    ∷ sent_text o
    ∷ expected_text same o
    ∷ time_text (waited o)
    ∷ decimal (pendings_told o)
    ∷ []) ++ codes "\n"

-- the room that is made for it: its name and its messages, and more bytes than the rest may have
abbrev pub told_room : List ℕ → Bool → Over → ℕ
told_room name same o = length name + length (request_text o) + length (sent_text o) + length (expected_text same o) + 128
