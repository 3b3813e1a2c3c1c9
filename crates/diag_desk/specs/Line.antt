-- An entry as its line gives it, with its messages in hex.
use Rattle.std.specs.Prelude.{◌≡◌, ℕ, Bool, if◌then◌else◌, List, [], ◌∷◌, Option, Some, None, option_map, option_copied}
use Rattle.std.specs.Result.{result_unwrap_or}
use Rattle.hex.specs.Hex.{decode_of, encode_upper}
use Rattle.diag_pdu.specs.declared.step.Step.TheVariants as step
use Rattle.diag_pdu.specs.Request.{request_of}
use Rattle.diag_desk.specs.declared.entry.Entry.{Entry}
use Rattle.diag_desk.specs.declared.line.Line.{Line}
use Rattle.diag_desk.specs.declared.line.LineStep.{LineStep}
use Rattle.diag_desk.specs.declared.line.LineStep.TheVariants.{Request, Ticks}
use Rattle.diag_desk.specs.declared.line.Kind.{Kind}
use Rattle.diag_desk.specs.declared.line.Kind.TheVariants as kind
use Rattle.diag_desk.specs.Entry.{IsMessage, IsReply, IsEntry, IsStep}
use Rattle.diag_desk.specs.Text.{entry_line, reply_text, step_text}
use Rattle.diag_pdu.specs.declared.step.Step.{Step}

abbrev pub decoded : List ℕ → List ℕ
decoded text = result_unwrap_or (decode_of text) []

-- the text is the hex of a message
abbrev pub IsHex : List ℕ → Type 0
IsHex text = IsMessage (decoded text) × (encode_upper (decoded text) ≡ text)

abbrev pub line_step : LineStep → Step
line_step (Request functional message reply) = step.Request (request_of functional (decoded message.now))
line_step (Ticks count) = step.Ticks count

abbrev pub line_reply : LineStep → Option (List ℕ)
line_reply (Request functional message reply) = option_map decoded (option_copied reply)
line_reply (Ticks count) = None

abbrev pub line_entry : Line → Entry
line_entry line =
    record { who = line.who; step = line_step line.step; reply = line_reply line.step }

abbrev pub IsHexReply : Option (List ℕ) → Type 0
IsHexReply None = Unit {0}
IsHexReply (Some text) = IsHex text

abbrev pub HasHex : LineStep → Type 0
HasHex (Request functional message reply) = IsHex message.now × IsHexReply (option_copied reply)
HasHex (Ticks count) = Unit {0}

-- what was read of a line
pub record IsRead (text : List ℕ) (line : Line) : Type 0 where
  pub hex : HasHex line.step
  pub entry : IsEntry (line_entry line)
  pub is : entry_line (line_entry line) ≡ text

-- the byte of a kind of line
abbrev pub kind_code : Kind → ℕ
kind_code kind.Physical = 80
kind_code kind.Functional = 70
kind_code kind.Ticks = 84

-- a line of a tester's digit, a kind and what follows them
abbrev pub fronted : ℕ → ℕ → List ℕ → List ℕ
fronted digit kind body = digit ∷ 32 ∷ kind ∷ 32 ∷ body

abbrev pub IsNoFront : List ℕ → Type 0
IsNoFront text = (digit kind : ℕ) (body : List ℕ) → fronted digit kind body ≡ text → ⊥

-- what follows the kind, and the space after it
abbrev pub HasBody : Kind → Step → Option (List ℕ) → List ℕ → Type 0
HasBody k s reply text = step_text s reply ≡ 32 ∷ kind_code k ∷ 32 ∷ text

-- the step that was read of a body
pub record IsReadStep (k : Kind) (text : List ℕ) (s : LineStep) : Type 0 where
  pub hex : HasHex s
  pub entry : IsStep (line_step s) (line_reply s)
  pub is : HasBody k (line_step s) (line_reply s) text

abbrev pub IsNoStep : Kind → List ℕ → Type 0
IsNoStep k text = (s : Step) (reply : Option (List ℕ)) → IsStep s reply → HasBody k s reply text → ⊥

-- what was read of a reply
pub record IsReadReply (text : List ℕ) (reply : Option (List ℕ)) : Type 0 where
  pub hex : IsHexReply reply
  pub entry : IsReply (option_map decoded reply)
  pub is : reply_text (option_map decoded reply) ≡ text

-- the kind of a request's line
abbrev pub request_kind : Bool → Kind
request_kind functional = if functional then kind.Functional else kind.Physical
