-- What the server makes of a request, and how a message of the unit is compared with it.
use Rattle.std.specs.Prelude.{ℕ, ◌==◌, ◌&&◌, Bool, true, false, not, if◌then◌else◌, List, [], ◌∷◌, find, flat_map, length, map, replicate, slice_index, take, Option, Some, None}
use Rattle.std.specs.List.{list_any}
use Rattle.diag_pdu.specs.declared.step.Request.{Request}
use Rattle.diag_setup.specs.declared.raw.RawDid.{RawDid}
use Rattle.diag_setup.specs.declared.raw.RawLevel.{RawLevel}
use Rattle.diag_setup.specs.declared.raw.RawPattern.{RawPattern}
use Rattle.diag_setup.specs.declared.raw.RawSetup.{RawSetup}
use Rattle.diag_setup.specs.declared.raw.TemplateItem.{TemplateItem}
use Rattle.diag_setup.specs.declared.raw.TemplateItem.TheVariants as template
use Rattle.diag_store.specs.Answers.{fits}
use Rattle.diag_ecu.specs.Respond.{ids, template_for}
use Rattle.diag_ecu.specs.State.{State}
use Rattle.diag_exchange.specs.declared.happening.Expected.{Expected}
use Rattle.diag_exchange.specs.declared.happening.CaptureLine.{CaptureLine}
use Rattle.diag_exchange.specs.declared.happening.AskedRequest.{AskedRequest}
use Rattle.diag_expect.specs.Entered.{Entered, Source, Model, Row}

-- ---- what isn't compared

abbrev pub has_pattern : List ℕ → RawPattern → Bool
has_pattern p pattern = fits pattern.items pattern.more p

abbrev pub is_ignored : RawSetup → List ℕ → Bool
is_ignored setup p = list_any (has_pattern p) setup.ignore

-- ---- bytes that vary: a mark for each byte, 0 where it counts

-- of a row's template: 2 where it is left open
abbrev pub item_mark : TemplateItem → ℕ
item_mark (template.Byte n) = 0
item_mark (template.OfRequest k) = 0
item_mark template.Varies = 2

abbrev pub is_mark : ℕ → Bool
is_mark mark = not (mark == 0)

-- none where no byte varies
abbrev pub template_marks : List TemplateItem → Option (List ℕ)
template_marks items =
    if list_any is_mark (map item_mark items) then Some (map item_mark items) else None

-- of a value or a seed: 1 where it varies
abbrev pub value_mark : Bool → ℕ
value_mark varies = if varies then 1 else 0

abbrev pub has_id : ℕ → RawDid → Bool
has_id id did = did.id == id

abbrev pub did_of : RawSetup → ℕ → Option RawDid
did_of setup id = find (has_id id) setup.dids

abbrev pub record_varies : Option RawDid → Bool
record_varies None = false
record_varies (Some did) = did.varies

-- an identifier with its value, and nothing for one that is unknown
abbrev pub record_marks : Option RawDid → List ℕ
record_marks None = []
record_marks (Some did) = 0 ∷ 0 ∷ replicate (length did.value) (value_mark did.varies)

abbrev pub varies_at : RawSetup → ℕ → Bool
varies_at setup id = record_varies (did_of setup id)

abbrev pub marks_at : RawSetup → ℕ → List ℕ
marks_at setup id = record_marks (did_of setup id)

-- of the values that a request reads
abbrev pub data_marks : RawSetup → List ℕ → List ℕ → Option (List ℕ)
data_marks setup p reply =
    if list_any (varies_at setup) (ids p)
    then Some (take (length reply) (0 ∷ flat_map (marks_at setup) (ids p)))
    else None

abbrev pub seed_varies : ℕ → RawLevel → Bool
seed_varies sub level = (level.request_seed == sub) && level.varies

-- of a seed, or of the zeros of an unlocked level
abbrev pub seed_marks : RawSetup → List ℕ → Option (List ℕ)
seed_marks setup reply =
    if list_any (seed_varies (slice_index reply 1)) setup.levels
    then Some (take (length reply) (0 ∷ 0 ∷ replicate (length reply) 1))
    else None

-- of the model's own reply to a request: 22 reads data, 27 asks for a seed (ISO 14229-1:2013, 10.2 and 9.4)
abbrev pub own_marks : RawSetup → List ℕ → List ℕ → Option (List ℕ)
own_marks setup p reply =
    if slice_index reply 0 == 0x62 then data_marks setup p reply
    else if slice_index reply 0 == 0x67 then seed_marks setup reply
    else None

-- ---- a request

-- of what the reply is made: of the row's template that answers, or by the model
abbrev pub source_of : Option (List TemplateItem) → Source
source_of None = Model
source_of (Some items) = Row (template_marks items)

-- a request with its reply, by the state before it
abbrev pub entered_of : State → ℕ → Request → Option (List ℕ) → Entered
entered_of s who request reply = record {
  functional = request.functional;
  bytes = request.message;
  source = source_of (template_for s who request.message);
  reply = reply;
}

abbrev pub is_model : Source → Bool
is_model Model = true
is_model (Row marks) = false

abbrev pub marks_of : RawSetup → Source → List ℕ → Option (List ℕ) → Option (List ℕ)
marks_of setup source p None = None
marks_of setup Model p (Some reply) = own_marks setup p reply
marks_of setup (Row marks) p (Some reply) = marks

abbrev pub expected_of : RawSetup → Entered → Expected
expected_of setup entered = record {
  reply = entered.reply;
  varies = marks_of setup entered.source entered.bytes entered.reply;
  own = is_model entered.source;
  ignored = is_ignored setup entered.bytes;
}

-- the same, complete at a line
abbrev pub asked_at : RawSetup → CaptureLine → Entered → AskedRequest
asked_at setup at entered = record {
  at = at;
  functional = entered.functional;
  bytes = entered.bytes;
  expected = expected_of setup entered;
}
