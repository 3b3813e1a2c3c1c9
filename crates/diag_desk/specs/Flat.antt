-- The flat representation of a journal: small heads, and the bytes of all messages in one list.
use Rattle.std.specs.Prelude.{ℕ, ◌+◌, ◌-◌, ◌≤◌, List, [], ◌∷◌, map, length, take, drop, Some, None, vec_len, vec_capacity}
use Rattle.diag_desk.specs.Entry.{IsJournal, Kept}
use Rattle.diag_pdu.specs.declared.step.Step.TheVariants as step
use Rattle.diag_pdu.specs.Request.{request_of}
use Rattle.diag_desk.specs.declared.entry.Entry.{Entry}
use Rattle.diag_desk.specs.declared.flat.Head.{Head}
use Rattle.diag_desk.specs.declared.flat.Head.TheVariants.{Answered, Silent, Ticks}
use Rattle.diag_desk.specs.declared.journal.Journal.TheInside.{Inside}

-- len bytes from a place on
abbrev pub part : List ℕ → ℕ → ℕ → List ℕ
part bytes start len = take len (drop start bytes)

-- the entry of a head
abbrev pub entry_of : List ℕ → Head → Entry
entry_of bytes (Answered who functional request_len reply_len start) = record {
  who = who;
  step = step.Request (request_of functional (part bytes start request_len));
  reply = Some (part bytes (start + request_len) reply_len);
}
entry_of bytes (Silent who functional request_len start) =
    record { who = who; step = step.Request (request_of functional (part bytes start request_len)); reply = None }
entry_of bytes (Ticks who count) = record { who = who; step = step.Ticks count; reply = None }

-- the parts that a head names lie within n bytes, and a request has a byte
abbrev pub HeadFits : Head → ℕ → Type 0
HeadFits (Answered who functional request_len reply_len start) n =
    (1 ≤ request_len) × (start + request_len + reply_len ≤ n)
HeadFits (Silent who functional request_len start) n =
    (1 ≤ request_len) × (start + request_len ≤ n)
HeadFits (Ticks who count) n = Unit {0}

abbrev pub HeadsFit : List Head → ℕ → Type 0
HeadsFit [] n = Unit {0}
HeadsFit (head ∷ heads) n = HeadFits head n × HeadsFit heads n

abbrev pub kept_in : Inside → Kept
kept_in j = record {
  entries = map (entry_of j.bytes.items) j.heads.items;
  entry_room = vec_capacity j.heads - vec_len j.heads;
  byte_room = vec_capacity j.bytes - vec_len j.bytes;
}

-- the heads fit their bytes, and make the entries of a journal
abbrev pub FlatFits : Inside → Type 0
FlatFits j = HeadsFit j.heads.items (length j.bytes.items)
    × IsJournal (map (entry_of j.bytes.items) j.heads.items)
