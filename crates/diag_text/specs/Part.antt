-- Frames of a list that one tester was sent.
use Rattle.std.specs.Prelude.{◌≤◌, ◌-◌, ℕ, List, length, take, drop}
use Rattle.diag_tp.specs.SentFrames.{SentList}
use Rattle.diag_setup.specs.declared.raw.RawSetup.{RawSetup}
use Rattle.diag_bus.specs.Writing.{writer_of}
use Rattle.diag_text.specs.Text.{lines_of}
use Rattle.diag_text.specs.declared.text.Part.{Part}

-- these frames are there
abbrev pub IsPart : Part → SentList → Type 0
IsPart part sent = (part.from ≤ part.end) × (part.end ≤ length sent.items)

-- their reply lines
abbrev pub part_lines : RawSetup → ℕ → SentList → Part → List ℕ
part_lines setup who sent part = lines_of (writer_of setup who) (take (part.end - part.from) (drop part.from sent.items))
