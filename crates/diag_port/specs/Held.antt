-- What is held of the messages that go later.
use Rattle.std.specs.Prelude.{◌^◌, ℕ, ◌-◌, List, ◌∷◌, [], sum_by}
use Rattle.diag_pdu.specs.declared.length.DataLength.TheVariants.{Dl8}
use Rattle.diag_pdu.specs.Cut.{frames_of}
use Rattle.diag_tp.specs.Link.{last_tick}
use Rattle.diag_port.specs.declared.held.Later.{Later}

-- the most messages that are held
abbrev pub most_held : ℕ
most_held = 2 ^ 40

-- what is held, and for how many messages more there is room
pub record HeldState : Type 0 where
  pub messages : List Later
  pub room : ℕ

-- the frames of 8 bytes of a message: it has no more longer ones
abbrev pub frames_of_later : Later → ℕ
frames_of_later later = frames_of Dl8 later.message

-- those of all that is held
abbrev pub held_frames : List Later → ℕ
held_frames H = sum_by frames_of_later H

-- in how many ticks the first message is due
abbrev pub until_due : ℕ → List Later → ℕ
until_due now [] = last_tick
until_due now (x ∷ H) = x.due - now
