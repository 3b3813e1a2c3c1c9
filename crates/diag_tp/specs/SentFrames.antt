-- Lists of frames that were sent, with room for more.
use Rattle.std.specs.Prelude.{ℕ, ◌≡◌, ◌+◌, ◌-◌, ◌≤◌, ◌<◌, ◌⊎◌, Bool, true, false, IsFalse, IsTrue, List, [], ◌∷◌, ◌++◌, vec_len, vec_capacity}
use Rattle.diag_can.specs.declared.frame.Frame.{Frame}
use Rattle.diag_pdu.specs.declared.length.DataLength.{DataLength}
use Rattle.diag_pdu.specs.Length.{in_bytes}
use Rattle.diag_tp.specs.declared.sent.Sent.{Sent}
use Rattle.diag_tp.specs.declared.sent_frames.FrameList.{FrameList}
use Rattle.diag_tp.specs.declared.sent_frames.FrameList.TheVariants.{Short, Long}
use Rattle.diag_tp.specs.Link.{EachHistory, HandsOut, pending, unsent}
use Rattle.diag_tp.specs.State.{LinkState, LinkView}
use Rattle.diag_tp.specs.Wire.{wire}

-- the frames, for how many more there is room, and whether some of more than 8 bytes may be among them
pub record SentList : Type 0 where
  pub items : List Sent
  pub room : ℕ
  pub is_long : Bool

abbrev pub list_of : FrameList → SentList
list_of (Short list) = record { items = list.items; room = vec_capacity list - vec_len list; is_long = false }
list_of (Long list) = record { items = list.items; room = vec_capacity list - vec_len list; is_long = true }

-- frames of a side that sends some of up to that length may stand in it
abbrev pub HasPlaces : DataLength → SentList → Type 0
HasPlaces d list = 8 < in_bytes d → IsTrue list.is_long

-- and there is room for so many of them
abbrev pub HasRoom : DataLength → ℕ → SentList → Type 0
HasRoom d n list = (n ≤ list.room) × HasPlaces d list

-- they may not, or there is less room
abbrev pub LacksPlaces : DataLength → ℕ → SentList → Type 0
LacksPlaces d n list = (list.room < n) ⊎ ((8 < in_bytes d) × IsFalse list.is_long)

-- the next frame of a link stands at the end of a list now, to go at that time
pub record HandsOn (at : ℕ) (link next : LinkState) (old new : List Sent) : Type 0 where
  pub frame : Frame
  pub grown : new ≡ old ++ record { at = at; frame = frame } ∷ []
  pub goes : HandsOut link next frame

-- the same, and the frame was due
pub record TookNext (at : ℕ) (link next : LinkView) (old new : List Sent) : Type 0 where
  pub hands : HandsOn at link.state next.state old new
  pub pending : pending link.state ≡ pending next.state + 1
  pub unsent : unsent link.state ≡ unsent next.state + 1
  pub reply_rooms : link.reply_room ≤ next.reply_room
  pub time : next.state.now ≡ link.state.now
  pub setup : next.state.setup ≡ link.state.setup

-- none was due, and the link is as it was
pub record TookNone (link next : LinkView) : Type 0 where
  pub drained : pending link.state ≡ 0
  pub all : EachHistory link.state (λ s E A Q. Q ≡ wire s E A)
  pub same : next ≡ link
