-- What the events of a unit's side are to its messages, and what is kept of them.
use Rattle.std.specs.Prelude.{◌≡◌, ℕ, ◌&&◌, nat_lt, not, Bool, true, false, List, [], ◌∷◌, ◌++◌, length, slice_get, slice_index, Option, Some, None, IsSome, is_some, option_and_then}
use Rattle.diag_can.specs.Event.{Event, Physical, Functional, Ticks}
use Rattle.diag_pdu.specs.Cut.{consecutive_count}
use Rattle.diag_pdu.specs.Kind.{kind, Kind, Single, First, Overflow, Consecutive, FlowControl, Ignored}
use Rattle.diag_pdu.specs.declared.setup.LinkSetup.{LinkSetup}
use Rattle.diag_pdu.specs.declared.step.Step.{Step}
use Rattle.diag_pdu.specs.declared.step.Step.TheVariants as step
use Rattle.diag_sides.specs.Receiver.{Receiving, completed_by, open_after, ticks_later}
use Rattle.diag_tp.specs.Gives.{gives}
use Rattle.diag_tp.specs.Link.{unfinished}
use Rattle.diag_tp.specs.Moments.{history, last_time}
use Rattle.diag_tp.specs.Reception.{Reception, open_at}
use Rattle.diag_exchange.specs.Exchanges.{over_after, over_with}
use Rattle.diag_exchange.specs.Taking.{IsUnchanged, Stands}
use Rattle.diag_exchange.specs.declared.exchanges.Exchanges.{Exchanges}
use Rattle.diag_exchange.specs.declared.happening.Happening.{Happening}
use Rattle.diag_exchange.specs.declared.happening.Happening.TheVariants.{Asked, Began, Came, Lost}
use Rattle.diag_exchange.specs.Over.{Over}
use Rattle.diag_exchange.specs.declared.happening.CaptureLine.{CaptureLine}
use Rattle.diag_exchange.specs.declared.happening.AskedRequest.{AskedRequest}
use Rattle.diag_exchange.specs.declared.happening.Start.{Start}
use Rattle.diag_listen.specs.declared.listener.Listener.{Listener}

-- ---- messages of the unit

-- some part is to come
abbrev pub is_unfinished : Option Reception → Bool
is_unfinished None = false
is_unfinished (Some r) = nat_lt (length r.parts) (consecutive_count r.rx_dl r.len)

-- a message is coming in
abbrev pub receives : LinkSetup → List Event → Bool
receives s E = is_unfinished (open_at s (history E))

abbrev pub lost_if : Bool → List Happening
lost_if true = Lost ∷ []
lost_if false = []

abbrev pub came : Option Step → Bool → List Happening
came (Some (step.Request request)) broken = Came request.message ∷ []
came (Some (step.Ticks n)) broken = lost_if broken
came None broken = lost_if broken

abbrev pub began : CaptureLine → List ℕ → Happening
began at bytes = Began (record { at = at; first = slice_index bytes 0; second = slice_get bytes 1 })

-- a reception was under way, and isn't any more
abbrev pub breaks : LinkSetup → List Event → Event → Bool
breaks s E e = receives s E && not (receives s (E ++ e ∷ []))

abbrev pub frame_happens : LinkSetup → CaptureLine → List Event → List ℕ → Kind → List Happening
frame_happens s at E bytes (Single payload) = lost_if (receives s E) ++ began at payload ∷ Came payload ∷ []
frame_happens s at E bytes (First len rx_dl head) = lost_if (receives s E) ++ began at head ∷ []
frame_happens s at E bytes Overflow = lost_if (receives s E)
frame_happens s at E bytes (Consecutive sequence_number part) =
    came (gives s E (Physical bytes)) (breaks s E (Physical bytes))
frame_happens s at E bytes (FlowControl flow_status block_size st_min) = []
frame_happens s at E bytes Ignored = []

-- what an event of the unit's side is, behind these
abbrev pub unit_happens : LinkSetup → CaptureLine → List Event → Event → List Happening
unit_happens s at E (Physical bytes) = frame_happens s at E bytes (kind bytes s.max_request)
unit_happens s at E (Functional bytes) = []
unit_happens s at E (Ticks n) = lost_if (breaks s E (Ticks n))

abbrev pub all_happen : LinkSetup → CaptureLine → List Event → List Event → List Happening
all_happen s at E [] = []
all_happen s at E (e ∷ es) = unit_happens s at E e ++ all_happen s at (E ++ e ∷ []) es

-- ---- by what is kept of the message that is coming in

abbrev pub came_by : Option (List ℕ) → Bool → List Happening
came_by (Some message) broken = Came message ∷ []
came_by None broken = lost_if broken

-- what a ConsecutiveFrame is
abbrev pub part_happens : Option Receiving → Kind → List Happening
part_happens o k = came_by (completed_by o k) (is_some o && not (is_some (open_after o k)))

-- what a frame of this kind is
abbrev pub kind_happens : Option Receiving → CaptureLine → Kind → List Happening
kind_happens o at (Single payload) = lost_if (is_some o) ++ began at payload ∷ Came payload ∷ []
kind_happens o at (First len rx_dl head) = lost_if (is_some o) ++ began at head ∷ []
kind_happens o at Overflow = lost_if (is_some o)
kind_happens o at (Consecutive sequence_number part) = part_happens o (Consecutive sequence_number part)
kind_happens o at (FlowControl flow_status block_size st_min) = []
kind_happens o at Ignored = []

-- so many ticks later
abbrev pub after_ticks : LinkSetup → ℕ → Option Receiving → Option Receiving
after_ticks s n o = option_and_then (ticks_later s.n_cr n) o

-- what so many ticks are
abbrev pub ticks_happen : LinkSetup → ℕ → Option Receiving → List Happening
ticks_happen s n o = lost_if (is_some o && not (is_some (after_ticks s n o)))

-- ---- the listener

-- of what a tester is sent, the part that the next frames need
abbrev pub partial_of : LinkSetup → List Event → Option Receiving
partial_of s E = unfinished (last_time E) (open_at s (history E))

-- it heard these events of the unit's side, and this happened to the tester
pub record Listens (own : Listener) (E : List Event) (hs : List Happening) : Type 0 where
  pub stands : Stands own.exchanges hs
  pub partial : own.receiver.partial ≡ partial_of own.setup E
  pub coming : is_some own.exchanges.coming ≡ is_some own.receiver.partial

-- whatever happened before, this happened behind it, and what was over with it was handed out
abbrev pub TookEach : Exchanges → Exchanges → List Over → List Over → List Happening → Type 0
TookEach old new out out' happened = (hs : List Happening)
    → Stands old hs
    → Stands new (hs ++ happened) × (out' ≡ out ++ over_after hs happened)

-- this happened behind those, by which the reception is this, and what was over with it was handed out
pub record HasMoved (new : Listener) (hs happened : List Happening) (before after : List Over)
    (reception : Option Receiving) : Type 0 where
  pub stands : Stands new.exchanges (hs ++ happened)
  pub partial : new.receiver.partial ≡ reception
  pub coming : is_some new.exchanges.coming ≡ is_some reception
  pub out : after ≡ before ++ over_after hs happened

-- whatever happened before
abbrev pub Moves : Listener → Listener → List Over → List Over → List Happening → Option Receiving → Type 0
Moves old new out out' happened partial = (hs : List Happening)
    → Stands old.exchanges hs
    → is_some old.exchanges.coming ≡ is_some old.receiver.partial
    → HasMoved new hs happened out out' partial

-- it heard these events behind those that it had heard, at one line, and what was over with them was handed out
abbrev pub Hears : Listener → Listener → List Over → List Over → CaptureLine → List Event → Type 0
Hears old new out out' at es = (E : List Event) (hs : List Happening)
    → Listens old E hs
    → Listens new (E ++ es) (hs ++ all_happen old.setup at E es)
    × (out' ≡ out ++ over_after hs (all_happen old.setup at E es))

-- memory was refused for what is over where the message that was coming in breaks off: its reception has ended, which isn't told
pub record RefusedLost (old new : Listener) (out out' : List Over) : Type 0 where
  pub coming : IsSome old.exchanges.coming
  pub ended : new.receiver.partial ≡ None
  pub exchanges : IsUnchanged old.exchanges new.exchanges
  pub same : out' ≡ out

-- hearing a frame of this kind may take memory, where this message is coming in
abbrev pub may_refuse : Option Start → Kind → Bool
may_refuse coming (Single payload) = true
may_refuse coming (First len rx_dl head) = true
may_refuse coming Overflow = is_some coming
may_refuse coming (Consecutive sequence_number part) = is_some coming
may_refuse coming (FlowControl flow_status block_size st_min) = false
may_refuse coming Ignored = false

-- a request was complete behind all that happened
abbrev pub HearsRequest : Listener → Listener → List Over → List Over → AskedRequest → Type 0
HearsRequest old new out out' request = (E : List Event) (hs : List Happening)
    → Listens old E hs
    → Listens new E (hs ++ Asked request ∷ [])
    × (out' ≡ out ++ over_with hs (Asked request))
