-- Replies that go later than at once: which messages a reply is, from when on each may go, and the moment at which it is placed.
use Rattle.std.specs.Prelude.{◌≤◌, ◌<◌, ℕ, zero, suc, ◌+◌, ◌*◌, max, nat_le, nat_lt, if◌then◌else◌, List, [], ◌∷◌, ◌++◌, length, map, Option, Some, None}
use Rattle.diag_can.specs.Event.{Event}
use Rattle.diag_tp.specs.Moments.{now}
use Rattle.diag_tp.specs.Wire.{Placed}
use Rattle.diag_setup.specs.declared.raw.RawSetup.{RawSetup}
use Rattle.diag_port.specs.declared.held.Later.{Later}
use Rattle.diag_port.specs.declared.pace.Pace.{Pace}

-- the pace of a setup: response pending goes after P2Server_max, and then after each P2*Server_max, of which a tick is the least
abbrev pub pace_of : RawSetup → Pace
pace_of setup = record { first = setup.p2_ms; step = max 1 (10 * setup.p2_star_10ms) }

-- ---- the messages of a reply

-- response pending
abbrev pub pending_message : ℕ → List ℕ
pending_message sid = 0x7F ∷ sid ∷ 0x78 ∷ []

-- it goes at the pace's first tick after the request, and again at each further step of it, while that is before the answer
abbrev pub pending_at : Pace → ℕ → ℕ → ℕ → Later
pending_at pace t sid i = record { due = t + (pace.first + i * pace.step); message = pending_message sid }

-- n times at most, from the i-th time on
unfoldable pub pendings : Pace → ℕ → ℕ → ℕ → ℕ → ℕ → List Later
pendings pace t d sid zero i = []
pendings pace t d sid (suc n) i =
    if nat_lt (pace.first + i * pace.step) d
    then pending_at pace t sid i ∷ pendings pace t d sid n (suc i)
    else []

-- the most times: no row of a checked setup has an answer that has more before it
abbrev pub most_pendings : ℕ
most_pendings = 255

-- a reply to a request at time t that goes d ticks later, behind its response pending
abbrev pub laters : Pace → ℕ → ℕ → ℕ → Option (List ℕ) → List Later
laters pace t d sid None = []
laters pace t d sid (Some reply) =
    pendings pace t d sid most_pendings 0 ++ record { due = t + d; message = reply } ∷ []

-- ---- where each message is placed

-- a message, and the moment of its request
pub record Late : Type 0 where
  pub from : ℕ
  pub later : Later

-- the first moment whose time is at least t: so many have a time below it. Where the history has none, the one after its last
abbrev pub reaches : List Event → ℕ → ℕ
reaches [] t = if nat_lt 0 t then 1 else 0
reaches (x ∷ past) t = reaches past t + (if nat_lt (now (x ∷ past)) t then 1 else 0)

-- the first moment, from that of the request and from m on, whose time is at least the due time
abbrev pub place_of : List Event → ℕ → Late → ℕ
place_of past m x = max (max m x.from) (reaches past x.later.due)

-- the messages in order, each from the moment of the one before it on; m is where the first may go. What isn't due by the end
-- of the history is not placed, nor what comes after it
abbrev pub placed_late : List Event → ℕ → List Late → List Placed
placed_late past m [] = []
placed_late past m (x ∷ L) =
    if nat_le (place_of past m x) (length past)
    then record { moment = place_of past m x; message = x.later.message } ∷ placed_late past (place_of past m x) L
    else []

-- those that are not placed: they are held
abbrev pub held_late : List Event → ℕ → List Late → List Later
held_late past m [] = []
held_late past m (x ∷ L) =
    if nat_le (place_of past m x) (length past)
    then held_late past (place_of past m x) L
    else map (λ y. y.later) (x ∷ L)

-- every request came by this moment
abbrev pub AreAskedBy : ℕ → List Late → Type 0
AreAskedBy m [] = Unit {0}
AreAskedBy m (x ∷ L) = (x.from ≤ m) × AreAskedBy m L

-- messages of a request at this moment
abbrev pub asked_at : ℕ → List Later → List Late
asked_at m H = map (λ later. record { from = m; later = later }) H

-- ---- what is held, at a time

-- of what is held, what goes to the link at moment d and time t: the first ones, as far as they are due
abbrev pub released : ℕ → ℕ → List Later → List Placed
released d t [] = []
released d t (x ∷ H) =
    if nat_le x.due t then record { moment = d; message = x.message } ∷ released d t H else []

-- and what is held then
abbrev pub still : ℕ → List Later → List Later
still t [] = []
still t (x ∷ H) = if nat_le x.due t then still t H else x ∷ H

-- nothing is due
abbrev pub NoneIsDue : ℕ → List Later → Type 0
NoneIsDue t [] = Unit {0}
NoneIsDue t (x ∷ H) = t < x.due

-- the first one is
abbrev pub IsDue : ℕ → List Later → Type 0
IsDue t [] = ⊥
IsDue t (x ∷ H) = x.due ≤ t
