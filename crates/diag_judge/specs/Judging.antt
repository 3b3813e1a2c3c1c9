-- A tester of a recording: what happened to it, and which of its exchanges differ.
use Rattle.std.specs.Prelude.{◌≡◌, ℕ, not, Bool, List, [], ◌∷◌, ◌++◌, length, map, Option, Some, None}
use Rattle.std.specs.List.{filter, list_any}
use Rattle.diag_can.specs.Log.{waited}
use Rattle.diag_can.specs.Event.{Event, Physical}
use Rattle.diag_can.specs.declared.frame.Frame.{Frame}
use Rattle.diag_pdu.specs.declared.setup.LinkSetup.{LinkSetup}
use Rattle.diag_setup.specs.declared.raw.RawSetup.{RawSetup}
use Rattle.diag_exchange.specs.Agreeing.{agrees, is_compared}
use Rattle.diag_exchange.specs.Exchanges.{left_open, over, over_after, over_at_end}
use Rattle.diag_exchange.specs.declared.happening.Happening.{Happening}
use Rattle.diag_exchange.specs.declared.happening.Happening.TheVariants.{Asked}
use Rattle.diag_exchange.specs.Over.{Over}
use Rattle.diag_exchange.specs.declared.happening.CaptureLine.{CaptureLine}
use Rattle.diag_expect.specs.Expecting.{asked_at}
use Rattle.diag_expect.specs.Entered.{Entered}
use Rattle.diag_listen.specs.Listening.{Listens, all_happen}
use Rattle.diag_listen.specs.declared.listener.Listener.{Listener}
use Rattle.diag_judge.specs.declared.tester.Counts.{Counts}
use Rattle.diag_judge.specs.declared.tester.Tester.{Tester}
use Rattle.diag_judge.specs.declared.tester.Judged.{Judged}

abbrev pub differs : Over → Bool
differs o = not (agrees o)

-- what is over for a tester, and whether it agrees
abbrev pub judged_for : ℕ → Over → Judged
judged_for t o = record { who = t; over = o; agrees = agrees o }

-- how many exchanges they are, how many of them differ, and whether there is a message of the unit to compare
abbrev pub counts_of : List Over → Counts
counts_of os = record { count = length os; differ = length (filter differs os); compared = list_any is_compared os }

abbrev pub AreCounts : Counts → List Over → Type 0
AreCounts counts os = counts ≡ counts_of os

-- it heard these events of the unit's side, and this happened to it
pub record Judges (own : Tester) (E : List Event) (hs : List Happening) : Type 0 where
  pub listens : Listens own.listener E hs
  pub counts : AreCounts own.counts (over hs)

-- ---- a line

abbrev pub frame_events : Option (List ℕ) → List Event
frame_events None = []
frame_events (Some bytes) = Physical bytes ∷ []

abbrev pub request_happens : RawSetup → CaptureLine → Entered → Happening
request_happens setup at entered = Asked (asked_at setup at entered)

-- these are complete with the line
abbrev pub requests_happen : RawSetup → CaptureLine → List Entered → List Happening
requests_happen setup at entered = map (request_happens setup at) entered

-- what a line is to a tester behind these events: what ends by its time, the requests that it completes, and what its
-- frame is to a message
abbrev pub line_happens : RawSetup → LinkSetup → CaptureLine → List Event → ℕ → List Entered → Option (List ℕ) → List Happening
line_happens setup link_setup at E span entered frame =
    all_happen link_setup at E (waited span)
    ++ requests_happen setup at entered
    ++ all_happen link_setup at (E ++ waited span) (frame_events frame)

-- requests were complete behind all that happened, and what was over with them was handed out
abbrev pub HearsRequests : RawSetup → CaptureLine → Listener → Listener → List Over → List Over → List Entered → Type 0
HearsRequests setup at old new out out' entered = (E : List Event) (hs : List Happening)
    → Listens old E hs
    → Listens new E (hs ++ requests_happen setup at entered)
    × (out' ≡ out ++ over_after hs (requests_happen setup at entered))

-- it heard a line, and what was over with it was handed out
abbrev pub HearsLine : RawSetup → CaptureLine → Listener → Listener → List Over → List Over → ℕ → List Entered → Option (List ℕ) → Type 0
HearsLine setup at old new out out' span entered frame = (E : List Event) (hs : List Happening)
    → Listens old E hs
    → Listens new ((E ++ waited span) ++ frame_events frame) (hs ++ line_happens setup old.setup at E span entered frame)
    × (out' ≡ out ++ over_after hs (line_happens setup old.setup at E span entered frame))

-- the bytes of a frame, where there is one
abbrev pub bytes_in : Option Frame → Option (List ℕ)
bytes_in None = None
bytes_in (Some frame) = Some frame.bytes

-- it took a line, and what was over with it was judged
abbrev pub JudgesLine : RawSetup → CaptureLine → ℕ → Tester → Tester → List Judged → List Judged → ℕ → Option (List ℕ) → Type 0
JudgesLine setup at who old new judged judged' span frame = (E : List Event) (hs : List Happening)
    → Judges old E hs
    → Judges new ((E ++ waited span) ++ frame_events frame) (hs ++ line_happens setup old.listener.setup at E span old.entered.items frame)
    × (judged' ≡ judged ++ map (judged_for who) (over_after hs (line_happens setup old.listener.setup at E span old.entered.items frame)))

-- no request was entered, and no message is coming in
abbrev pub IsIdle : Tester → Type 0
IsIdle own = (own.entered.items ≡ []) × (own.listener.exchanges.coming ≡ None)

-- ---- the end

-- the exchanges that weren't over were judged
abbrev pub EndsJudged : Tester → ℕ → List Judged → List Judged → Type 0
EndsJudged own who judged judged' = (E : List Event) (hs : List Happening)
    → Judges own E hs
    → judged' ≡ judged ++ map (judged_for who) (left_open hs)

-- all exchanges were counted
abbrev pub EndsCounted : Tester → Counts → Type 0
EndsCounted own counts = (E : List Event) (hs : List Happening) → Judges own E hs → AreCounts counts (over_at_end hs)
