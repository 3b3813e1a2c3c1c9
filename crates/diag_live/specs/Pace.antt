-- That the ticks of a live run keep pace with the clock.
use Rattle.std.specs.Prelude.{◌≡◌, ◌⊎◌, ◌≤◌, ◌^◌, ℕ, ◌+◌, ◌-◌, min, max, List, [], ◌∷◌, ◌++◌, length, map, drop, Option, Some, None}
use Rattle.diag_can.specs.BusLine.{begun_line, ended_lines}
use Rattle.diag_setup.specs.declared.raw.RawSetup.{RawSetup}
use Rattle.diag_bus.specs.Bus.{BusState, TookLines}
use Rattle.diag_bus.specs.declared.replies.Replies.{Replies}
use Rattle.diag_world.specs.Block.{some_in_block}
use Rattle.diag_world.specs.Server.{quiet_of}
use Rattle.diag_run.specs.Wanted.{any_lines}
use Rattle.diag_live.specs.Live.{Heard, Taken, capture_of, passed}
use Rattle.diag_live.specs.Story.{Asked, Step, Told, Turn, steps_of}
use Rattle.diag_live.specs.declared.bench.Heard.{Heard as AHeard}
use Rattle.diag_live.specs.declared.bench.Heard.TheVariants as heard

-- the line feed that ends a line that is begun
abbrev pub last_feed : List ℕ → List ℕ
last_feed [] = []
last_feed (c ∷ kept) = 10 ∷ []

-- the bytes that are heard further; none where nothing is heard further
abbrev pub heard_bytes : AHeard → Option (List ℕ)
heard_bytes (heard.Piece piece) = Some piece.items
heard_bytes heard.Silence = Some []
heard_bytes heard.End = None
heard_bytes heard.Fault = None
heard_bytes heard.Memory = None

-- the lines that these bytes end
abbrev pub lines_behind : List ℕ → List ℕ → List (List ℕ)
lines_behind seen bytes = drop (length (ended_lines seen)) (ended_lines (seen ++ bytes))

-- what is taken where a clock tells a moment and these bytes were heard: a tick for each millisecond since the moment that it
-- told before, and then the lines
abbrev pub taken_at : ℕ → ℕ → List ℕ → List ℕ → List Taken
taken_at told now seen bytes = passed (now - told) ++ map Heard (lines_behind seen bytes)

-- The bench is asked what comes until something falls due or ends for the unit that took these lines: so many milliseconds behind
-- the moment that was told last; with 2^64 - 1, however long it takes. And it is told whether a block is under way.
pub record IsAsked (setup : RawSetup) (told : ℕ) (taken : List Taken) (turn : Turn) : Type 0 where
  pub bus : BusState Replies
  pub set : bus.setup ≡ setup
  pub took : TookLines any_lines bus (capture_of taken)
  pub until : turn.until ≡ min (told + quiet_of bus.server.ports) (2 ^ 64 - 1)
  pub block : turn.in_block ≡ some_in_block bus.server.ports

-- These are the steps of a run that goes on: the clock told a moment, and then turn by turn the bench was asked what comes
-- until something falls due. It told this moment last (the latest, where the clock goes back); these bytes were heard, and of
-- them and the time this was taken.
pub data Paced (setup : RawSetup) : List Step → ℕ → List ℕ → List Taken → Type 0 where
  began : {now : ℕ} → Paced setup (Told now ∷ []) now [] []
  turned : {steps : List Step} {told : ℕ} {seen : List ℕ} {taken : List Taken} → Paced setup steps told seen taken
      → (turn : Turn) → IsAsked setup told taken turn
      → (bytes : List ℕ) → heard_bytes turn.heard ≡ Some bytes
      → Paced setup (steps ++ steps_of turn) (max told turn.now) (seen ++ bytes) (taken ++ taken_at told turn.now seen bytes)

-- behind what the bench had done before, it did these steps
abbrev pub Did : {B : Type 0} → (B → List Step → Type 0) → B → B → List Step → Type 0
Did story old new steps = (past : List Step) → story old past → story new (past ++ steps)

-- The ticks of what was taken are those that the bench's clock told, turn by turn until the end of the input was heard, which
-- ends a line that is begun.
pub record KeepsPace {B : Type 0} (story : B → List Step → Type 0) (setup : RawSetup) (old new : B) (taken : List Taken)
    : Type 0 where
  pub steps : List Step
  pub last : Turn
  pub did : Did story old new (steps ++ steps_of last)
  pub told : ℕ
  pub seen : List ℕ
  pub before : List Taken
  pub paced : Paced setup steps told seen before
  pub asked : IsAsked setup told before last
  pub ended : last.heard ≡ heard.End
  pub all : taken ≡ before ++ taken_at told last.now seen (last_feed (begun_line seen))

-- how often the bench was asked what comes
abbrev pub times_asked : List Step → ℕ
times_asked [] = 0
times_asked (Asked until in_block heard ∷ steps) = 1 + times_asked steps
times_asked (Told now ∷ steps) = times_asked steps

-- The bench could not hear further when it was asked last; or it was asked 2^64 - 1 times.
pub record GaveUp {B : Type 0} (story : B → List Step → Type 0) (old new : B) : Type 0 where
  pub steps : List Step
  pub did : Did story old new steps
  pub why : ((front : List Step) × (turn : Turn) × (turn.heard ≡ heard.Fault) × (steps ≡ front ++ steps_of turn))
      ⊎ (2 ^ 64 - 1 ≤ times_asked steps)
