-- The moments that a unit is given, and those of its frames.
use Rattle.std.specs.Prelude.{ℕ, ◌+◌, ◌-◌, ◌*◌, ◌^◌, max, min, Option, Some, None}
use Rattle.uds_unit.specs.declared.clock.Clock.{Clock}

-- the clock at a moment
abbrev pub clock_at : Option Clock → ℕ → Clock
clock_at None moment = record { start = moment; latest = moment }
clock_at (Some clock) moment = record { start = clock.start; latest = max clock.latest moment }

-- the reference of stamps: the latest moment
abbrev pub reference_of : Option Clock → Option ℕ
reference_of None = None
reference_of (Some clock) = Some clock.latest

-- how many milliseconds pass up to a moment
abbrev pub span_at : Option Clock → ℕ → ℕ
span_at None moment = 0
span_at (Some clock) moment = moment - clock.latest

-- how many milliseconds have passed
abbrev pub time_of_clock : Option Clock → ℕ
time_of_clock None = 0
time_of_clock (Some clock) = clock.latest - clock.start

-- the greatest moment in microseconds
abbrev pub last_us : ℕ
last_us = 2 ^ 64 - 1

-- a link's time, where its time 0 was this moment in milliseconds, as a moment in microseconds
abbrev pub moment_us : ℕ → ℕ → ℕ
moment_us start at = min (1000 * (start + at)) last_us

-- the moment at which each tester's link had its time 0
abbrev pub start_of : Option Clock → ℕ
start_of None = 0
start_of (Some clock) = clock.start

-- the moment so many milliseconds behind the latest, or the greatest
abbrev pub due_us : Option Clock → ℕ → ℕ
due_us None quiet = last_us
due_us (Some clock) quiet = moment_us clock.latest quiet
