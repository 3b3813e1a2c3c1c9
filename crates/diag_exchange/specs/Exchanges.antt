-- Which exchanges are over when, and what is told of them.
use Rattle.std.specs.Prelude.{ℕ, ◌&&◌, ◌||◌, not, Bool, if◌then◌else◌, cond, List, [], ◌∷◌, ◌++◌, length, map, Option, Some, None}
use Rattle.std.specs.List.{filter, list_any}
use Rattle.diag_exchange.specs.Asking.{Behind, Course, answer, coming, completes, courses, hears_it, is_pending, replaced_by}
use Rattle.diag_exchange.specs.declared.happening.Happening.{Happening}
use Rattle.diag_exchange.specs.declared.happening.Heard.{Heard}
use Rattle.diag_exchange.specs.Over.{Over, Exchange, Unasked}
use Rattle.diag_exchange.specs.declared.happening.AskedRequest.{AskedRequest}

-- a request behind it closes an exchange that was answered by then, and one that it replaces
abbrev pub closes : AskedRequest → Behind → Bool
closes request b = b.answered || replaced_by request b

abbrev pub is_closed : Course → Bool
is_closed c = list_any (closes c.request) c.behind

-- and no message is coming in that would answer it
abbrev pub is_over : Course → Bool
is_over c = is_closed c && not c.hears

abbrev pub is_open : Course → Bool
is_open c = not (is_over c)

-- how many times response pending came
abbrev pub pendings : Course → ℕ
pendings c = length (filter is_pending c.answers)

abbrev pub exchange : Course → Over
exchange c = Exchange c.request (pendings c) (answer c)

-- of the same requests, then and now, those whose exchange is over now and wasn't then
abbrev pub newly_over : List Course → List Course → List Course
newly_over [] now = []
newly_over (b ∷ before) [] = []
newly_over (b ∷ before) (c ∷ now) =
    cond (not (is_over b) && is_over c) (c ∷ newly_over before now) (newly_over before now)

-- the message that is complete by this, where no request asked it
abbrev pub unasked : List Course → Option Heard → List Over
unasked cs None = []
unasked cs (Some m) = if list_any hears_it cs then [] else Unasked m ∷ []

-- what is over with this, and wasn't before, after these happenings
abbrev pub over_with : List Happening → Happening → List Over
over_with past h = map exchange (newly_over (courses past) (courses (past ++ h ∷ [])))
    ++ unasked (courses past) (completes (coming past) h)

abbrev pub over_after : List Happening → List Happening → List Over
over_after past [] = []
over_after past (h ∷ hs) = over_with past h ++ over_after (past ++ h ∷ []) hs

-- what is over, in the order in which it is
abbrev pub over : List Happening → List Over
over hs = over_after [] hs

-- what isn't over, in the order of the requests
abbrev pub left_open : List Happening → List Over
left_open hs = map exchange (filter is_open (courses hs))

-- what is told where these are all
abbrev pub over_at_end : List Happening → List Over
over_at_end hs = over hs ++ left_open hs
