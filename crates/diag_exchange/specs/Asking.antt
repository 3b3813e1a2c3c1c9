-- Which request a message of the unit answers.
use Rattle.std.specs.Prelude.{ℕ, ◌+◌, ◌==◌, ◌&&◌, ◌||◌, not, Bool, true, false, if◌then◌else◌, List, [], ◌∷◌, ◌++◌, length, map, slice_index, Option, Some, None, is_some}
use Rattle.std.specs.List.{find, list_any}
use Rattle.diag_exchange.specs.declared.happening.Happening.{Happening}
use Rattle.diag_exchange.specs.declared.happening.Happening.TheVariants.{Asked, Began, Came, Lost}
use Rattle.diag_exchange.specs.declared.happening.Heard.{Heard}
use Rattle.diag_exchange.specs.declared.happening.AskedRequest.{AskedRequest}
use Rattle.diag_exchange.specs.declared.happening.Start.{Start}

-- ---- messages of the unit

-- response pending (ISO 14229-1:2013, A.1)
abbrev pub says_pending : List ℕ → Bool
says_pending bytes = (length bytes == 3) && (slice_index bytes 0 == 0x7F) && (slice_index bytes 2 == 0x78)

abbrev pub is_pending : Heard → Bool
is_pending m = says_pending m.bytes

abbrev pub is_final : Heard → Bool
is_final m = not (is_pending m)

-- what is coming in once this happened, where this was coming in before
abbrev pub comes_in : Option Start → Happening → Option Start
comes_in before (Asked request) = before
comes_in before (Began start) = Some start
comes_in before (Came bytes) = None
comes_in before Lost = None

abbrev pub coming_after : Option Start → List Happening → Option Start
coming_after before [] = before
coming_after before (h ∷ hs) = coming_after (comes_in before h) hs

-- the first frame of the message that is coming in
abbrev pub coming : List Happening → Option Start
coming hs = coming_after None hs

-- the message that is complete by this
abbrev pub completes : Option Start → Happening → Option Heard
completes (Some start) (Came bytes) = Some (record { start = start; bytes = bytes })
completes before h = None

-- ---- requests

-- the service
abbrev pub first_byte : AskedRequest → ℕ
first_byte request = slice_index request.bytes 0

abbrev pub is_heard : Option (List ℕ) → Bool
is_heard None = false
is_heard (Some reply) = not (says_pending reply)

-- the server replies to a loud request, and not with response pending alone; else it is silent
abbrev pub is_loud : AskedRequest → Bool
is_loud request = is_heard request.expected.reply

-- the later request has the first byte of the earlier one, and isn't silent behind a loud one
abbrev pub replaces : AskedRequest → AskedRequest → Bool
replaces later earlier = (first_byte later == first_byte earlier) && (is_loud later || not (is_loud earlier))

-- ---- which message fits which request

abbrev pub second_is : Option ℕ → List ℕ → Bool
second_is None [] = true
second_is (Some b) (c ∷ bytes) = b == c
second_is second bytes = false

-- a message has the first byte of these, and where that is 7F the second one too
abbrev pub begins_as : Start → List ℕ → Bool
begins_as start [] = false
begins_as start (b ∷ bytes) = (start.first == b) && (not (b == 0x7F) || second_is start.second bytes)

abbrev pub begins_as_reply : Start → Option (List ℕ) → Bool
begins_as_reply start None = false
begins_as_reply start (Some reply) = begins_as start reply

abbrev pub is_positive : Start → ℕ → Bool
is_positive start service = (start.first == service + 0x40) && not (start.first == 0x7F)

-- a positive response to it, a negative one, or one that begins as the server's reply
abbrev pub fits : Start → AskedRequest → Bool
fits start request = is_positive start (first_byte request)
    || begins_as start (0x7F ∷ first_byte request ∷ [])
    || begins_as_reply start request.expected.reply

-- ---- a request, and what became of it

-- a request behind another, and whether that was answered by then
pub record Behind : Type 0 where
  pub request : AskedRequest
  pub answered : Bool

pub record Course : Type 0 where
  pub request : AskedRequest
  -- the messages that answer it, in their order
  pub answers : List Heard
  -- a message is coming in that would answer it
  pub hears : Bool
  -- the tester's requests behind it, in their order
  pub behind : List Behind

-- the message that isn't response pending
abbrev pub answer : Course → Option Heard
answer c = find is_final c.answers

abbrev pub is_answered : Course → Bool
is_answered c = is_some (answer c)

abbrev pub replaced_by : AskedRequest → Behind → Bool
replaced_by request b = replaces b.request request

abbrev pub is_replaced : Course → Bool
is_replaced c = list_any (replaced_by c.request) c.behind

-- a message that begins so may answer it
abbrev pub is_candidate : Start → Course → Bool
is_candidate start c = fits start c.request && not (is_answered c) && not (is_replaced c)

abbrev pub is_loud_candidate : Start → Course → Bool
is_loud_candidate start c = is_candidate start c && is_loud c.request

-- ---- with a happening more

-- the last that has the property, changed
abbrev pub change_last : {X : Type 0} → (X → Bool) → (X → X) → List X → List X
change_last p f [] = []
change_last p f (x ∷ xs) =
    if list_any p xs then x ∷ change_last p f xs else (if p x then f x else x) ∷ xs

abbrev pub asked : AskedRequest → Course
asked request = record { request = request; answers = []; hears = false; behind = [] }

abbrev pub and_behind : AskedRequest → Course → Course
and_behind request c =
    record c { behind = c.behind ++ record { request = request; answered = is_answered c } ∷ [] }

abbrev pub hearing : Course → Course
hearing c = record c { hears = true }

abbrev pub hears_no_more : Course → Course
hears_no_more c = record c { hears = false }

abbrev pub with_answer : Heard → Course → Course
with_answer m c = record c { answers = c.answers ++ m ∷ []; hears = false }

abbrev pub hears_it : Course → Bool
hears_it c = c.hears

-- a message begins: of the candidates the latest loud one hears it; where there is none, the latest silent one
abbrev pub hear : Start → List Course → List Course
hear start cs =
    if list_any (is_loud_candidate start) cs then change_last (is_loud_candidate start) hearing cs
    else change_last (is_candidate start) hearing cs

-- no message is coming in any more; one that is complete answers the request that heard it
abbrev pub finish : Option Heard → List Course → List Course
finish None cs = change_last hears_it hears_no_more cs
finish (Some m) cs = change_last hears_it (with_answer m) cs

abbrev pub happens : Option Start → Happening → List Course → List Course
happens before (Asked request) cs = map (and_behind request) cs ++ asked request ∷ []
happens before (Began start) cs = hear start cs
happens before (Came bytes) cs = finish (completes before (Came bytes)) cs
happens before Lost cs = finish None cs

abbrev pub courses_after : Option Start → List Course → List Happening → List Course
courses_after before cs [] = cs
courses_after before cs (h ∷ hs) = courses_after (comes_in before h) (happens before h cs) hs

-- all requests, in their order
abbrev pub courses : List Happening → List Course
courses hs = courses_after None [] hs
