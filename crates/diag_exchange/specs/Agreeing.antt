-- Whether what a unit sent is what the server replies.
use Rattle.std.specs.Prelude.{ℕ, ◌-◌, ◌==◌, ◌&&◌, ◌||◌, not, nat_lt, Bool, true, false, List, [], ◌∷◌, ◌++◌, take, drop, bytes_eq, slice_index, Option, Some, None, is_some}
use Rattle.std.specs.List.{count_by, list_all}
use Rattle.std.specs.Option.{is_none}
use Rattle.diag_exchange.specs.Asking.{says_pending}
use Rattle.diag_exchange.specs.declared.happening.Expected.{Expected}
use Rattle.diag_exchange.specs.declared.happening.Heard.{Heard}
use Rattle.diag_exchange.specs.Over.{Over, Exchange, Unasked}

-- ---- bytes that vary

-- a byte varies, or is that one
abbrev pub same_byte : ℕ → ℕ → ℕ → Bool
same_byte mark x y = not (mark == 0) || (x == y)

-- equal, but for the bytes that vary; behind the last mark none does
abbrev pub same_but : List ℕ → List ℕ → List ℕ → Bool
same_but marks [] [] = true
same_but marks [] (y ∷ ys) = false
same_but marks (x ∷ xs) [] = false
same_but [] (x ∷ xs) (y ∷ ys) = (x == y) && same_but [] xs ys
same_but (m ∷ marks) (x ∷ xs) (y ∷ ys) = same_byte m x y && same_but marks xs ys

abbrev pub marks : Option (List ℕ) → List ℕ
marks None = []
marks (Some bytes) = bytes

-- ---- records in any order

-- a list of DTCs, or of those that are supported (ISO 14229-1:2013, 11.3)
abbrev pub lists_records : List ℕ → Bool
lists_records reply = (slice_index reply 0 == 0x59)
    && ((slice_index reply 1 == 0x02) || (slice_index reply 1 == 0x0A))

-- of four bytes each; a shorter rest counts as one
abbrev pub records : List ℕ → List (List ℕ)
records (a ∷ b ∷ c ∷ d ∷ rest) = (a ∷ b ∷ c ∷ d ∷ []) ∷ records rest
records [] = []
records rest = rest ∷ []

abbrev pub times : List ℕ → List (List ℕ) → ℕ
times r rs = count_by (bytes_eq r) rs

abbrev pub as_often : List (List ℕ) → List (List ℕ) → List ℕ → Bool
as_often rs qs r = times r rs == times r qs

-- each as often in the one as in the other
abbrev pub same_records : List (List ℕ) → List (List ℕ) → Bool
same_records rs qs = list_all (as_often rs qs) (rs ++ qs)

abbrev pub same_in_any_order : List ℕ → List ℕ → Bool
same_in_any_order sent reply = lists_records reply && bytes_eq (take 3 sent) (take 3 reply)
    && same_records (records (drop 3 sent)) (records (drop 3 reply))

-- ---- an exchange

abbrev pub same_reply : Expected → List ℕ → List ℕ → Bool
same_reply expected sent reply = same_but (marks expected.varies) sent reply
    || (expected.own && same_in_any_order sent reply)

-- a silent request wants nothing
abbrev pub answers_as : Expected → Option Heard → Option (List ℕ) → Bool
answers_as expected sent None = is_none sent
answers_as expected None (Some reply) = says_pending reply
answers_as expected (Some sent) (Some reply) = not (says_pending reply) && same_reply expected sent.bytes reply

-- the records of a message are looked at: it isn't the reply as it stands, and has its service, kind and mask
abbrev pub orders_records : Expected → List ℕ → List ℕ → Bool
orders_records expected sent reply = not (same_but (marks expected.varies) sent reply)
    && expected.own && lists_records reply && bytes_eq (take 3 sent) (take 3 reply)

abbrev pub answer_has_records : Expected → Option Heard → Option (List ℕ) → Bool
answer_has_records expected sent None = false
answer_has_records expected None (Some reply) = false
answer_has_records expected (Some sent) (Some reply) =
    not (says_pending reply) && orders_records expected sent.bytes reply

-- the records of the unit's message and of the server's reply are put in order to compare them
abbrev pub compares_records : Over → Bool
compares_records (Exchange request pendings answer) =
    not request.expected.ignored && answer_has_records request.expected answer request.expected.reply
compares_records (Unasked heard) = false

-- an exchange that is ignored never differs
abbrev pub agrees : Over → Bool
agrees (Exchange request pendings answer) =
    request.expected.ignored || answers_as request.expected answer request.expected.reply
agrees (Unasked heard) = false

-- there is a message of the unit to compare, response pending included
abbrev pub is_compared : Over → Bool
is_compared (Exchange request pendings answer) =
    not request.expected.ignored && (is_some answer || nat_lt 0 pendings)
is_compared (Unasked heard) = true

-- the time from a request to the first frame of its answer
abbrev pub waited : Over → Option ℕ
waited (Exchange request pendings None) = None
waited (Exchange request pendings (Some sent)) = Some (sent.start.at.moment - request.at.moment)
waited (Unasked heard) = None
