-- Exchanges, computed.
use Rattle.std.proofs.Common.{◌≡◌, ℕ, ◌*◌, true, false, Option, Some, None, List, [], ◌∷◌, ◌++◌, map, refl}
use Rattle.diag_exchange.specs.Agreeing.{agrees, is_compared, waited}
use Rattle.diag_exchange.specs.Exchanges.{over, over_at_end}
use Rattle.diag_exchange.specs.declared.happening.Happening.{Happening}
use Rattle.diag_exchange.specs.declared.happening.Happening.TheVariants.{Asked, Began, Came, Lost}
use Rattle.diag_exchange.specs.declared.happening.Expected.{Expected}
use Rattle.diag_exchange.specs.declared.happening.Heard.{Heard}
use Rattle.diag_exchange.specs.Over.{Over, Exchange, Unasked}
use Rattle.diag_exchange.specs.declared.happening.CaptureLine.{CaptureLine}
use Rattle.diag_exchange.specs.declared.happening.AskedRequest.{AskedRequest}
use Rattle.diag_exchange.specs.declared.happening.Start.{Start}

abbrev line : ℕ → CaptureLine
line n = record { number = n; moment = 10 * n }

-- a reply of the model, of which all bytes count
abbrev replies : Option (List ℕ) → Expected
replies reply = record { reply = reply; varies = None; own = true; ignored = false }

abbrev at : ℕ → List ℕ → Option (List ℕ) → AskedRequest
at n bytes reply = record { at = line n; functional = false; bytes = bytes; expected = replies reply }

abbrev second : List ℕ → Option ℕ
second (a ∷ b ∷ bytes) = Some b
second bytes = None

abbrev first : List ℕ → ℕ
first (a ∷ bytes) = a
first [] = 0

-- the first frame of a message, on line n
abbrev start : ℕ → List ℕ → Start
start n bytes = record { at = line n; first = first bytes; second = second bytes }

abbrev heard : ℕ → List ℕ → Heard
heard n bytes = record { start = start n bytes; bytes = bytes }

abbrev begins : ℕ → List ℕ → List Happening
begins n bytes = Began (start n bytes) ∷ []

abbrev comes : List ℕ → List Happening
comes bytes = Came bytes ∷ []

-- a message of one frame, on line n
abbrev single : ℕ → List ℕ → List Happening
single n bytes = begins n bytes ++ comes bytes

abbrev ask : ℕ → List ℕ → Option (List ℕ) → List Happening
ask n bytes reply = Asked (at n bytes reply) ∷ []

-- ---- bus-order

abbrev extended : List ℕ
extended = 0x50 ∷ 0x03 ∷ 0x00 ∷ 0x32 ∷ 0x01 ∷ 0xF4 ∷ []

abbrev standard : List ℕ
standard = 0x50 ∷ 0x01 ∷ 0x00 ∷ 0x32 ∷ 0x01 ∷ 0xF4 ∷ []

abbrev busy : List ℕ
busy = 0x7F ∷ 0x10 ∷ 0x21 ∷ []

abbrev to_extended : List ℕ
to_extended = 0x10 ∷ 0x03 ∷ []

abbrev to_standard : List ℕ
to_standard = 0x10 ∷ 0x01 ∷ []

-- A's first is over at line 4, the other at the end
abbrev order_of_a : List Happening
order_of_a = ask 1 to_extended (Some extended) ++ single 2 extended ++ ask 4 to_standard (Some standard)

order_a : over_at_end order_of_a
    ≡ Exchange (at 1 to_extended (Some extended)) 0 (Some (heard 2 extended)) ∷ Exchange (at 4 to_standard (Some standard)) 0 None ∷ []
order_a = refl

order_a_streamed : over order_of_a ≡ Exchange (at 1 to_extended (Some extended)) 0 (Some (heard 2 extended)) ∷ []
order_a_streamed = refl

order_a_agrees : map agrees (over_at_end order_of_a) ≡ true ∷ false ∷ []
order_a_agrees = refl

order_a_compared : map is_compared (over_at_end order_of_a) ≡ true ∷ false ∷ []
order_a_compared = refl

-- B's first is over at line 5
abbrev order_of_b : List Happening
order_of_b = ask 3 to_extended (Some busy) ++ ask 5 to_extended (Some extended)

order_b : over order_of_b ≡ Exchange (at 3 to_extended (Some busy)) 0 None ∷ []
order_b = refl

order_b_agrees : map agrees (over_at_end order_of_b) ≡ false ∷ false ∷ []
order_b_agrees = refl

-- ---- compare-pending

abbrev read_vin : List ℕ
read_vin = 0x22 ∷ 0xF1 ∷ 0x90 ∷ []

abbrev vin : List ℕ
vin = 0x62 ∷ 0xF1 ∷ 0x90 ∷ 0x31 ∷ 0x32 ∷ 0x33 ∷ 0x34 ∷ 0x35 ∷ []

abbrev pending : ℕ → List ℕ
pending k = 0x7F ∷ k ∷ 0x78 ∷ []

-- TesterPresent, of which no answer is wanted
abbrev silent : List ℕ
silent = 0x3E ∷ 0x80 ∷ []

abbrev slow : List Happening
slow = ask 1 read_vin (Some vin) ++ single 2 (pending 0x22) ++ ask 3 silent None ++ begins 4 vin ++ comes vin

slow_over : over_at_end slow ≡ Exchange (at 1 read_vin (Some vin)) 1 (Some (heard 4 vin)) ∷ Exchange (at 3 silent None) 0 None ∷ []
slow_over = refl

slow_agrees : map agrees (over_at_end slow) ≡ true ∷ true ∷ []
slow_agrees = refl

slow_waited : map waited (over_at_end slow) ≡ Some 30 ∷ None ∷ []
slow_waited = refl

-- ---- compare-present

abbrev present : List ℕ
present = 0x3E ∷ 0x00 ∷ []

abbrev alive : List ℕ
alive = 0x7E ∷ 0x00 ∷ []

-- the loud request is answered, though a silent one stands behind it
present_over : over_at_end (ask 1 present (Some alive) ++ ask 2 silent None ++ single 3 alive)
    ≡ Exchange (at 1 present (Some alive)) 0 (Some (heard 3 alive)) ∷ Exchange (at 2 silent None) 0 None ∷ []
present_over = refl

present_agrees : map agrees (over_at_end (ask 1 present (Some alive) ++ ask 2 silent None ++ single 3 alive)) ≡ true ∷ true ∷ []
present_agrees = refl

-- the silent one is answered where no loud one waits any more
present_again : over_at_end (ask 1 present (Some alive) ++ ask 2 silent None ++ single 3 alive ++ single 4 alive)
    ≡ Exchange (at 1 present (Some alive)) 0 (Some (heard 3 alive)) ∷ Exchange (at 2 silent None) 0 (Some (heard 4 alive)) ∷ []
present_again = refl

-- ---- compare-late

-- the first is over with the second; the second message is asked by nobody
late : over_at_end (ask 1 present (Some alive) ++ ask 2 present (Some alive) ++ single 3 alive ++ single 4 alive)
    ≡ Exchange (at 1 present (Some alive)) 0 None ∷ Unasked (heard 4 alive)
    ∷ Exchange (at 2 present (Some alive)) 0 (Some (heard 3 alive)) ∷ []
late = refl

-- ---- compare-unasked

abbrev short : List ℕ
short = 0x50 ∷ 0x03 ∷ []

unasked : over_at_end (ask 1 to_extended (Some extended) ++ single 2 short ++ single 3 short)
    ≡ Unasked (heard 3 short) ∷ Exchange (at 1 to_extended (Some extended)) 0 (Some (heard 2 short)) ∷ []
unasked = refl

unasked_differs : map agrees (over_at_end (ask 1 to_extended (Some extended) ++ single 2 short ++ single 3 short)) ≡ false ∷ false ∷ []
unasked_differs = refl

-- ---- when an exchange is over

-- the same is asked again while the first answer comes in: it is the first's, which is over with its end
abbrev again : List Happening
again = ask 1 read_vin (Some vin) ++ begins 2 vin ++ ask 3 read_vin (Some vin)

again_waits : over again ≡ []
again_waits = refl

again_comes : over (again ++ comes vin) ≡ Exchange (at 1 read_vin (Some vin)) 0 (Some (heard 2 vin)) ∷ []
again_comes = refl

again_lost : over (again ++ Lost ∷ []) ≡ Exchange (at 1 read_vin (Some vin)) 0 None ∷ []
again_lost = refl

-- one that no message is coming in for is over at once, before an earlier one
again_twice : over (again ++ ask 4 read_vin (Some vin) ++ comes vin)
    ≡ Exchange (at 3 read_vin (Some vin)) 0 None ∷ Exchange (at 1 read_vin (Some vin)) 0 (Some (heard 2 vin)) ∷ []
again_twice = refl

-- the first frame tells that the message is for another request: the first is over with the second
again_other : over (ask 1 read_vin (Some vin) ++ ask 2 to_extended (Some extended) ++ begins 3 extended ++ ask 4 read_vin (Some vin))
    ≡ Exchange (at 1 read_vin (Some vin)) 0 None ∷ []
again_other = refl

-- a silent request behind a loud one closes it not, and one behind a silent one does
silent_behind : over (ask 1 present (Some alive) ++ ask 2 silent None ++ ask 3 silent None) ≡ Exchange (at 2 silent None) 0 None ∷ []
silent_behind = refl

-- nor does another request, while it isn't answered; response pending is no answer
pending_stays : over (ask 1 read_vin (Some vin) ++ single 2 (pending 0x22) ++ ask 3 to_extended (Some extended)) ≡ []
pending_stays = refl

answered_ends : over (ask 1 read_vin (Some vin) ++ single 2 vin ++ ask 3 silent None) ≡ Exchange (at 1 read_vin (Some vin)) 0 (Some (heard 2 vin)) ∷ []
answered_ends = refl

-- a message that began before the request answers it not
early : over_at_end (begins 1 extended ++ ask 2 to_extended (Some extended) ++ comes extended)
    ≡ Unasked (heard 1 extended) ∷ Exchange (at 2 to_extended (Some extended)) 0 None ∷ []
early = refl

-- response pending behind the answer is asked by nobody
pending_behind : over (ask 1 to_extended (Some extended) ++ single 2 extended ++ single 3 (pending 0x10)) ≡ Unasked (heard 3 (pending 0x10)) ∷ []
pending_behind = refl

-- ---- which message fits

-- a negative response says by its second byte which service it is of
abbrev refused : List ℕ
refused = 0x7F ∷ 0x22 ∷ 0x31 ∷ []

negative : over_at_end (ask 1 (0x3F ∷ []) (Some alive) ++ ask 2 read_vin (Some vin) ++ single 3 refused)
    ≡ Exchange (at 1 (0x3F ∷ []) (Some alive)) 0 None ∷ Exchange (at 2 read_vin (Some vin)) 0 (Some (heard 3 refused)) ∷ []
negative = refl

-- no positive response begins with 7F
no_positive : over_at_end (ask 1 (0x3F ∷ []) (Some alive) ++ single 2 (0x7F ∷ 0x00 ∷ []))
    ≡ Unasked (heard 2 (0x7F ∷ 0x00 ∷ [])) ∷ Exchange (at 1 (0x3F ∷ []) (Some alive)) 0 None ∷ []
no_positive = refl

-- a row's reply may begin otherwise
abbrev own_way : List ℕ
own_way = 0x99 ∷ 0x01 ∷ []

by_reply : over_at_end (ask 1 (0xBA ∷ []) (Some own_way) ++ single 2 (0x99 ∷ []))
    ≡ Exchange (at 1 (0xBA ∷ []) (Some own_way)) 0 (Some (heard 2 (0x99 ∷ []))) ∷ []
by_reply = refl

by_negative_reply : over_at_end (ask 1 (0xBA ∷ []) (Some (0x7F ∷ 0x01 ∷ 0x11 ∷ [])) ++ single 2 (0x7F ∷ 0x01 ∷ 0x22 ∷ []) ++ single 3 (0x7F ∷ 0x02 ∷ 0x22 ∷ []))
    ≡ Unasked (heard 3 (0x7F ∷ 0x02 ∷ 0x22 ∷ []))
    ∷ Exchange (at 1 (0xBA ∷ []) (Some (0x7F ∷ 0x01 ∷ 0x11 ∷ []))) 0 (Some (heard 2 (0x7F ∷ 0x01 ∷ 0x22 ∷ []))) ∷ []
by_negative_reply = refl

-- of loud requests with other first bytes that it fits the latest is answered
latest : over_at_end (ask 1 read_vin (Some vin) ++ ask 2 (0xBA ∷ []) (Some (0x62 ∷ [])) ++ single 3 vin ++ single 4 vin)
    ≡ Exchange (at 1 read_vin (Some vin)) 0 (Some (heard 4 vin)) ∷ Exchange (at 2 (0xBA ∷ []) (Some (0x62 ∷ []))) 0 (Some (heard 3 vin)) ∷ []
latest = refl

-- ---- what agrees

abbrev in_a_row : List (List ℕ) → List ℕ
in_a_row [] = []
in_a_row (r ∷ rs) = r ++ in_a_row rs

abbrev one : List ℕ
one = 0x01 ∷ 0x02 ∷ 0x03 ∷ 0x09 ∷ []

abbrev two : List ℕ
two = 0x01 ∷ 0x02 ∷ 0x04 ∷ 0x08 ∷ []

abbrev rest : List ℕ
rest = 0x01 ∷ 0x02 ∷ []

abbrev list : List (List ℕ) → List ℕ
list rs = 0x59 ∷ 0x02 ∷ 0xFF ∷ in_a_row rs

abbrev other_rest : List ℕ
other_rest = 0x01 ∷ 0x03 ∷ []

abbrev exchanged : Expected → Option (List ℕ) → Over
exchanged expected None = Exchange (record { at = line 1; functional = false; bytes = read_vin; expected = expected }) 0 None
exchanged expected (Some sent) =
    Exchange (record { at = line 1; functional = false; bytes = read_vin; expected = expected }) 0 (Some (heard 2 sent))

abbrev lists : List (List ℕ) → List (List ℕ) → Over
lists reply sent = exchanged (replies (Some (list reply))) (Some (list sent))

any_order : agrees (lists (one ∷ two ∷ one ∷ rest ∷ []) (one ∷ one ∷ two ∷ rest ∷ [])) ≡ true
any_order = refl

not_as_often : agrees (lists (one ∷ two ∷ two ∷ []) (one ∷ one ∷ two ∷ [])) ≡ false
not_as_often = refl

one_missing : agrees (lists (one ∷ two ∷ []) (one ∷ [])) ≡ false
one_missing = refl

rest_differs : agrees (lists (one ∷ two ∷ rest ∷ []) (two ∷ one ∷ other_rest ∷ [])) ≡ false
rest_differs = refl

-- a row's list is compared in its order
row_in_order : agrees (exchanged (record (replies (Some (list (one ∷ two ∷ [])))) { own = false }) (Some (list (two ∷ one ∷ [])))) ≡ false
row_in_order = refl

abbrev vary : List ℕ → Expected
vary marks = record (replies (Some (0x62 ∷ 0xF1 ∷ 0x90 ∷ 0x31 ∷ []))) { varies = Some marks }

varies : agrees (exchanged (vary (0 ∷ 0 ∷ 0 ∷ 1 ∷ [])) (Some (0x62 ∷ 0xF1 ∷ 0x90 ∷ 0x55 ∷ []))) ≡ true
varies = refl

varies_there : agrees (exchanged (vary (0 ∷ 0 ∷ 2 ∷ [])) (Some (0x62 ∷ 0xF1 ∷ 0x91 ∷ 0x55 ∷ []))) ≡ false
varies_there = refl

length_counts : agrees (exchanged (vary (0 ∷ 0 ∷ 1 ∷ 1 ∷ [])) (Some (0x62 ∷ 0xF1 ∷ 0x90 ∷ []))) ≡ false
length_counts = refl

nothing_wanted : agrees (exchanged (replies None) (Some vin)) ≡ false
nothing_wanted = refl

-- a silent request whose reply says response pending wants nothing else
pending_wanted : agrees (exchanged (replies (Some (pending 0x22))) None) ≡ true
pending_wanted = refl

-- an exchange that is ignored never differs, and isn't compared
ignored : agrees (exchanged (record (replies (Some vin)) { ignored = true }) None) ≡ true
ignored = refl

ignored_alone : is_compared (exchanged (record (replies (Some vin)) { ignored = true }) (Some vin)) ≡ false
ignored_alone = refl
