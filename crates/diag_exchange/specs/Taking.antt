-- What the calls of a tester's exchanges do.
use Rattle.std.specs.Prelude.{◌≡◌, ◌≤◌, ◌+◌, ◌==◌, Bool, true, false, map, length, ℕ, List, ◌∷◌, [], ◌++◌}
use Rattle.std.specs.List.{filter}
use Rattle.std.specs.List.Sorted.{IsPermutation}
use Rattle.std.specs.Option.{option_to_list}
use Rattle.diag_exchange.specs.Asking.{courses, first_byte}
use Rattle.diag_exchange.specs.Exchanges.{exchange, left_open, over, over_at_end, over_with}
use Rattle.diag_exchange.specs.Streaming.{StandsFor}
use Rattle.diag_exchange.specs.declared.exchanges.Exchanges.{Exchanges}
use Rattle.diag_exchange.specs.declared.happening.Happening.{Happening}
use Rattle.diag_exchange.specs.Over.{Over, Exchange, Unasked}
use Rattle.diag_exchange.specs.declared.open.Open.{Open}

-- what a tester's exchanges stand for
abbrev pub Stands : Exchanges → List Happening → Type 0
Stands own hs = StandsFor own.live.items own.coming hs

-- of all that happened before, whatever it was, this happened behind it, and what was over with it was handed out
abbrev pub Took : Exchanges → Exchanges → List Over → List Over → Happening → Type 0
Took old new out out' h = (hs : List Happening) → Stands old hs
    → Stands new (hs ++ h ∷ []) × (out' ≡ out ++ over_with hs h)

-- nothing was over with it
abbrev pub TookSilently : Exchanges → Exchanges → Happening → Type 0
TookSilently old new h = (hs : List Happening) → Stands old hs
    → Stands new (hs ++ h ∷ []) × (over_with hs h ≡ [])

abbrev pub IsUnchanged : Exchanges → Exchanges → Type 0
IsUnchanged old new = (new.live.items ≡ old.live.items) × (new.coming ≡ old.coming)

-- those that weren't over were handed out
abbrev pub Ended : Exchanges → List Over → List Over → Type 0
Ended old out out' = (hs : List Happening) → Stands old hs → out' ≡ out ++ left_open hs

-- what is over with each happening, one behind the other, is what is over
abbrev pub OverLaw : Type 0
OverLaw = (hs : List Happening) (h : Happening) → over (hs ++ h ∷ []) ≡ over hs ++ over_with hs h

abbrev pub is_exchange : Over → Bool
is_exchange (Exchange request pendings answer) = true
is_exchange (Unasked heard) = false

-- each request is told once, with what all that happened is to it
abbrev pub OnceLaw : Type 0
OnceLaw = (hs : List Happening)
    → IsPermutation (map exchange (courses hs)) (filter is_exchange (over_at_end hs))

abbrev pub has_first_byte : ℕ → Open → Bool
has_first_byte service e = first_byte e.request == service

-- of one first byte at most two exchanges are kept, and one more while a message comes in
abbrev pub FewLaw : Type 0
FewLaw = (own : Exchanges) (hs : List Happening) (service : ℕ) → Stands own hs
    → length (filter (has_first_byte service) own.live.items) ≤ 2 + length (option_to_list own.coming)
