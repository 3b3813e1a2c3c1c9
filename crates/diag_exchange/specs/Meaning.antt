-- What it means that an exchange agrees.
use Rattle.std.specs.Prelude.{◌≡◌, ◌<◌, ◌⊎◌, ◌↔◌, ℕ, true, false, List, length, take, drop, slice_index, Option, Some, None}
use Rattle.std.specs.List.Sorted.{IsPermutation}
use Rattle.diag_exchange.specs.Agreeing.{agrees, lists_records, marks, records}
use Rattle.diag_exchange.specs.Asking.{says_pending}
use Rattle.diag_exchange.specs.declared.happening.Expected.{Expected}
use Rattle.diag_exchange.specs.declared.happening.Heard.{Heard}
use Rattle.diag_exchange.specs.Over.{Over, Exchange, Unasked}

-- each byte that doesn't vary is the reply's, and there are as many
pub record SameBytes (marks sent reply : List ℕ) : Type 0 where
  pub as_many : length sent ≡ length reply
  pub each : (i : ℕ) → i < length reply → slice_index marks i ≡ 0 → slice_index sent i ≡ slice_index reply i

-- the model's own list of DTCs, its records in some order
pub record SameList (expected : Expected) (sent reply : List ℕ) : Type 0 where
  pub own : expected.own ≡ true
  pub lists : lists_records reply ≡ true
  pub head : take 3 sent ≡ take 3 reply
  pub moved : IsPermutation (records (drop 3 sent)) (records (drop 3 reply))

-- the unit sent the server's reply, or nothing where nothing is wanted
abbrev pub IsAnswer : Expected → Option Heard → Option (List ℕ) → Type 0
IsAnswer expected None None = Unit {0}
IsAnswer expected (Some sent) None = ⊥
IsAnswer expected None (Some reply) = says_pending reply ≡ true
IsAnswer expected (Some sent) (Some reply) = (says_pending reply ≡ false)
    × (SameBytes (marks expected.varies) sent.bytes reply ⊎ SameList expected sent.bytes reply)

abbrev pub Means : Over → Type 0
Means (Exchange request pendings answer) =
    (request.expected.ignored ≡ true) ⊎ IsAnswer request.expected answer request.expected.reply
Means (Unasked heard) = ⊥

-- an exchange agrees exactly where this holds
abbrev pub AgreesLaw : Type 0
AgreesLaw = (o : Over) → (agrees o ≡ true) ↔ Means o
