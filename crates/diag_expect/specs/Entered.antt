-- A request as the server took it, and how it is kept.
use Rattle.std.specs.Prelude.{◌≡◌, ℕ, Bool, true, false, List, Option, None}
use Rattle.diag_exchange.specs.Streaming.{opened}
use Rattle.diag_exchange.specs.declared.open.Open.{Open}

-- of what a reply is made: by the services, or of a row's template, which has these marks where it leaves bytes open
pub data Source : Type 0 where
  Model : Source
  Row : (marks : Option (List ℕ)) → Source

-- whether it came to all units, its bytes, of what the reply is made, and the reply, where there is one
pub record Entered : Type 0 where
  pub functional : Bool
  pub bytes : List ℕ
  pub source : Source
  pub reply : Option (List ℕ)

-- ---- as it is kept: the exchange to come

abbrev pub source_in : Bool → Option (List ℕ) → Source
source_in true marks = Model
source_in false marks = Row marks

abbrev pub entered_in : Open → Entered
entered_in e = record {
  functional = e.request.functional;
  bytes = e.request.bytes;
  source = source_in e.request.expected.own e.request.expected.varies;
  reply = e.request.expected.reply;
}

-- nothing was heard of it, and of the services' own reply nothing is said yet of bytes that vary
pub record IsKept (e : Open) : Type 0 where
  pub new : e ≡ opened e.request
  pub unmarked : e.request.expected.own ≡ true → e.request.expected.varies ≡ None
