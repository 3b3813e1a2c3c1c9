-- What is over.
use Rattle.std.specs.Prelude.{ℕ, Bool, true, false, Option}
use Rattle.diag_exchange.specs.declared.happening.AskedRequest.{AskedRequest}
use Rattle.diag_exchange.specs.declared.happening.Heard.{Heard}

-- a request, how many times response pending came, and the message that isn't response pending, where there is one; or a
-- message that no request asked
pub data Over : Type 0 where
  Exchange : (request : AskedRequest) (pendings : ℕ) (answer : Option Heard) → Over
  Unasked : (heard : Heard) → Over

-- it is a message that no request asked
abbrev pub is_unasked : Over → Bool
is_unasked (Exchange request pendings answer) = false
is_unasked (Unasked heard) = true
