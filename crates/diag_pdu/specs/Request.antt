-- Requests.
use Rattle.std.specs.Prelude.{ℕ, Bool, List}
use Rattle.diag_pdu.specs.declared.step.Request.{Request}

-- the request of this message, and whether it came on the functional identifier
abbrev pub request_of : Bool → List ℕ → Request
request_of functional message = record { functional = functional; message = message }
