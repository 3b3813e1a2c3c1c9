-- What is kept of the exchanges that aren't over, and what it stands for.
use Rattle.std.specs.Prelude.{◌≡◌, ◌≤◌, ℕ, suc, ◌+◌, ◌&&◌, ◌||◌, not, Bool, true, false, if◌then◌else◌, List, length, map, drop, slice_get, Option, Some, None, is_some, option_copied, IsSomeAnd}
use Rattle.std.specs.List.{filter, list_any}
use Rattle.std.specs.Option.{option_to_list}
use Rattle.diag_exchange.specs.Asking.{Course, answer, change_last, coming, courses, fits, is_loud, is_pending, is_replaced, replaces}
use Rattle.diag_exchange.specs.Exchanges.{is_open, pendings}
use Rattle.diag_exchange.specs.declared.happening.CaptureLine.{CaptureLine}
use Rattle.diag_exchange.specs.declared.happening.Happening.{Happening}
use Rattle.diag_exchange.specs.declared.happening.Heard.{Heard}
use Rattle.diag_exchange.specs.Over.{Over, Exchange}
use Rattle.diag_exchange.specs.declared.happening.AskedRequest.{AskedRequest}
use Rattle.diag_exchange.specs.declared.happening.Start.{Start}
use Rattle.diag_exchange.specs.declared.happening.TakenRequest.{TakenRequest}
use Rattle.diag_exchange.specs.declared.open.Open.{Open}

-- what is kept of a request and what became of it
abbrev pub kept : Course → Open
kept c = record {
  request = c.request;
  pendings = pendings c;
  answer = answer c;
  hears = c.hears;
  replaced = is_replaced c;
}

abbrev pub hears_it : Open → Bool
hears_it e = e.hears

-- these exchanges are open, and this message is coming in, once all this happened
pub record StandsFor (live : List Open) (now : Option Start) (hs : List Happening) : Type 0 where
  pub are_open : live ≡ map kept (filter is_open (courses hs))
  pub is_coming : now ≡ coming hs
  -- one at most hears it, and none where no message is coming in
  pub one_hears : length (filter hears_it live) ≤ length (option_to_list now)

-- ---- an exchange with a happening more

abbrev pub is_candidate : Start → Open → Bool
is_candidate start e = fits start e.request && not (is_some e.answer) && not e.replaced

abbrev pub is_loud_candidate : Start → Open → Bool
is_loud_candidate start e = is_candidate start e && is_loud e.request

-- a candidate, where loud ones alone are looked for or not
abbrev pub may_hear : Bool → Start → Open → Bool
may_hear true start e = is_loud_candidate start e
may_hear false start e = is_candidate start e

abbrev pub asked_again : AskedRequest → Open → Open
asked_again request e = record e { replaced = e.replaced || replaces request e.request }

abbrev pub hearing : Open → Open
hearing e = record e { hears = true }

abbrev pub hears_no_more : Open → Open
hears_no_more e = record e { hears = false }

abbrev pub with_message : Heard → Open → Open
with_message m e =
    if is_pending m then record e { pendings = e.pendings + 1; hears = false }
    else record e { answer = Some m; hears = false }

-- the one that a message answers which begins so
abbrev pub hear : Start → List Open → List Open
hear start es =
    if list_any (may_hear true start) es then change_last (may_hear true start) hearing es
    else change_last (may_hear false start) hearing es

abbrev pub finish : Option Heard → List Open → List Open
finish None es = change_last hears_it hears_no_more es
finish (Some m) es = change_last hears_it (with_message m) es

-- whether it is over, where the newest happening is a request or not
abbrev pub is_done : Bool → Open → Bool
is_done asked e = (e.replaced || (asked && is_some e.answer)) && not e.hears

abbrev pub goes_on : Bool → Open → Bool
goes_on asked e = not (is_done asked e)

abbrev pub told : Open → Over
told e = Exchange e.request e.pendings e.answer

-- a request of which nothing was heard
abbrev pub opened : AskedRequest → Open
opened request =
    record { request = request; pendings = 0; answer = None; hears = false; replaced = false }

-- the request that is lent so, of whose line nothing is said yet, nor of what varies or is ignored
abbrev pub request_in : TakenRequest → AskedRequest
request_in lent = record {
  at = record { number = 0; moment = 0 };
  functional = lent.functional;
  bytes = lent.bytes.now;
  expected = record { reply = option_copied lent.reply; varies = None; own = lent.own; ignored = false };
}

-- an exchange of another request, else as it was
abbrev pub with_request : AskedRequest → Open → Open
with_request request e = record e { request = request }

-- ---- one that is made for a request

-- it is complete at this line, and ignored or not
abbrev pub completed : CaptureLine → Bool → Open → Open
completed at ignored e =
    record e { request = record e.request { at = at; expected = record e.request.expected { ignored = ignored } } }

-- these bytes of its reply vary
abbrev pub marked : Option (List ℕ) → Open → Open
marked marks e = record e { request = record e.request { expected = record e.request.expected { varies = marks } } }

-- ---- where one stands

-- the last that has the property stands here, or none has it
abbrev pub IsLast : (Open → Bool) → List Open → Option ℕ → Type 0
IsLast p es (Some i) = IsSomeAnd (slice_get es i) (λ e. p e ≡ true) × (list_any p (drop (suc i) es) ≡ false)
IsLast p es None = list_any p es ≡ false
