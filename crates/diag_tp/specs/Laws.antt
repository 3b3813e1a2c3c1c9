-- Small laws over the definitions, for who goes on from a link's history.
use Rattle.std.specs.Prelude.{◌≡◌, ◌<◌, ◌≤◌, ℕ, suc, ◌+◌, ◌-◌, List, [], ◌∷◌, ◌++◌, length, map, Some, None, IsSome, IsTrue, false}
use Rattle.diag_can.specs.Event.{Event, Physical, Ticks}
use Rattle.diag_pdu.specs.declared.setup.LinkSetup.{LinkSetup}
use Rattle.diag_pdu.specs.declared.step.Step.TheVariants as step
use Rattle.diag_pdu.specs.Request.{request_of}
use Rattle.diag_pdu.specs.declared.framing.Framing.{Framing}
use Rattle.diag_pdu.specs.Cut.{cut}
use Rattle.diag_tp.specs.Moments.{moments, last_time}
use Rattle.diag_tp.specs.Gives.{gives, gives_at, is_request}
use Rattle.diag_tp.specs.declared.sent.Sent.{Sent}
use Rattle.diag_tp.specs.State.{LinkState}
use Rattle.diag_tp.specs.Wire.{Placed, wire}
use Rattle.diag_tp.specs.Link.{StandsFor, is_frame, pending, quiet, quiet_later}

pub record TimeLaw : Type 0 where
  -- the moments of events and further events
  pub append : (E D : List Event) → moments (E ++ D) ≡ moments E ++ moments D
  -- one tick count after another is their sum
  pub sum : (E : List Event) (n m : ℕ)
      → moments ((E ++ Ticks n ∷ []) ++ Ticks m ∷ []) ≡ moments (E ++ Ticks (n + m) ∷ [])
  -- a frame takes no time, a tick count the time that it says
  pub frame : (E : List Event) (e : Event)
      → IsTrue (is_frame e)
      → last_time (E ++ e ∷ []) ≡ last_time E
  pub ticks : (E : List Event) (n : ℕ) → last_time (E ++ Ticks n ∷ []) ≡ last_time E + n

pub record GivesLaw (s : LinkSetup) (E : List Event) : Type 0 where
  -- a tick count gives the step of so many ticks
  pub ticks : (n : ℕ) → gives s E (Ticks n) ≡ Some (step.Ticks n)
  -- what a frame gives is a request
  pub frame : (e : Event)
      → IsTrue (is_frame e)
      → IsSome (gives s E e)
      → IsTrue (is_request (gives s E e))

-- the frames of P as physical events give P at the last, and nothing before
pub record CutLaw (s : LinkSetup) (P : List ℕ) (f : Framing) : Type 0 where
  pub before : (e : ℕ)
      → suc e < length (cut f P)
      → gives_at s (map (λ bytes. Physical bytes) (cut f P)) e ≡ None
  pub last : gives_at s (map (λ bytes. Physical bytes) (cut f P)) (length (cut f P) - 1)
      ≡ Some (step.Request (request_of false P))

-- So many ticks pass before anything falls due or ends, on a link of which nothing is due: it stands for them, and still hands
-- out nothing.
pub record QuietLaw (s : LinkSetup) (link : LinkState) (E : List Event) (A : List Placed) (Q : List Sent) (n : ℕ) : Type 0 where
  pub stands : StandsFor s (quiet_later n link) (E ++ Ticks n ∷ []) A Q
  pub drained : pending (quiet_later n link) ≡ 0
  pub wire : wire s (E ++ Ticks n ∷ []) A ≡ wire s E A
  pub rest : quiet link ≤ quiet (quiet_later n link) + n
