-- What the journal of a run keeps of each tester: the steps that its own events give, and their time.
use Rattle.std.proofs.Common.{◌≡◌, ℕ, ◌+◌, Bool, true, false, cond, Option, Some, None, List, [], ◌∷◌, ◌++◌, refl, ap, sym, ◌∙◌, append_assoc, arith}
use Rattle.std.proofs.lemmas.List.{append-nil}
use Rattle.std.proofs.lemmas.List.Sums.{sum_by-append, sum_by-cons}
use Rattle.std.specs.Prelude.{◌==◌, IsSome, IsTrue, sum_by}
use Rattle.std.specs.Option.{option_to_list}
use Rattle.diag_can.specs.Event.{Event, Physical, Functional, Ticks}
use Rattle.diag_pdu.specs.declared.setup.LinkSetup.{LinkSetup}
use Rattle.diag_pdu.specs.declared.step.Step.{Step}
use Rattle.diag_pdu.specs.declared.step.Step.TheVariants as step
use Rattle.diag_tp.specs.Gives.{gives, is_request, steps, steps_after}
use Rattle.diag_tp.specs.Moments.{last_time}
use Rattle.diag_tp.proofs.Given.{frame_gives, gives_ticks}
use Rattle.diag_tp.proofs.Moments.{last_time-frame, last_time-ticks}
use Rattle.diag_setup.specs.Setup.{link_of}
use Rattle.diag_setup.specs.declared.raw.RawSetup.{RawSetup}
use Rattle.diag_desk.specs.declared.entry.Entry.{Entry}
use Rattle.diag_ecu.specs.State.{State, opening}
use Rattle.diag_desk.specs.Entries.{asked, asked_by, own}
use Rattle.diag_desk.specs.Text.{ticks_in, ticks_of}
use Rattle.diag_desk.specs.Timed.{Timed, entries_of}
use Rattle.diag_world.specs.Server.{ServerState, Serves, ServesFrom}
use Rattle.diag_world.specs.Weaving.{items_of, steps_of}
use Rattle.diag_world.proofs.Headlines.{asked_own}
use Rattle.diag_world.proofs.Interleavings.{interleaving}

-- each tester's entries ask what its own events give
pub own_asks : (links : ℕ → LinkSetup) (M : List (ℕ × Event)) (K : List Entry) (t : ℕ) → asked_by K ≡ steps_of links M
    → asked (own K t) ≡ steps (links t) (items_of M t)
own_asks links M K t run = sym (asked_own K t) ∙ (ap (λ x. items_of x t) run ∙ interleaving links M t)

-- a tester's ticks are those of its own entries
ticks_own : (K : List Entry) (t : ℕ) → ticks_of t K ≡ sum_by ticks_in (asked (own K t))
ticks_own [] t = refl
ticks_own (k ∷ K) t = pick (k.who == t) (ticks_own K t)
  where
    pick : (b : Bool) → ticks_of t K ≡ sum_by ticks_in (asked (own K t))
        → cond b (ticks_in k.step) 0 + ticks_of t K ≡ sum_by ticks_in (asked (cond b (k ∷ own K t) (own K t)))
    pick true h = omega (arith, h, sum_by-cons ticks_in k.step (asked (own K t)))
    pick false h = omega (arith, h)

-- a request has no ticks
no_ticks_of : (o : Option Step) → (IsSome o → IsTrue (is_request o)) → sum_by ticks_in (option_to_list o) ≡ 0
no_ticks_of None request = refl
no_ticks_of (Some (step.Request asked)) request = refl
no_ticks_of (Some (step.Ticks n)) request = absurd (clash (request refl))
  where
    clash : false ≡ true → ⊥
    clash h = cc

-- an event's time is that of the step that it gives
event_time : (s : LinkSetup) (past : List Event) (e : Event) → sum_by ticks_in (option_to_list (gives s past e)) + last_time past ≡ last_time (past ++ e ∷ [])
event_time s past (Physical bytes) = omega
    (arith, no_ticks_of (gives s past (Physical bytes)) (frame_gives s past (Physical bytes) refl), last_time-frame past (Physical bytes) refl)
event_time s past (Functional bytes) = omega
    (arith, no_ticks_of (gives s past (Functional bytes)) (frame_gives s past (Functional bytes) refl), last_time-frame past (Functional bytes) refl)
event_time s past (Ticks n) =
    let given : sum_by ticks_in (option_to_list (gives s past (Ticks n))) ≡ 0 + n = ap (λ o. sum_by ticks_in (option_to_list o)) (gives_ticks s past n) in
    omega (arith, given, last_time-ticks past n)

steps_time : (s : LinkSetup) (past es : List Event) → sum_by ticks_in (steps_after s past es) + last_time past ≡ last_time (past ++ es)
steps_time s past [] = let same = ap last_time (append-nil past) in omega (arith, same)
steps_time s past (e ∷ es) =
    let given = option_to_list (gives s past e) in
    let both = sum_by-append ticks_in given (steps_after s (past ++ e ∷ []) es) in
    let rest = steps_time s (past ++ e ∷ []) es in
    let whole = ap last_time (append_assoc past (e ∷ []) es) in
    omega (arith, both, event_time s past e, rest, whole)

-- the ticks of a tester in the journal of a run are the time that its events take
pub ticks_of_run : (links : ℕ → LinkSetup) (M : List (ℕ × Event)) (K : List Entry) (t : ℕ) → asked_by K ≡ steps_of links M
    → ticks_of t K ≡ last_time (items_of M t)
ticks_of_run links M K t run =
    let time = steps_time (links t) [] (items_of M t) in
    ticks_own K t ∙ (ap (sum_by ticks_in) (own_asks links M K t run) ∙ omega (arith, time))

-- the same of what a server took
pub ticks_stretched : (opened : State) (T : List Timed) (setup : RawSetup) (server : ServerState) (M : List (ℕ × Event)) (K : List Entry) (t : ℕ)
    → ServesFrom opened T setup server M K → ticks_of t (entries_of T ++ K) ≡ last_time (items_of M t)
ticks_stretched opened T setup server M K t h = ticks_of_run (link_of setup) M (entries_of T ++ K) t h.run

pub ticks_served : (setup : RawSetup) (server : ServerState) (M : List (ℕ × Event)) (K : List Entry) (t : ℕ) → Serves setup server M K
    → ticks_of t K ≡ last_time (items_of M t)
ticks_served setup server M K t h = ticks_stretched (opening setup) [] setup server M K t h
