-- From a world to the headline.
use Rattle.std.proofs.Common.{◌≡◌, ◌<◌, ◌≤◌, ℕ, ◌+◌, Bool, true, false, cond, Option, Some, None, List, [], ◌∷◌, ◌++◌, length, length-append, refl, ap, ap₂, subst, sym, ◌∙◌, arith}
use Rattle.std.proofs.lemmas.List.{length-map}
use Rattle.std.specs.Prelude.{◌==◌, slice_get, IsSome, Result, Err}
use Rattle.std.specs.Option.{option_to_list}
use Rattle.diag_can.specs.Event.{Event}
use Rattle.diag_pdu.specs.declared.setup.LinkSetup.{LinkSetup}
use Rattle.diag_tp.specs.declared.sent.Sent.{Sent}
use Rattle.diag_pdu.specs.declared.step.Step.{Step}
use Rattle.diag_tp.specs.Gives.{gives, steps}
use Rattle.diag_desk.specs.declared.entry.Entry.{Entry}
use Rattle.diag_desk.specs.Entries.{own, asked, asked_by}
use Rattle.diag_desk.specs.Timed.{own_timed, timed}
use Rattle.diag_port.specs.Late.{pace_of}
use Rattle.diag_port.specs.Releasing.{drawn}
use Rattle.diag_desk.specs.Legal.{Legal}
use Rattle.diag_setup.specs.Setup.{link_of}
use Rattle.diag_setup.specs.declared.raw.RawSetup.{RawSetup}
use Rattle.diag_world.specs.Headline.{IsPlay}
use Rattle.diag_world.specs.Weaving.{items_of, all_by, steps_of, steps_of_after, IsInterleaving, InterleavingLaw}
use Rattle.diag_world.specs.World.{WorldState, Stands}
use Rattle.diag_world.proofs.Weaves.{steps_of_after-append}

-- what a tester asked, of what was asked by each
pub asked_own : (J : List Entry) (t : ℕ) → items_of (asked_by J) t ≡ asked (own J t)
asked_own [] t = refl
asked_own (k ∷ J) t = pick (k.who == t) (asked_own J t)
  where
    pick : (b : Bool) → items_of (asked_by J) t ≡ asked (own J t)
        → cond b (k.step ∷ items_of (asked_by J) t) (items_of (asked_by J) t) ≡ asked (cond b (k ∷ own J t) (own J t))
    pick true h = ap (λ w. k.step ∷ w) h
    pick false h = h

pub headline : (setup : RawSetup) (w : WorldState) (M : List (ℕ × Event)) (logs : List (List Event)) (sent : List (List Sent))
    → InterleavingLaw → IsInterleaving M logs → Stands setup w M → length logs ≡ length setup.testers
    → sent ≡ w.sent → IsPlay setup M logs w.desk sent
headline setup w M logs sent law inter h many is = record {
  opening = h.opening;
  legal = subst (λ s. Legal s w.desk.journal) (sym h.opening) h.serves.legal;
  interleaving = inter;
  run = h.serves.run;
  asks = λ t. sym (asked_own w.desk.journal t) ∙ (ap (λ x. items_of x t) h.serves.run ∙ (law (link_of setup) M t ∙ ap (steps (link_of setup t)) (inter t)));
  testers = ap length is ∙ (h.testers ∙ sym many);
  frames = λ i frames at.
      h.frames i frames (subst (λ s. slice_get s i ≡ Some frames) is at)
      ∙ ap₂ (λ E o. drawn (link_of setup (i + 1)) (pace_of setup) E (own_timed (timed o w.desk.journal) (i + 1))) (inter (i + 1)) (sym h.opening);
}

-- further events take no step away
pub steps_grow : (links : ℕ → LinkSetup) (M N : List (ℕ × Event)) → length (steps_of links M) ≤ length (steps_of links (M ++ N))
steps_grow links M N = omega (arith, ap length (steps_of_after-append links [] M N), length-append (steps_of links M) (steps_of_after links M N))

step_given : (links : ℕ → LinkSetup) (M : List (ℕ × Event)) (t : ℕ) (e : Event) (o : Option Step) → gives (links t) (items_of M t) e ≡ o → IsSome o
    → length (steps_of links (M ++ (t, e) ∷ [])) ≡ length (steps_of links M) + 1
step_given links M t e None is some = cc
step_given links M t e (Some x) is some =
    let one : steps_of_after links M ((t, e) ∷ []) ≡ (t, x) ∷ [] = ap (λ o. all_by t (option_to_list o) ++ []) is in
    ap length (steps_of_after-append links [] M ((t, e) ∷ []))
    ∙ omega (arith, length-append (steps_of links M) (steps_of_after links M ((t, e) ∷ [])), ap length one)

-- a journal that is full has no place for one more step
pub too_many : (links : ℕ → LinkSetup) (J : List Entry) (M : List (ℕ × Event)) (t : ℕ) (e : Event) → asked_by J ≡ steps_of links M → length J ≡ 1000000
    → IsSome (gives (links t) (items_of M t) e) → 1000000 < length (steps_of links (M ++ (t, e) ∷ []))
too_many links J M t e run full some =
    let by : Entry → ℕ × Step = λ k. (k.who, k.step) in
    omega (arith, ap length run, length-map J by, full, step_given links M t e (gives (links t) (items_of M t) e) refl some)

pub same_fault : {X Y : Type 0} (a b : Y) (r : Result X Y) → r ≡ Err a → r ≡ Err b → a ≡ b
same_fault a b r h k = cc
