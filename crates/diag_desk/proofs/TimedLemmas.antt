-- The delays of a run that goes on, and of one tester's entries.
use Rattle.std.proofs.Common.{◌≡◌, ℕ, ◌==◌, true, false, List, [], ◌∷◌, ◌++◌, refl, ap, sym, ◌∙◌, cond}
use Rattle.diag_desk.specs.declared.entry.Entry.{Entry}
use Rattle.diag_desk.specs.Entries.{own}
use Rattle.diag_desk.specs.Legal.{after, after_step}
use Rattle.diag_desk.specs.Timed.{Timed, delay_to, entries_of, last_after, last_delay, own_timed, timed, timed_entry}
use Rattle.diag_ecu.specs.State.{State}

-- further entries leave the delays of those before, and theirs are told by the state that those make
pub timed-append : (s : State) (J K : List Entry) → timed s (J ++ K) ≡ timed s J ++ timed (after s J) K
timed-append s [] K = refl
timed-append s (e ∷ J) K = ap (λ w. timed_entry s e ∷ w) (timed-append (after_step s e.who e.step) J K)

pub timed_entries : (s : State) (J : List Entry) → entries_of (timed s J) ≡ J
timed_entries s [] = refl
timed_entries s (e ∷ J) = ap (λ w. e ∷ w) (timed_entries (after_step s e.who e.step) J)

-- one tester's entries with their delays are its entries
pub own_timed_entries : (xs : List Timed) (t : ℕ) → entries_of (own_timed xs t) ≡ own (entries_of xs) t
own_timed_entries [] t = refl
own_timed_entries (x ∷ xs) t =
    let rest = own_timed_entries xs t in
    elim (x.entry.who == t) as (λ b. entries_of (cond b (x ∷ own_timed xs t) (own_timed xs t)) ≡ cond b (x.entry ∷ own (entries_of xs) t) (own (entries_of xs) t)) [
      | true ↦ ap (λ w. x.entry ∷ w) rest
      | false ↦ rest
    ]

pub own_timed-append : (xs ys : List Timed) (t : ℕ) → own_timed (xs ++ ys) t ≡ own_timed xs t ++ own_timed ys t
own_timed-append [] ys t = refl
own_timed-append (x ∷ xs) ys t =
    let rest = own_timed-append xs ys t in
    elim (x.entry.who == t) as (λ b. cond b (x ∷ own_timed (xs ++ ys) t) (own_timed (xs ++ ys) t) ≡ cond b (x ∷ own_timed xs t) (own_timed xs t) ++ own_timed ys t) [
      | true ↦ ap (λ w. x ∷ w) rest
      | false ↦ rest
    ]

-- the delay of the last step is that of the entry that was added last
last_of : (n : ℕ) (xs : List Timed) (x : Timed) → last_after n (xs ++ x ∷ []) ≡ x.after
last_of n [] x = refl
last_of n (y ∷ xs) x = last_of y.after xs x

pub last_entered : (s : State) (J : List Entry) (e : Entry) → last_delay (timed s (J ++ e ∷ [])) ≡ delay_to (after s J) e.who e.step
last_entered s J e = ap last_delay (timed-append s J (e ∷ [])) ∙ last_of 0 (timed s J) (timed_entry (after s J) e)

-- a desk after a step: now is the state before it
pub keeps_delay : (s : State) (J K : List Entry) (e : Entry) (now : State) (n : ℕ) → now ≡ after s J → K ≡ J ++ e ∷ []
    → n ≡ delay_to now e.who e.step → n ≡ last_delay (timed s K)
keeps_delay s J K e now n at is delay =
    delay ∙ ap (λ x. delay_to x e.who e.step) at ∙ sym (ap (λ (L : List Entry). last_delay (timed s L)) is ∙ last_entered s J e)
