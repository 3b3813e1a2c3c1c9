-- Legal runs, one entry longer or shorter.
use Rattle.std.proofs.Common.{◌≡◌, ℕ, List, [], ◌∷◌, ◌++◌, length, refl, sym, ap, ◌∙◌, subst, arith, ◌+◌, ◌-◌, ◌≤◌, Some, None, take, slice_get, zero, suc}
use Rattle.std.specs.Prelude.{Result, Ok, Err, IfErr}
use Rattle.std.proofs.lemmas.List.{take_more}
use Rattle.std.proofs.lemmas.Option.{slice_get_within, get_or_from_slice_get}
use Rattle.diag_ecu.specs.State.{opening, State}
use Rattle.diag_setup.specs.declared.raw.RawSetup.{RawSetup}
use Rattle.diag_desk.specs.Replay.{AreTesters, DiffersAt, IsLegalFor}
use Rattle.diag_desk.specs.declared.replaying.ReplayFault.{ReplayFault}
use Rattle.diag_desk.specs.declared.replaying.ReplayFault.TheVariants.{Differs, Memory}
use Rattle.diag_setup.specs.Setup.{IsSetup}
use Rattle.diag_desk.specs.Legal.{IsOpening, Legal, after, after_step, reply_to, LegalPrefixLaw}
use Rattle.diag_desk.specs.declared.entry.Entry.{Entry}

pub opens : (setup : RawSetup) (s : State) → IsSetup setup → s ≡ opening setup → IsOpening s
unfolding IsOpening
opens setup s checked is = (setup, checked, is)

-- nothing is unlocked in an opening
pub opens_locked : (s : State) → IsOpening s → s.security.unlocked ≡ None
unfolding IsOpening
opens_locked s h = ap (λ (s : State). s.security.unlocked) h.2

pub legal_more : (s : State) (es : List Entry) (e : Entry) → Legal s es → e.reply ≡ reply_to (after s es) e.who e.step → Legal s (es ++ e ∷ [])
legal_more s [] e h r = (r, tt)
legal_more s (x ∷ xs) e h r = (h.0, legal_more (after_step s x.who x.step) xs e h.1 r)

pub after_more : (s : State) (es : List Entry) (e : Entry) → after s (es ++ e ∷ []) ≡ after_step (after s es) e.who e.step
after_more s [] e = refl
after_more s (x ∷ xs) e = after_more (after_step s x.who x.step) xs e

-- a desk after a step: now is the state before it, next the one after it
pub keeps_legal : (s : State) (es js : List Entry) (e : Entry) (now next : State)
    → Legal s es × (now ≡ after s es) → js ≡ es ++ e ∷ [] → e.reply ≡ reply_to now e.who e.step → next ≡ after_step now e.who e.step
    → Legal s js × (next ≡ after s js)
keeps_legal s es js e now next (h, at) is r n = (
  subst (Legal s) (sym is) (legal_more s es e h (r ∙ ap (λ x. reply_to x e.who e.step) at)),
  n ∙ ap (λ x. after_step x e.who e.step) at ∙ sym (after_more s es e) ∙ ap (after s) (sym is),
)

legal_part : (s : State) (seen more : List Entry) → Legal s (seen ++ more) → Legal s seen
legal_part s [] more h = tt
legal_part s (e ∷ seen) more h = (h.0, legal_part (after_step s e.who e.step) seen more h.1)

pub prefix_is_legal : LegalPrefixLaw
prefix_is_legal = λ s journal seen begins h. legal_part s seen begins.0 (subst (Legal s) begins.1 h)

-- ---- replaying

pub testers_more : (n : ℕ) (es : List Entry) (e : Entry) → AreTesters n es → e.who ≤ n → AreTesters n (es ++ e ∷ [])
testers_more n [] e h k = (k, tt)
testers_more n (x ∷ xs) e h k = (h.0, testers_more n xs e h.1 k)

testers_last : (n : ℕ) (es : List Entry) (e : Entry) → AreTesters n (es ++ e ∷ []) → e.who ≤ n
testers_last n [] e h = h.0
testers_last n (x ∷ xs) e h = testers_last n xs e h.1

legal_last : (s : State) (es : List Entry) (e : Entry) → Legal s (es ++ e ∷ []) → e.reply ≡ reply_to (after s es) e.who e.step
legal_last s [] e h = h.0
legal_last s (x ∷ xs) e h = legal_last (after_step s x.who x.step) xs e h.1

-- the entries up to and with the one at an index
pub take_one : {X : Type 0} (xs : List X) (i : ℕ) (x : X) → slice_get xs i ≡ Some x → take (i + 1) xs ≡ take i xs ++ x ∷ []
take_one xs i x at = take_more xs i x (slice_get_within xs i x at) ∙ ap (λ y. take i xs ++ y ∷ []) (get_or_from_slice_get xs i x x at)

-- one entry more of a run
pub run_more : (setup : RawSetup) (es : List Entry) (i : ℕ) (e : Entry) (now next : State) → slice_get es i ≡ Some e → IsLegalFor setup (take i es)
    → now ≡ after (opening setup) (take i es)
    → e.who ≤ length setup.testers → e.reply ≡ reply_to now e.who e.step → next ≡ after_step now e.who e.step
    → IsLegalFor setup (take (i + 1) es) × (next ≡ after (opening setup) (take (i + 1) es))
run_more setup es i e now next at run is who reply step =
    let kept = keeps_legal (opening setup) (take i es) (take (i + 1) es) e now next (run.1, is) (take_one es i e at) reply step in
    ((subst (AreTesters (length setup.testers)) (sym (take_one es i e at)) (testers_more (length setup.testers) (take i es) e run.0 who), kept.0), kept.1)

back : (i : ℕ) → i ≡ i + 1 - 1
back i = omega arith

-- an entry that differs
pub differs_at : (setup : RawSetup) (es : List Entry) (i : ℕ) (e : Entry) (now : State) → slice_get es i ≡ Some e → IsLegalFor setup (take i es)
    → now ≡ after (opening setup) (take i es)
    → (e.who ≤ length setup.testers → e.reply ≡ reply_to now e.who e.step → ⊥) → DiffersAt setup es (i + 1)
differs_at setup es i e now at run is other = record {
  some = omega arith;
  within = let below = slice_get_within es i e at in omega arith;
  before = subst (λ n. IsLegalFor setup (take n es)) (back i) run;
  differs = λ h.
      let one = subst (IsLegalFor setup) (take_one es i e at) h in
      other (testers_last (length setup.testers) (take i es) e one.0)
      (legal_last (opening setup) (take i es) e one.1 ∙ ap (λ s. reply_to s e.who e.step) (sym is));
}

testers_take : (k n : ℕ) (es : List Entry) → AreTesters k es → AreTesters k (take n es)
testers_take k zero es h = tt
testers_take k (suc n) [] h = tt
testers_take k (suc n) (e ∷ es) h = (h.0, testers_take k n es h.1)

legal_take : (s : State) (n : ℕ) (es : List Entry) → Legal s es → Legal s (take n es)
legal_take s zero es h = tt
legal_take s (suc n) [] h = tt
legal_take s (suc n) (e ∷ es) h = (h.0, legal_take (after_step s e.who e.step) n es h.1)

-- a run has no entry that differs
pub replays_again : (setup : RawSetup) (es : List Entry) (r : Result State ReplayFault) → IfErr r (λ fault. (n : ℕ) → fault ≡ Differs n → DiffersAt setup es n)
    → IsLegalFor setup es → IfErr r (λ fault. fault ≡ Memory)
replays_again setup es (Ok ecu) differs run = tt
replays_again setup es (Err Memory) differs run = refl
replays_again setup es (Err (Differs n)) differs run =
    absurd ((differs n refl).differs (testers_take (length setup.testers) n es run.0, legal_take (opening setup) n es run.1))
