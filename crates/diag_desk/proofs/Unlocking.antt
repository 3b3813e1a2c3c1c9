-- A level is unlocked by its key alone, and stays unlocked only while its tester is the holder: of the runs of a desk.
use Rattle.std.proofs.Common.{◌≡◌, ℕ, zero, suc, ◌<◌, ◌≤◌, ◌⊎◌, inl, inr, List, [], ◌∷◌, length, take, slice_get, Some, None, refl, sym, ap, subst, ◌∙◌, arith}
use Rattle.diag_ecu.specs.State.{State}
use Rattle.diag_ecu.specs.Elapse.{elapse}
use Rattle.diag_ecu.specs.Bytes.{bytes_16}
use Rattle.diag_ecu.specs.Respond.{write_level}
use Rattle.diag_ecu.specs.Unlocking.{HasUnlocked, write_level_of}
use Rattle.diag_ecu.proofs.Unlocking as ecu
use Rattle.diag_desk.specs.Legal.{after_step, after, Legal, reply_to}
use Rattle.diag_desk.specs.Unlocking.{IsOwn, SendsKey, UnlockedBefore, UnlockLaw}
use Rattle.diag_pdu.specs.declared.step.Step.{Step}
use Rattle.diag_pdu.specs.declared.step.Step.TheVariants.{Request, Ticks}
use Rattle.diag_desk.specs.declared.entry.Entry.{Entry}
use Rattle.std.proofs.lemmas.Option.{same_Some, slice_get_within}
use Rattle.std.proofs.lemmas.Bool.{cases_lt}

abbrev after_entry : State → Entry → State
after_entry s e = after_step s e.who e.step

-- ---- a step

step_unlocks : (s : State) (e : Entry) (holder level : ℕ) → HasUnlocked (after_entry s e) holder level
    → HasUnlocked s holder level ⊎ SendsKey s e holder level
step_unlocks s e holder level h =
    elim e.step as (λ step. e.step ≡ step → HasUnlocked (after_step s e.who step) holder level → HasUnlocked s holder level ⊎ SendsKey s e holder level) [
      | Request request ↦ λ is u.
          elim (ecu.request_unlocks s e.who request.message holder level u) [
            | inl before ↦ inl before
            | inr key ↦ inr (record {
              sender = key.0.0;
              request = request;
              is_request = is;
              is_key = key.0.1;
              is_own = subst (λ n. IsOwn s n (Request request)) key.0.0 key.1;
            })
          ]
      | Ticks n ↦ λ is u. inl (ecu.unlocked_before s (elapse s e.who n) holder level (ecu.elapse_keeps s e.who n) u)
    ] refl h

-- ---- a run

entry_at : (entries : List Entry) (i : ℕ) → i < length entries → (e : Entry) × (slice_get entries i ≡ Some e)
entry_at [] i below = absurd (omega arith)
entry_at (e ∷ entries) zero below = (e, refl)
entry_at (e ∷ entries) (suc i) below = entry_at entries i (omega arith)

after_next : (s : State) (entries : List Entry) (i : ℕ) (e : Entry) → slice_get entries i ≡ Some e
    → after s (take (suc i) entries) ≡ after_entry (after s (take i entries)) e
after_next s [] i e at = cc
after_next s (x ∷ entries) zero e at = ap (λ y. after_entry s y) (same_Some x e at)
after_next s (x ∷ entries) (suc i) e at = after_next (after_entry s x) entries i e at

-- what is unlocked after i entries was unlocked by one of them, and stayed so
since : (s : State) (entries : List Entry) (i holder level : ℕ) → s.security.unlocked ≡ None → i ≤ length entries
    → HasUnlocked (after s (take i entries)) holder level → UnlockedBefore s entries i holder level
since s entries zero holder level locked within h = cc (sym locked ∙ h.1)
since s entries (suc i) holder level locked within h =
    let e = entry_at entries i (omega arith) in
    let next = after_next s entries i e.0 e.1 in
    let h' : HasUnlocked (after_entry (after s (take i entries)) e.0) holder level = rw next at h in
    elim (step_unlocks (after s (take i entries)) e.0 holder level h') [
      | inl before ↦
          let old = since s entries i holder level locked (omega arith) before in
          record {
            at = old.at;
            before = let b = old.before in omega arith;
            entry = old.entry;
            is_entry = old.is_entry;
            sends_key = old.sends_key;
            stays = λ j after_key within_i. elim (cases_lt j (suc i)) [
              | inl below ↦ old.stays j after_key (omega arith)
              | inr top ↦ let same : j ≡ suc i = omega arith in rw same h
            ];
          }
      | inr key ↦ record {
        at = i;
        before = omega arith;
        entry = e.0;
        is_entry = e.1;
        sends_key = key;
        stays = λ j after_key within_i.
            let same : j ≡ suc i = omega arith in
            rw same h;
      }
    ]

-- ---- rules stay

step_rules : (s : State) (who : ℕ) (step : Step) → ecu.SameRules s (after_step s who step)
step_rules s who (Request request) = ecu.request_rules s who request.message
step_rules s who (Ticks n) = ecu.elapse_rules s who n

run_rules : (s : State) (entries : List Entry) → ecu.SameRules s (after s entries)
run_rules s [] = λ id. refl
run_rules s (e ∷ entries) = ecu.rules_then s (after_entry s e) (after (after_entry s e) entries) (step_rules s e.who e.step)
    (run_rules (after_entry s e) entries)

-- ---- a written value

-- the reply of an entry of a legal run
legal_at : (s : State) (entries : List Entry) (i : ℕ) (e : Entry) → Legal s entries → slice_get entries i ≡ Some e
    → e.reply ≡ reply_to (after s (take i entries)) e.who e.step
legal_at s [] i e legal at = cc
legal_at s (x ∷ entries) zero e legal at = let same = same_Some x e at in rw (← same) legal.0
legal_at s (x ∷ entries) (suc i) e legal at = legal_at (after_entry s x) entries i e legal.1 at

reply_open : (s : State) (who id : ℕ) (step : Step) → IsOwn s who step → reply_to s who step ≡ Some (0x6E ∷ bytes_16 id) → 0 < write_level_of s id
    → HasUnlocked s who (write_level_of s id)
reply_open s who id (Ticks n) own e above = cc e
reply_open s who id (Request request) own e above = ecu.reply_open s who id request.functional request.message own e above

-- the law
pub unlock : UnlockLaw
unlock s entries locked legal i e id at own written above =
    let now = after s (take i entries) in
    let rules : write_level_of now id ≡ write_level_of s id = ap write_level (run_rules s (take i entries) id) in
    let reply = sym (legal_at s entries i e legal at) ∙ written in
    let opened = reply_open now e.who id e.step own reply (rw rules above) in
    let below = slice_get_within entries i e at in
    since s entries i e.who (write_level_of s id) locked (omega arith) (rw rules at opened)
