-- A level is unlocked by its key alone, and a value that needs a level is written by who has unlocked it.
use Rattle.std.proofs.Common.{◌≡◌, ℕ, zero, suc, ◌+◌, ◌-◌, ◌<◌, ◌==◌, ◌⊎◌, inl, inr, Bool, true, false, cond, not, ◌&&◌, List, [], ◌∷◌, length, drop, slice_get, slice_index, slice_set, Option, Some, None, Ok, Err, refl, sym, ap, ◌∙◌, arith}
use Rattle.std.specs.Prelude.{nat_le, is_some, is_none, ◌||◌, ◌/◌, ◌%◌, bytes_eq, unwrap_or, option_map, if◌then◌else◌}
use Rattle.diag_setup.specs.Setup.{first_holding}
use Rattle.diag_setup.proofs.SetupLemmas.{none_hold}
use Rattle.diag_store.specs.Answers as answers
use Rattle.diag_store.specs.Dids as dids
use Rattle.diag_store.specs.Dtcs as dtcs
use Rattle.diag_store.specs.Routines as routines
use Rattle.diag_store.specs.Security as security
use Rattle.diag_store.specs.declared.dids.DidRow.{DidRow}
use Rattle.diag_store.specs.declared.security.SecurityState.{SecurityState}
use Rattle.diag_ecu.specs.declared.effect.Effect.TheVariants.{Nothing, CountWrongKey}
use Rattle.diag_ecu.specs.declared.service.Service.{Service}
use Rattle.diag_ecu.specs.declared.service.Service.TheVariants.{DiagnosticSessionControl, EcuReset, ReadDtcInformation, SecurityAccess, WriteDataByIdentifier, RoutineControl}
use Rattle.diag_ecu.specs.declared.service.Nrc.{Nrc}
use Rattle.diag_ecu.specs.declared.service.Nrc.TheVariants.{ServiceNotSupported}
use Rattle.diag_ecu.specs.State.{State, is_holder, is_open, session_ended, s3_filled, relocked, entered}
use Rattle.diag_ecu.specs.Elapse.{elapse, ticked, s3_ticked, routines_ticked, delay_ticked}
use Rattle.diag_ecu.specs.Respond as ecu
use Rattle.diag_ecu.specs.Service.{row, service_of, nrc_code, is_silent, is_of_wrong_key}
use Rattle.diag_ecu.specs.Unlocking.{HasUnlocked, IsKey, IsRightKey, write_level_of}
use Rattle.diag_ecu.proofs.RuleLemmas.{by_decision, own_by}
use Rattle.diag_ecu.specs.Bytes.{number_16, bytes_16}
use Rattle.std.proofs.lemmas.Option.{same_Some}
use Rattle.std.proofs.lemmas.Slice.Eq.{bytes_eq-Decides}
use Rattle.std.proofs.lemmas.Bool.{eqb-true, and_parts, not-false}

-- a move leaves the holder and the unlocked level, or leaves nothing unlocked
abbrev Same : State → State → Type 0
Same s new = (new.holder ≡ s.holder) × (new.security.unlocked ≡ s.security.unlocked)

abbrev Keeps : State → State → Type 0
Keeps s new = Same s new ⊎ (new.security.unlocked ≡ None)

-- what is unlocked afterwards was so before
pub unlocked_before : (s new : State) (who level : ℕ) → Keeps s new → HasUnlocked new who level → HasUnlocked s who level
unlocked_before s new who level (inl kept) h = (sym kept.0 ∙ h.0, sym kept.1 ∙ h.1)
unlocked_before s new who level (inr none) h = cc (sym none ∙ h.1)

keeps_then : (s mid new : State) → Keeps s mid → Keeps mid new → Keeps s new
keeps_then s mid new (inl first) (inl second) = inl (second.0 ∙ first.0, second.1 ∙ first.1)
keeps_then s mid new (inr none) (inl second) = inr (second.1 ∙ none)
keeps_then s mid new first (inr none) = inr none

either : (s a b : State) (t : Bool) → Keeps s a → Keeps s b → Keeps s (cond t a b)
either s a b true x y = x
either s a b false x y = y

-- ---- time

delay_tick_unlocked : (x : SecurityState) (who : ℕ) → (security.after_tick x who).unlocked ≡ x.unlocked
delay_tick_unlocked x who =
    elim (slice_index x.delays (who - 1) == 0) as (λ b. (cond b x (record x {
      delays = slice_set x.delays (who - 1) (slice_index x.delays (who - 1) - 1);
      wrong_keys = if slice_index x.delays (who - 1) == 1 then slice_set x.wrong_keys (who - 1) 0 else x.wrong_keys;
    })).unlocked ≡ x.unlocked) [ true ↦ refl | false ↦ refl ]

delay_tick_keeps : (s : State) (who : ℕ) → Keeps s (delay_ticked s who)
delay_tick_keeps s who = inl (refl, delay_tick_unlocked s.security who)

s3_tick_keeps : (s : State) → Keeps s (s3_ticked s)
s3_tick_keeps s = either s (session_ended s) (record s { s3_left = s.s3_left - 1 }) (nat_le s.s3_left 1) (inr refl) (inl (refl, refl))

tick_keeps : (s : State) (who : ℕ) → Keeps s (ticked s who)
tick_keeps s who =
    let delayed = delay_ticked s who in
    let one = delay_tick_keeps s who in
    let two = keeps_then s delayed (routines_ticked delayed) one (inl (refl, refl)) in
    either s (s3_ticked (routines_ticked delayed)) delayed (is_holder s who)
    (keeps_then s (routines_ticked delayed) (s3_ticked (routines_ticked delayed)) two (s3_tick_keeps (routines_ticked delayed))) one

pub elapse_keeps : (s : State) (who n : ℕ) → Keeps s (elapse s who n)
elapse_keeps s who zero = inl (refl, refl)
elapse_keeps s who (suc n) = keeps_then s (ticked s who) (elapse (ticked s who) who n) (tick_keeps s who) (elapse_keeps (ticked s who) who n)

-- ---- requests

refused_keeps : (s : State) (who : ℕ) (p : List ℕ) (nrc : Nrc) → Keeps s (ecu.done s who p (ecu.refused_effect nrc))
refused_keeps s who p nrc =
    elim (is_of_wrong_key nrc) as (λ b. Keeps s (ecu.done s who p (cond b CountWrongKey Nothing))) [ true ↦ inl (refl, refl) | false ↦ inl (refl, refl) ]

-- what is told of a service that passes all checks is its effect
own_done : (s : State) (who : ℕ) (service : Service) (p : List ℕ) → ecu.done s who p (ecu.own_effect service) ≡ ecu.effect s who service p
own_done s who EcuReset p = refl
own_done s who service p = refl

entered_keeps : (s : State) (who n : ℕ) → Keeps s (entered s who n)
entered_keeps s who n =
    let ends : State = if is_holder s who then session_ended s else s in
    let other : State = s3_filled (record (relocked s) { holder = Some who; session = n }) in
    either s s (if n == 1 then ends else other) (n == 0) (inl (refl, refl))
    (either s ends other (n == 1) (either s (session_ended s) s (is_holder s who) (inr refl) (inl (refl, refl))) (inr refl))

given_unlocked : (x : SecurityState) (sub : ℕ) → (security.after_seed_given x sub).unlocked ≡ x.unlocked
given_unlocked x sub =
    elim (security.is_unlocked x sub) as (λ b.
    (cond b x (if is_some (security.outstanding_row x.outstanding sub) then x else security.with_new_seed x sub)).unlocked ≡ x.unlocked) [
      | true ↦ refl
      | false ↦ elim (is_some (security.outstanding_row x.outstanding sub)) as (λ b. (cond b x (security.with_new_seed x sub)).unlocked ≡ x.unlocked)
          [ true ↦ refl | false ↦ refl ]
    ]

seed_unlocked : (x : SecurityState) (who sub : ℕ) → (security.after_seed x who sub).unlocked ≡ x.unlocked
seed_unlocked x who sub =
    elim (security.is_delayed x who) as (λ b. (cond b x (security.after_seed_given x sub)).unlocked ≡ x.unlocked) [ true ↦ refl | false ↦ given_unlocked x sub ]

-- a key leaves what is unlocked, or unlocks its level
key_unlocked : (x : SecurityState) (who sub : ℕ) (key : List ℕ) (level : ℕ) → (security.after_key x who sub key).unlocked ≡ Some level
    → (x.unlocked ≡ Some level) ⊎ (sub ≡ level)
key_unlocked x who sub key level =
    elim (security.is_delayed x who) as (λ b.
    (cond b x (if is_none (security.outstanding_row x.outstanding sub) then x else if security.is_right_key x sub key then
    security.after_right_key x who sub else security.after_wrong_key x who)).unlocked ≡ Some level
    → (x.unlocked ≡ Some level) ⊎ (sub ≡ level)) [
      | true ↦ λ h. inl h
      | false ↦ elim (is_none (security.outstanding_row x.outstanding sub))
          as (λ b. (cond b x (if security.is_right_key x sub key then security.after_right_key x who sub else security.after_wrong_key x
          who)).unlocked ≡ Some level
          → (x.unlocked ≡ Some level) ⊎ (sub ≡ level)) [
            | true ↦ λ h. inl h
            | false ↦ elim (security.is_right_key x sub key)
                as (λ b. (cond b (security.after_right_key x who sub) (security.after_wrong_key x who)).unlocked ≡ Some level
                → (x.unlocked ≡ Some level) ⊎ (sub ≡ level)) [
                  | true ↦ λ h. inr (same_Some sub level h)
                  | false ↦ λ h. inl h
                ]
          ]
    ]

routine_keeps : (s : State) (id n : ℕ) → Keeps s (ecu.routine_effect s id n)
routine_keeps s id n =
    either s _ (if n == 0x02 then _ else s) (n == 0x01) (inl (refl, refl)) (either s _ s (n == 0x02) (inl (refl, refl)) (inl (refl, refl)))

-- ---- the key

and_false : (a b : Bool) → a ≡ true → (a && b) ≡ false → b ≡ false
and_false true b h e = e
and_false false b h e = cc

or_true : (a b : Bool) → a ≡ false → (a || b) ≡ true → b ≡ true
or_true true b h e = cc
or_true false b h e = e

some_row : (o : Option ℕ) → is_none o ≡ false → (row : ℕ) × (o ≡ Some row)
some_row None e = cc
some_row (Some row) e = (row, refl)

holder_is : (o : Option ℕ) (who : ℕ) → security.option_is o who ≡ true → o ≡ Some who
holder_is None who e = cc
holder_is (Some t) who e = ap Some (eqb-true t who e)

pub bytes_same : (xs ys : List ℕ) → bytes_eq xs ys ≡ true → xs ≡ ys
bytes_same xs ys e = (bytes_eq-Decides xs ys).0 e

-- what a right key of a level was
abbrev KeyOf : State → ℕ → List ℕ → ℕ → ℕ → Type 0
KeyOf s who p holder level =
    (who ≡ holder) × (ecu.sub p ≡ level + 1)
    × ((row : ℕ) × (security.outstanding_row s.security.outstanding level ≡ Some row)
    × IsRightKey (security.takes_any_key s.security level) s level row (drop 2 p))

-- a key that is right is the one of the outstanding row, or has the length where the level takes any
right_key : (s : State) (level row : ℕ) (outstanding : Option ℕ) (key : List ℕ) (any : Bool) → outstanding ≡ Some row
    → cond any (security.option_is (security.key_len s.security level) (length key))
    (bytes_eq key (security.key_at s.security level (unwrap_or outstanding 0))) ≡ true → IsRightKey any s level row key
right_key s level row outstanding key true is right = holder_is (security.key_len s.security level) (length key) right
right_key s level row outstanding key false is right =
    bytes_same key (security.key_at s.security level (unwrap_or outstanding 0)) right ∙ ap (λ o. security.key_at s.security level (unwrap_or o 0)) is

-- an even sub-function of a key is one above its level
above_level : (n : ℕ) (known : ℕ → Bool) → known n ≡ false → known (n - 1) ≡ true → n ≡ n - 1 + 1
above_level zero known none passes = cc (sym none ∙ passes)
above_level (suc n) known none passes = omega arith

-- a key that passes the checks is the right one, of the holder
key_passes : (s : State) (who : ℕ) (p : List ℕ) → ecu.is_seed_request s p ≡ false
    → first_holding (ecu.checks s who SecurityAccess p) ≡ None
    → (s.holder ≡ Some who) × KeyOf s who p who (ecu.key_level p)
key_passes s who p key passes =
    let h = none_hold (ecu.checks s who SecurityAccess p) passes in
    let is_key : not (ecu.is_seed_request s p) ≡ true = rw key refl in
    let known : ℕ → Bool = λ n. is_some (security.level_of s.security n) in
    let level = ecu.key_level p in
    let outstanding = security.outstanding_row s.security.outstanding level in
    let level_known = or_true (known (ecu.sub p)) (known level) key (not-false (known (ecu.sub p) || known level) h.1.1.1.0) in
    let row = some_row outstanding (and_false (not (ecu.is_seed_request s p)) (is_none outstanding) is_key h.1.1.1.1.1.1.0) in
    let right = security.is_right_key s.security level (drop 2 p) in
    let of_row = right_key s level row.0 outstanding (drop 2 p) (security.takes_any_key s.security level) row.1
    (not-false right (and_false (not (ecu.is_seed_request s p)) (not right) is_key h.1.1.1.1.1.1.1.0)) in
    (holder_is s.holder who (not-false (is_holder s who) h.0), (refl, above_level (ecu.sub p) known key level_known, (row.0, row.1, of_row)))

-- what a served request leaves: all as it was, or nothing unlocked, or what its key unlocked
pub effect_unlocks : (s : State) (who : ℕ) (service : Service) (p : List ℕ) (holder level : ℕ)
    → first_holding (ecu.checks s who service p) ≡ None
    → HasUnlocked (ecu.effect s who service p) holder level
    → HasUnlocked s holder level ⊎ ((service ≡ SecurityAccess) × KeyOf s who p holder level)
effect_unlocks s who DiagnosticSessionControl p holder level passes h =
    inl (unlocked_before s (entered s who (ecu.sub p)) holder level (entered_keeps s who (ecu.sub p)) h)
effect_unlocks s who EcuReset p holder level passes h = cc h.0
effect_unlocks s who SecurityAccess p holder level passes h =
    elim (ecu.is_seed_request s p) as (λ b. ecu.is_seed_request s p ≡ b
    → HasUnlocked (cond b (record s { security = security.after_seed s.security who (ecu.sub p) })
    (record s { security = security.after_key s.security who (ecu.key_level p) (drop 2 p) })) holder level
    → HasUnlocked s holder level ⊎ ((SecurityAccess ≡ SecurityAccess) × KeyOf s who p holder level)) [
      | true ↦ λ is_seed u. inl (u.0, sym (seed_unlocked s.security who (ecu.sub p)) ∙ u.1)
      | false ↦ λ is_key u.
          elim (key_unlocked s.security who (ecu.key_level p) (drop 2 p) level u.1) [
            | inl before ↦ inl (u.0, before)
            | inr its_level ↦
                let accepted = key_passes s who p is_key passes in
                let sender : who ≡ holder = cc (sym accepted.0 ∙ u.0) in
                inr (refl, rw (← sender, ← its_level) accepted.1)
          ]
    ] refl h
effect_unlocks s who RoutineControl p holder level passes h =
    inl (unlocked_before s (ecu.routine_effect s (number_16 p 2) (ecu.sub p)) holder level (routine_keeps s (number_16 p 2) (ecu.sub p)) h)
effect_unlocks s who service p holder level passes h = inl h

-- ---- a request

alive_keeps : (s : State) (who after : ℕ) → Keeps s (ecu.kept_alive s who after)
alive_keeps s who after = either s _ s (is_holder s who) (inl (refl, refl)) (inl (refl, refl))

security_access_id : (n : ℕ) → service_of n ≡ Some SecurityAccess → n ≡ 0x27
security_access_id n e = grind arith

-- what is unlocked after the services' own effect was so before, or the key unlocked it
outcome_unlocks : (s : State) (who : ℕ) (p : List ℕ) (holder level : ℕ)
    → HasUnlocked (ecu.done s who p (ecu.outcome s who p).effect) holder level
    → HasUnlocked s holder level ⊎ ((who ≡ holder) × IsKey s p level)
outcome_unlocks s who p holder level unlocked =
    elim (service_of (ecu.sid p)) as (λ service. service_of (ecu.sid p) ≡ service
    → HasUnlocked (ecu.done s who p (ecu.served s who service p).effect) holder level
    → HasUnlocked s holder level ⊎ ((who ≡ holder) × IsKey s p level)) [
      | None ↦ λ is u. inl u
      | Some service ↦ λ is u.
          elim (first_holding (ecu.checks s who service p)) as (λ first. first_holding (ecu.checks s who service p) ≡ first
          → HasUnlocked (ecu.done s who p (ecu.outcome_of s service p first).effect) holder level
          → HasUnlocked s holder level ⊎ ((who ≡ holder) × IsKey s p level)) [
            | Some nrc ↦ λ refusal v. inl (unlocked_before s (ecu.done s who p (ecu.refused_effect nrc)) holder level (refused_keeps s who p nrc) v)
            | None ↦ λ passes v.
                elim (effect_unlocks s who service p holder level passes (rw (own_done s who service p) at v)) [
                  | inl before ↦ inl before
                  | inr key ↦ inr (
                    key.1.0,
                    record {
                      service = security_access_id (ecu.sid p) (is ∙ ap Some key.0);
                      sub_function = key.1.1;
                      row = key.1.2.0;
                      outstanding = key.1.2.1;
                      key = key.1.2.2;
                    },
                  )
                ]
          ] refl u
    ] refl unlocked

-- and a row's answer unlocks nothing
answered_keeps : (s : State) (who index : ℕ) → Keeps s (ecu.answered s who index)
answered_keeps s who index =
    let moved : State = record s { answers = answers.rows_moved_on s.answers index } in
    keeps_then s moved (ecu.answered s who index) (inl (refl, refl)) (entered_keeps moved who (ecu.enter_of (slice_get s.answers index)))

and_own : {A B : Type 0} (C : Type 0) → C → A ⊎ B → A ⊎ (B × C)
and_own C own (inl a) = inl a
and_own C own (inr b) = inr (b, own)

-- what is unlocked after a request was so before, or its key unlocked it, which the services answered
pub request_unlocks : (s : State) (who : ℕ) (p : List ℕ) (holder level : ℕ)
    → HasUnlocked (ecu.after_request s who p) holder level
    → HasUnlocked s holder level ⊎ (((who ≡ holder) × IsKey s p level) × (ecu.rule_answers (ecu.rule_for s who p) ≡ false))
request_unlocks s who p holder level h =
    let done = ecu.done s who p (ecu.decision s who p).effect in
    let unlocked = unlocked_before done (ecu.after_request s who p) holder level (alive_keeps done who (ecu.delay s who p)) h in
    by_decision s who p (λ e. HasUnlocked (ecu.done s who p e) holder level
    → HasUnlocked s holder level ⊎ (((who ≡ holder) × IsKey s p level) × (ecu.rule_answers (ecu.rule_for s who p) ≡ false)))
    (λ own u. and_own (ecu.rule_answers (ecu.rule_for s who p) ≡ false) own (outcome_unlocks s who p holder level u)) (λ u. inl u)
    (λ n u. inl (unlocked_before s (ecu.answered s who n) holder level (answered_keeps s who n) u)) unlocked

-- ---- rules stay

-- a move leaves the rules of all identifiers
abbrev pub SameRules : State → State → Type 0
SameRules s new = (id : ℕ) → dids.rule_of new.dids id ≡ dids.rule_of s.dids id

pub rules_then : (s mid new : State) → SameRules s mid → SameRules mid new → SameRules s new
rules_then s mid new first second id = second id ∙ first id

either_rules : (s a b : State) (t : Bool) → SameRules s a → SameRules s b → SameRules s (cond t a b)
either_rules s a b true x y = x
either_rules s a b false x y = y

value_rules : (rows : List DidRow) (id at : ℕ) (value : List ℕ) → dids.rule_of (dids.with_value rows id value) at ≡ dids.rule_of rows at
value_rules [] id at value = refl
value_rules (row ∷ rows) id at value =
    elim (row.id == id) as (λ b. dids.rule_of (cond b (record row { value = record { items = value } } ∷ rows) (row ∷ dids.with_value rows id value))
    at ≡ dids.rule_of (row ∷ rows) at) [
      | true ↦ elim (row.id == at) as (λ b. option_map (λ (r : DidRow). r.rule)
          (cond b (Some (record row { value = record { items = value } })) (dids.row_of rows at))
          ≡ option_map (λ (r : DidRow). r.rule) (cond b (Some row) (dids.row_of rows at))) [ true ↦ refl | false ↦ refl ]
      | false ↦ elim (row.id == at) as (λ b. option_map (λ (r : DidRow). r.rule) (cond b (Some row) (dids.row_of (dids.with_value rows id value) at))
          ≡ option_map (λ (r : DidRow). r.rule) (cond b (Some row) (dids.row_of rows at))) [
            | true ↦ refl
            | false ↦ value_rules rows id at value
          ]
    ]

tick_rules : (s : State) (who : ℕ) → SameRules s (ticked s who)
tick_rules s who =
    let late = routines_ticked (delay_ticked s who) in
    either_rules s (s3_ticked late) (delay_ticked s who) (is_holder s who)
    (either_rules s (session_ended late) (record late { s3_left = late.s3_left - 1 }) (nat_le late.s3_left 1) (λ id. refl) (λ id. refl)) (λ id. refl)

pub elapse_rules : (s : State) (who n : ℕ) → SameRules s (elapse s who n)
elapse_rules s who zero = λ id. refl
elapse_rules s who (suc n) = rules_then s (ticked s who) (elapse (ticked s who) who n) (tick_rules s who) (elapse_rules (ticked s who) who n)

refused_rules : (s : State) (who : ℕ) (p : List ℕ) (nrc : Nrc) → SameRules s (ecu.done s who p (ecu.refused_effect nrc))
refused_rules s who p nrc =
    elim (is_of_wrong_key nrc) as (λ b. SameRules s (ecu.done s who p (cond b CountWrongKey Nothing))) [ true ↦ λ id. refl | false ↦ λ id. refl ]

entered_rules : (s : State) (who n : ℕ) → SameRules s (entered s who n)
entered_rules s who n =
    let ends : State = if is_holder s who then session_ended s else s in
    let other : State = s3_filled (record (relocked s) { holder = Some who; session = n }) in
    either_rules s s (if n == 1 then ends else other) (n == 0) (λ id. refl)
    (either_rules s ends other (n == 1) (either_rules s (session_ended s) s (is_holder s who) (λ id. refl) (λ id. refl)) (λ id. refl))

effect_rules : (s : State) (who : ℕ) (service : Service) (p : List ℕ) → SameRules s (ecu.effect s who service p)
effect_rules s who DiagnosticSessionControl p = entered_rules s who (ecu.sub p)
effect_rules s who SecurityAccess p =
    either_rules s (record s { security = security.after_seed s.security who (ecu.sub p) })
    (record s { security = security.after_key s.security who (ecu.key_level p) (drop 2 p) }) (ecu.is_seed_request s p) (λ id. refl) (λ id. refl)
effect_rules s who WriteDataByIdentifier p = λ id. value_rules s.dids (number_16 p 1) id (drop 3 p)
effect_rules s who RoutineControl p =
    either_rules s (record s { routines = routines.started s.routines (number_16 p 2) })
    (if ecu.sub p == 0x02 then record s { routines = routines.stopped s.routines (number_16 p 2) } else s) (ecu.sub p == 0x01) (λ id. refl)
    (either_rules s (record s { routines = routines.stopped s.routines (number_16 p 2) }) s (ecu.sub p == 0x02) (λ id. refl) (λ id. refl))
effect_rules s who service p = λ id. refl

outcome_rules : (s : State) (who : ℕ) (service : Service) (p : List ℕ) (first : Option Nrc)
    → SameRules s (ecu.done s who p (ecu.outcome_of s service p first).effect)
outcome_rules s who service p None = rw (own_done s who service p) (effect_rules s who service p)
outcome_rules s who service p (Some nrc) = refused_rules s who p nrc

served_rules : (s : State) (who : ℕ) (service : Option Service) (p : List ℕ) → SameRules s (ecu.done s who p (ecu.served s who service p).effect)
served_rules s who None p = λ id. refl
served_rules s who (Some service) p = outcome_rules s who service p (first_holding (ecu.checks s who service p))

answered_rules : (s : State) (who index : ℕ) → SameRules s (ecu.answered s who index)
answered_rules s who index =
    entered_rules (record s { answers = answers.rows_moved_on s.answers index }) who (ecu.enter_of (slice_get s.answers index))

pub request_rules : (s : State) (who : ℕ) (p : List ℕ) → SameRules s (ecu.after_request s who p)
request_rules s who p =
    let done = ecu.done s who p (ecu.decision s who p).effect in
    rules_then s done (ecu.kept_alive done who (ecu.delay s who p))
    (by_decision s who p (λ e. SameRules s (ecu.done s who p e)) (λ own. served_rules s who (service_of (ecu.sid p)) p) (λ id. refl) (answered_rules s who))
    (either_rules done _ done (is_holder done who) (λ id. refl) (λ id. refl))

-- ---- a written value

-- a reply that begins otherwise is not that of a write
other_first : (a : ℕ) → (a == 0x6E) ≡ false → (xs ys : List ℕ) → a ∷ xs ≡ 0x6E ∷ ys → ⊥
other_first a other xs ys e =
    let first : a ≡ 0x6E = ap (λ (x : List ℕ). slice_index x 0) e in
    let test : (0x6E == 0x6E) ≡ false = rw first at other in
    cc test

-- a negative response begins with 7F
negative_differs : (functional : Bool) (p rest : List ℕ) (nrc : Nrc) → ecu.sent functional p (Err nrc) ≡ Some (0x6E ∷ rest) → ⊥
negative_differs functional p rest nrc e =
    elim (functional && is_silent nrc) as (λ b. cond b None (Some (0x7F ∷ ecu.sid p ∷ nrc_code nrc ∷ [])) ≡ Some (0x6E ∷ rest) → ⊥) [
      | true ↦ λ h. cc h
      | false ↦ λ h. other_first 0x7F refl (ecu.sid p ∷ nrc_code nrc ∷ []) rest (ap (λ (o : Option (List ℕ)). unwrap_or o []) h)
    ] e

pub positive_sent : (functional : Bool) (p reply whole : List ℕ) → ecu.sent functional p (Ok reply) ≡ Some whole → reply ≡ whole
positive_sent functional p reply whole e =
    elim (ecu.is_suppressed (service_of (ecu.sid p)) p) as (λ b. cond b None (Some reply) ≡ Some whole → reply ≡ whole) [
      | true ↦ λ h. cc h
      | false ↦ λ h. cc h
    ] e

-- the reply of a service begins with its identifier and 40
dtc_first : (s : State) (p : List ℕ) → slice_index (ecu.dtc_reply s p) 0 ≡ 0x59
dtc_first s p =
    elim (ecu.sub p == 0x01) as (λ b. slice_index
    (cond b (0x59 ∷ 0x01 ∷ s.values.availability ∷ 0x01 ∷ bytes_16 (length (dtcs.matching s.dtcs (ecu.mask_of s p))))
    (if ecu.sub p == 0x02 then ecu.counted_reply s (ecu.mask_of s p) else ecu.all_reply s)) 0 ≡ 0x59) [
      | true ↦ refl
      | false ↦ elim (ecu.sub p == 0x02) as (λ b. slice_index (cond b (ecu.counted_reply s (ecu.mask_of s p)) (ecu.all_reply s)) 0 ≡ 0x59)
          [ true ↦ refl | false ↦ refl ]
    ]

pub reply_first : (s : State) (service : Service) (p : List ℕ) → slice_index (ecu.positive_reply s service p) 0 ≡ (row service).identifier + 0x40
reply_first s ReadDtcInformation p = dtc_first s p
reply_first s service p = refl

row_found : (service : Service) → service_of (row service).identifier ≡ Some service
row_found EcuReset = refl
row_found service = refl

-- so such a reply to a write is that of the service that writes
writes : (s : State) (service : Service) (p rest : List ℕ) → ecu.positive_reply s service p ≡ 0x6E ∷ rest → service ≡ WriteDataByIdentifier
writes s service p rest e =
    let first : (row service).identifier + 0x40 ≡ 0x6E = sym (reply_first s service p) ∙ ap (λ (x : List ℕ). slice_index x 0) e in
    let identifier : (row service).identifier ≡ 0x2E = omega (arith, first) in
    same_Some service WriteDataByIdentifier (sym (row_found service) ∙ ap service_of identifier)

open_unlocked : (s : State) (who level : ℕ) → 0 < level → is_open s who level ≡ true → HasUnlocked s who level
open_unlocked s who level above e =
    elim (level == 0) as (λ b. (level == 0) ≡ b → cond b true (is_holder s who && security.is_unlocked s.security level) ≡ true → HasUnlocked s who level) [
      | true ↦ λ is h. let nothing = eqb-true level 0 is in absurd (omega arith)
      | false ↦ λ is h.
          let parts = and_parts (is_holder s who) (security.is_unlocked s.security level) h in
          (holder_is s.holder who parts.0, holder_is s.security.unlocked level parts.1)
    ] refl e

-- a positive reply to a write of an identifier whose level is above 0
write_passes : (s : State) (who id : ℕ) (p : List ℕ) → first_holding (ecu.checks s who WriteDataByIdentifier p) ≡ None
    → ecu.positive_reply s WriteDataByIdentifier p ≡ 0x6E ∷ bytes_16 id → 0 < write_level_of s id → HasUnlocked s who (write_level_of s id)
write_passes s who id p passes e above =
    let h = none_hold (ecu.checks s who WriteDataByIdentifier p) passes in
    let number = number_16 p 1 in
    let high : number / 256 ≡ id / 256 = ap (λ (x : List ℕ). slice_index x 1) e in
    let low : number % 256 ≡ id % 256 = ap (λ (x : List ℕ). slice_index x 2) e in
    let same : number ≡ id = omega arith in
    let allowed = not-false (is_open s who (write_level_of s number)) h.1.1.1.1.1.1.0 in
    open_unlocked s who (write_level_of s id) above (ap (λ n. is_open s who (write_level_of s n)) (sym same) ∙ allowed)

write_open : (s : State) (who id : ℕ) (service : Service) (p : List ℕ) → service ≡ WriteDataByIdentifier → first_holding (ecu.checks s who service p) ≡ None
    → ecu.positive_reply s service p ≡ 0x6E ∷ bytes_16 id → 0 < write_level_of s id → HasUnlocked s who (write_level_of s id)
write_open s who id service p is passes e above =
    write_passes s who id p (ap (λ x. first_holding (ecu.checks s who x p)) (sym is) ∙ passes) (ap (λ x. ecu.positive_reply s x p) (sym is) ∙ e) above

own_open : (s : State) (who id : ℕ) (functional : Bool) (p : List ℕ) → ecu.own_reply s who functional p ≡ Some (0x6E ∷ bytes_16 id)
    → 0 < write_level_of s id → HasUnlocked s who (write_level_of s id)
own_open s who id functional p e above =
    elim (service_of (ecu.sid p)) as (λ service. ecu.sent functional p (ecu.served s who service p).answer ≡ Some (0x6E ∷ bytes_16 id)
    → HasUnlocked s who (write_level_of s id)) [
      | None ↦ λ r. absurd (negative_differs functional p _ ServiceNotSupported r)
      | Some service ↦ λ r.
          elim (first_holding (ecu.checks s who service p)) as (λ first. first_holding (ecu.checks s who service p) ≡ first
          → ecu.sent functional p (ecu.outcome_of s service p first).answer ≡ Some (0x6E ∷ bytes_16 id) → HasUnlocked s who (write_level_of s id)) [
            | Some nrc ↦ λ refusal q. absurd (negative_differs functional p _ nrc q)
            | None ↦ λ passes q.
                let reply = positive_sent functional p (ecu.positive_reply s service p) _ q in
                write_open s who id service p (writes s service p _ reply) passes reply above
          ] refl r
    ] e

-- a value that the services say is written, and no row of answers
pub reply_open : (s : State) (who id : ℕ) (functional : Bool) (p : List ℕ) → ecu.rule_answers (ecu.rule_for s who p) ≡ false
    → ecu.reply s who functional p ≡ Some (0x6E ∷ bytes_16 id) → 0 < write_level_of s id → HasUnlocked s who (write_level_of s id)
reply_open s who id functional p own e above =
    own_open s who id functional p (sym (own_by s who functional p (ecu.rule_for s who p) own) ∙ e) above
