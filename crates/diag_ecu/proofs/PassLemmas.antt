-- Which check of a request is the first that holds, and which codes are those of a wrong key.
use Rattle.std.proofs.Common.{◌≡◌, ℕ, Bool, true, false, not, cond, ◌&&◌, List, [], ◌∷◌, ◌++◌, Option, Some, None, ◌⊎◌, inl, inr, refl, sym, ap, ◌∙◌}
use Rattle.std.proofs.lemmas.Bool.{and_parts}
use Rattle.std.proofs.lemmas.Option.{same_Some}
use Rattle.diag_setup.specs.Setup.{first_holding}
use Rattle.diag_store.specs.Security.{is_delayed}
use Rattle.diag_store.specs.declared.routines.Routine.{Routine}
use Rattle.diag_ecu.specs.declared.service.Service.{Service}
use Rattle.diag_ecu.specs.declared.service.Service.TheVariants.{SecurityAccess, RoutineControl}
use Rattle.diag_ecu.specs.declared.service.Nrc.{Nrc}
use Rattle.diag_ecu.specs.declared.service.Nrc.TheVariants.{RequiredTimeDelayNotExpired}
use Rattle.diag_ecu.specs.Service.{row, is_of_wrong_key}
use Rattle.diag_ecu.specs.State.{State}
use Rattle.diag_ecu.specs.Respond.{Check, sub, common_checks, own_checks, checks, routine_checks_of, routine_of}

pub first_of_more : (xs ys : List Check) (nrc : Nrc) → first_holding xs ≡ Some nrc → first_holding (xs ++ ys) ≡ Some nrc
first_of_more [] ys nrc h = cc
first_of_more (check ∷ xs) ys nrc h =
    elim check.0 as (λ b. cond b (Some check.1) (first_holding xs) ≡ Some nrc → cond b (Some check.1) (first_holding (xs ++ ys)) ≡ Some nrc) [
      | true ↦ λ e. e
      | false ↦ λ e. first_of_more xs ys nrc e
    ] h

pub first_of_rest : (xs ys : List Check) → first_holding xs ≡ None → first_holding (xs ++ ys) ≡ first_holding ys
first_of_rest [] ys h = refl
first_of_rest (check ∷ xs) ys h =
    elim check.0 as (λ b. cond b (Some check.1) (first_holding xs) ≡ None → cond b (Some check.1) (first_holding (xs ++ ys)) ≡ first_holding ys) [
      | true ↦ λ e. cc
      | false ↦ λ e. first_of_rest xs ys e
    ] h

-- ---- the codes of a wrong key

-- no check of the list gives the code of a wrong key
abbrev is_keyless : List Check → Bool
is_keyless [] = true
is_keyless (check ∷ rest) = not (is_of_wrong_key check.1) && is_keyless rest

is_false : (b : Bool) → not b ≡ true → b ≡ false
is_false true e = cc
is_false false e = refl

other_code : (checks : List Check) (nrc : Nrc) → is_keyless checks ≡ true → first_holding checks ≡ Some nrc → is_of_wrong_key nrc ≡ false
other_code [] nrc keyless h = cc
other_code (check ∷ rest) nrc keyless h =
    let parts = and_parts (not (is_of_wrong_key check.1)) (is_keyless rest) keyless in
    elim check.0 as (λ b. cond b (Some check.1) (first_holding rest) ≡ Some nrc → is_of_wrong_key nrc ≡ false) [
      | true ↦ λ e. ap is_of_wrong_key (sym (same_Some check.1 nrc e)) ∙ is_false (is_of_wrong_key check.1) parts.0
      | false ↦ λ e. other_code rest nrc parts.1 e
    ] h

routine_keyless : (s : State) (who n : ℕ) (row : Option Routine) → is_keyless (routine_checks_of s who n row) ≡ true
routine_keyless s who n None = refl
routine_keyless s who n (Some row) = refl

-- no service but security access has a check of its own that gives such a code
own_keyless : (s : State) (who : ℕ) (service : Service) (p : List ℕ) → (service ≡ SecurityAccess) ⊎ (is_keyless (own_checks s who service p) ≡ true)
own_keyless s who SecurityAccess p = inl refl
own_keyless s who RoutineControl p = inr (routine_keyless s who (sub p) (routine_of s p))
own_keyless s who service p = inr refl

clash : (nrc : Nrc) → is_of_wrong_key nrc ≡ true → is_of_wrong_key nrc ≡ false → ⊥
clash nrc wrong other = cc (sym wrong ∙ other)

-- who is refused for a wrong key has sent one, and passes the checks of every service
of_a_key : (s : State) (who : ℕ) (service : Service) (p : List ℕ) (nrc : Nrc) → is_of_wrong_key nrc ≡ true → first_holding (checks s who service p) ≡ Some nrc
    → (service ≡ SecurityAccess) × (first_holding (common_checks s who (row service) p) ≡ None)
of_a_key s who service p nrc wrong found =
    let common = common_checks s who (row service) p in
    let own = own_checks s who service p in
    elim (first_holding common) as (λ o. first_holding common ≡ o → (service ≡ SecurityAccess) × (o ≡ None)) [
      | Some other ↦ λ e.
          let same : other ≡ nrc = same_Some other nrc (sym (first_of_more common own other e) ∙ found) in
          absurd (clash nrc wrong (ap is_of_wrong_key (sym same) ∙ other_code common other refl e))
      | None ↦ λ e.
          elim (own_keyless s who service p) [
            | inl is ↦ (is, refl)
            | inr keyless ↦ absurd (clash nrc wrong (other_code own nrc keyless (sym (first_of_rest common own e) ∙ found)))
          ]
    ] refl

-- and isn't delayed
delayed_first : (delayed : Bool) (rest : Option Nrc) (nrc : Nrc) → is_of_wrong_key nrc ≡ true
    → cond delayed (Some RequiredTimeDelayNotExpired) rest ≡ Some nrc → delayed ≡ false
delayed_first true rest nrc wrong found = cc (sym wrong ∙ ap is_of_wrong_key (sym (same_Some RequiredTimeDelayNotExpired nrc found)))
delayed_first false rest nrc wrong found = refl

pub key_not_delayed : (s : State) (who : ℕ) (service : Service) (p : List ℕ) (nrc : Nrc) → is_of_wrong_key nrc ≡ true
    → first_holding (checks s who service p) ≡ Some nrc → is_delayed s.security who ≡ false
key_not_delayed s who service p nrc wrong found =
    let of = of_a_key s who service p nrc wrong found in
    let own = sym (first_of_rest (common_checks s who (row service) p) (own_checks s who service p) of.1) ∙ found in
    let of_security : first_holding (own_checks s who SecurityAccess p) ≡ Some nrc = ap (λ x. first_holding (own_checks s who x p)) (sym of.0) ∙ own in
    delayed_first (is_delayed s.security who) _ nrc wrong of_security

-- two lists of checks of which none holds
pub none_of_first : (xs ys : List Check) → first_holding (xs ++ ys) ≡ None → first_holding xs ≡ None
none_of_first xs ys h =
    elim (first_holding xs) as (λ o. first_holding xs ≡ o → o ≡ None) [
      | None ↦ λ e. refl
      | Some nrc ↦ λ e. cc (sym h ∙ first_of_more xs ys nrc e)
    ] refl

pub none_of_second : (xs ys : List Check) → first_holding (xs ++ ys) ≡ None → first_holding ys ≡ None
none_of_second xs ys h = sym (first_of_rest xs ys (none_of_first xs ys h)) ∙ h
