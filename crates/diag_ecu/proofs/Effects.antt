-- What the effect of a request tells of its checks.
use Rattle.std.proofs.Common.{◌≡◌, ℕ, true, false, cond, List, Some, None, refl, sym, ap, ◌∙◌}
use Rattle.diag_setup.specs.Setup.{first_holding}
use Rattle.diag_store.specs.Security.{is_delayed}
use Rattle.diag_ecu.specs.declared.effect.Effect.TheVariants.{Nothing, Serve, CountWrongKey}
use Rattle.diag_ecu.proofs.RuleLemmas.{by_decision}
use Rattle.diag_ecu.specs.declared.service.Service.{Service}
use Rattle.diag_ecu.specs.declared.service.Nrc.{Nrc}
use Rattle.diag_ecu.specs.State.{State}
use Rattle.diag_ecu.specs.Service.{row, service_of, is_of_wrong_key}
use Rattle.diag_ecu.specs.Respond.{sid, checks, decision, own_effect, refused_effect, outcome, outcome_of, served}
use Rattle.diag_ecu.proofs.PassLemmas.{key_not_delayed}

own_service : (own service : Service) → own_effect own ≡ Serve service → own ≡ service
own_service own service e =
    elim (row own).changes as (λ b. cond b (Serve own) Nothing ≡ Serve service → own ≡ service) [ true ↦ λ h. cc | false ↦ λ h. cc ] e

own_counts_no_key : (own : Service) → own_effect own ≡ CountWrongKey → ⊥
own_counts_no_key own e = elim (row own).changes as (λ b. cond b (Serve own) Nothing ≡ CountWrongKey → ⊥) [ true ↦ λ h. cc | false ↦ λ h. cc ] e

refused_serves_none : (nrc : Nrc) (service : Service) → refused_effect nrc ≡ Serve service → ⊥
refused_serves_none nrc service e =
    elim (is_of_wrong_key nrc) as (λ b. cond b CountWrongKey Nothing ≡ Serve service → ⊥) [ true ↦ λ h. cc | false ↦ λ h. cc ] e

refused_counts : (nrc : Nrc) → refused_effect nrc ≡ CountWrongKey → is_of_wrong_key nrc ≡ true
refused_counts nrc e = elim (is_of_wrong_key nrc) as (λ b. cond b CountWrongKey Nothing ≡ CountWrongKey → b ≡ true) [ true ↦ λ h. refl | false ↦ λ h. cc ] e

-- no check holds of a service that is done
own_passes : (s : State) (who : ℕ) (p : List ℕ) (service : Service) → (outcome s who p).effect ≡ Serve service
    → first_holding (checks s who service p) ≡ None
own_passes s who p service told =
    elim (service_of (sid p)) as (λ o. (served s who o p).effect ≡ Serve service → first_holding (checks s who service p) ≡ None) [
      | None ↦ λ e. cc
      | Some own ↦ λ e.
          elim (first_holding (checks s who own p)) as (λ first. first_holding (checks s who own p) ≡ first
          → (outcome_of s own p first).effect ≡ Serve service
          → first_holding (checks s who service p) ≡ None) [
            | None ↦ λ passes f. ap (λ x. first_holding (checks s who x p)) (sym (own_service own service f)) ∙ passes
            | Some nrc ↦ λ refused f. absurd (refused_serves_none nrc service f)
          ] refl e
    ] told

pub serving_passes : (s : State) (who : ℕ) (p : List ℕ) (service : Service) → (decision s who p).effect ≡ Serve service
    → first_holding (checks s who service p) ≡ None
serving_passes s who p service told = by_decision s who p (λ e. e ≡ Serve service → first_holding (checks s who service p) ≡ None)
    (λ own e. own_passes s who p service e) (λ e. cc) (λ n e. cc) told

-- who sent a wrong key that counts isn't delayed
own_not_delayed : (s : State) (who : ℕ) (p : List ℕ) → (outcome s who p).effect ≡ CountWrongKey → is_delayed s.security who ≡ false
own_not_delayed s who p told =
    elim (service_of (sid p)) as (λ o. (served s who o p).effect ≡ CountWrongKey → is_delayed s.security who ≡ false) [
      | None ↦ λ e. cc
      | Some own ↦ λ e.
          elim (first_holding (checks s who own p)) as (λ first. first_holding (checks s who own p) ≡ first
          → (outcome_of s own p first).effect ≡ CountWrongKey → is_delayed s.security who ≡ false) [
            | None ↦ λ passes f. absurd (own_counts_no_key own f)
            | Some nrc ↦ λ refused f. key_not_delayed s who own p nrc (refused_counts nrc f) refused
          ] refl e
    ] told

pub counting_not_delayed : (s : State) (who : ℕ) (p : List ℕ) → (decision s who p).effect ≡ CountWrongKey → is_delayed s.security who ≡ false
counting_not_delayed s who p told = by_decision s who p (λ e. e ≡ CountWrongKey → is_delayed s.security who ≡ false)
    (λ own e. own_not_delayed s who p e) (λ e. cc) (λ n e. cc) told
