-- An entry more of the line that is under way.
use Rattle.std.proofs.Common.{◌≡◌, ◌≢◌, ◌≤◌, inl, inr, ℕ, ◌+◌, Bool, Option, List, [], ◌∷◌, ◌++◌, length, refl, ap, subst, sym, ◌∙◌, arith}
use Rattle.std.proofs.lemmas.Bool.{eq-eqb, ne_eqb}
use Rattle.std.proofs.lemmas.List.{append-nil}
use Rattle.std.proofs.lemmas.List.Elements.{filter-append}
use Rattle.std.proofs.lemmas.Option.{slice_get_within}
use Rattle.std.specs.List.{filter, flat_map}
use Rattle.std.specs.Prelude.{◌==◌, if◌then◌else◌, slice_set}
use Rattle.diag_pdu.specs.declared.step.Request.{Request}
use Rattle.diag_setup.specs.declared.raw.RawSetup.{RawSetup}
use Rattle.diag_ecu.specs.State.{State}
use Rattle.diag_desk.specs.Entries.{asks}
use Rattle.diag_desk.specs.Legal.{after}
use Rattle.diag_desk.specs.declared.entry.Entry.{Entry}
use Rattle.diag_world.proofs.Worlds.{set_cases}
use Rattle.diag_bus.specs.Text.{ecu_after}
use Rattle.diag_expect.specs.Expecting.{entered_of}
use Rattle.diag_expect.specs.Entered.{Entered}
use Rattle.diag_listen.specs.Listening.{Listens}
use Rattle.diag_listen.specs.declared.listener.Listener.{Listener}
use Rattle.diag_judge.specs.declared.tester.Tester.{Tester}
use Rattle.diag_compare.specs.Expects.{expects}
use Rattle.diag_compare.specs.Hearing.{happenings, in_states, is_of, unit_events}
use Rattle.diag_comparing.specs.Keeping.{AreTesters, IsTester, entered_by, entry_entered}
use Rattle.diag_compare.proofs.Questions.{states_append}
use Rattle.diag_comparing.proofs.Takings.{flat_append}

module _ (setup : RawSetup) (lines : List (List ℕ)) (K : List Entry) (k : Entry) where
  abbrev last : State
  last = after (ecu_after setup lines) K

  -- what the entry adds for a tester
  abbrev own_of : Bool → List Entered
  own_of b = flat_map entry_entered (if b then (last, k) ∷ [] else [])

  entered_more : (t : ℕ) → entered_by setup lines (K ++ k ∷ []) t ≡ entered_by setup lines K t ++ own_of (k.who == t)
  entered_more t =
      let old = in_states (ecu_after setup lines) K in
      ap (λ es. flat_map entry_entered (filter (is_of t) es)) (states_append (ecu_after setup lines) K (k ∷ []))
      ∙ (ap (flat_map entry_entered) (filter-append (is_of t) old ((last, k) ∷ []))
      ∙ flat_append entry_entered (filter (is_of t) old) (filter (is_of t) ((last, k) ∷ [])))

  pub entered_other : (t : ℕ) → k.who ≢ t → entered_by setup lines (K ++ k ∷ []) t ≡ entered_by setup lines K t
  entered_other t apart = entered_more t ∙ (ap (λ b. entered_by setup lines K t ++ own_of b) (ne_eqb k.who t apart) ∙ append-nil (entered_by setup lines K t))

  pub entered_own : entered_by setup lines (K ++ k ∷ []) k.who ≡ entered_by setup lines K k.who ++ entry_entered (last, k)
  entered_own =
      entered_more k.who ∙ (ap (λ b. entered_by setup lines K k.who ++ own_of b) (eq-eqb k.who k.who refl)
      ∙ ap (λ w. entered_by setup lines K k.who ++ w) (append-nil (entry_entered (last, k))))

  pub other_tester : (t : ℕ) (own : Tester) → k.who ≢ t → IsTester setup lines K t own → IsTester setup lines (K ++ k ∷ []) t own
  other_tester t own apart h = record { judges = h.judges; link_setup = h.link_setup; entered = h.entered ∙ sym (entered_other t apart) }

-- ---- the same

module _ (setup : RawSetup) (lines : List (List ℕ)) (K : List Entry) where
  -- a tester of which the same is kept
  pub same_tester : (t : ℕ) (own new : Tester) → new.listener ≡ own.listener → new.counts ≡ own.counts → new.entered.items ≡ own.entered.items
      → IsTester setup lines K t own → IsTester setup lines K t new
  same_tester t own new listener counts entered h = record {
    judges = record {
      listens = subst (λ (l : Listener). Listens l (unit_events setup t lines) (happenings (expects setup) setup t lines)) (sym listener) h.judges.listens;
      counts = counts ∙ h.judges.counts;
    };
    link_setup = ap (λ (l : Listener). l.setup) listener ∙ h.link_setup;
    entered = entered ∙ h.entered;
  }

  pub one_same : (testers : List Tester) (i : ℕ) (new : Tester) → AreTesters setup lines K testers → IsTester setup lines K (i + 1) new
      → AreTesters setup lines K (slice_set testers i new)
  one_same testers i new h own = λ j tester is. elim (set_cases testers i j new tester is) [
    | inl p ↦ subst (λ (x : Tester). IsTester setup lines K (j + 1) x) (sym p.1) (subst (λ (k : ℕ). IsTester setup lines K (k + 1) new) (sym p.0) own)
    | inr p ↦ h j tester p.1
  ]

-- ---- a request

module _ (setup : RawSetup) (lines : List (List ℕ)) (K : List Entry) (who : ℕ) (request : Request) (reply : Option (List ℕ)) where
  pub own_tester : (own new : Tester) (ecu : State) → ecu ≡ after (ecu_after setup lines) K → IsTester setup lines K who own
      → new.listener ≡ own.listener → new.counts ≡ own.counts → new.entered.items ≡ own.entered.items ++ entered_of ecu who request reply ∷ []
      → IsTester setup lines (K ++ asks who request reply ∷ []) who new
  own_tester own new ecu is h listener counts entered = record {
    judges = record {
      listens = subst (λ (l : Listener). Listens l (unit_events setup who lines) (happenings (expects setup) setup who lines)) (sym listener) h.judges.listens;
      counts = counts ∙ h.judges.counts;
    };
    link_setup = ap (λ (l : Listener). l.setup) listener ∙ h.link_setup;
    entered = entered ∙ (ap (λ w. w ++ entered_of ecu who request reply ∷ []) h.entered
        ∙ (ap (λ s. entered_by setup lines K who ++ entered_of s who request reply ∷ []) is ∙ sym (entered_own setup lines K (asks who request reply))));
  }

  pub one_entered : (testers : List Tester) (i : ℕ) (new : Tester) → who ≡ i + 1 → AreTesters setup lines K testers
      → IsTester setup lines (K ++ asks who request reply ∷ []) who new → AreTesters setup lines (K ++ asks who request reply ∷ []) (slice_set testers i new)
  one_entered testers i new at h own = λ j tester is. elim (set_cases testers i j new tester is) [
    | inl p ↦ subst (λ (x : Tester). IsTester setup lines (K ++ asks who request reply ∷ []) (j + 1) x) (sym p.1)
        (subst (λ (t : ℕ). IsTester setup lines (K ++ asks who request reply ∷ []) t new) (at ∙ ap (λ n. n + 1) (sym p.0)) own)
    | inr p ↦ other_tester setup lines K (asks who request reply) (j + 1) tester (λ e. p.0 (omega (arith, at, e))) (h j tester p.1)
  ]

  pub none_entered : (testers : List Tester) (i : ℕ) → who ≡ i + 1 → length testers ≤ i → AreTesters setup lines K testers
      → AreTesters setup lines (K ++ asks who request reply ∷ []) testers
  none_entered testers i at few h = λ j tester is.
      let within = slice_get_within testers j tester is in
      other_tester setup lines K (asks who request reply) (j + 1) tester (λ e. absurd (omega (arith, at, e, within, few))) (h j tester is)
