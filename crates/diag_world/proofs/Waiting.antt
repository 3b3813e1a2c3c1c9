-- Ticks of each tester, in which no port does anything.
use Rattle.std.proofs.Common.{◌≡◌, ◌≢◌, ◌≤◌, ◌<◌, ℕ, zero, suc, ◌+◌, ◌-◌, Bool, true, false, Some, List, [], ◌∷◌, ◌++◌, length, map, refl, ap, ap₂, subst, sym, ◌∙◌, append_assoc, arith, inl, inr}
use Rattle.std.proofs.lemmas.Bool.{eqb-true}
use Rattle.std.proofs.lemmas.List.{append-nil, map-append, length-set}
use Rattle.std.specs.Prelude.{◌==◌, slice_get, slice_set}
use Rattle.diag_can.specs.Event.{Event, Ticks}
use Rattle.diag_pdu.specs.Cut.{counted_from}
use Rattle.diag_setup.specs.declared.raw.RawSetup.{RawSetup}
use Rattle.diag_ecu.specs.State.{opening}
use Rattle.diag_desk.specs.Timed.{Timed, timed}
use Rattle.diag_port.specs.Port.{PortState, port_quiet}
use Rattle.diag_port.specs.Standing.{entry_of_ticks}
use Rattle.diag_world.specs.Server.{EachStretch, ServerState, ServesFrom, Settled, Waited, each_of, entries_of_each, quiet_of, sent_by}
use Rattle.diag_world.proofs.Worlds.{set_cases}

-- ---- counting on

counted_suc : (a n : ℕ) → counted_from a (suc n) ≡ counted_from a n ++ (a + n) ∷ []
counted_suc a zero = ap (λ m. m ∷ []) (omega arith)
counted_suc a (suc n) = ap (λ w. a ∷ w) (counted_suc (suc a) n ∙ ap (λ m. counted_from (suc a) n ++ m ∷ []) (omega arith))

pub counted_more : (a n : ℕ) → counted_from a (n + 1) ≡ counted_from a n ++ (a + n) ∷ []
counted_more a n = let e : n + 1 ≡ suc n = omega arith in ap (counted_from a) e ∙ counted_suc a n

pub waited_none : (s : ServerState) (count : ℕ) → Waited s s 0 count
waited_none s count = record {
  many = refl;
  time = λ i port at. (let fits : port.link.now ≤ port.link.now + count = omega arith in (port, at, fits));
  rest = λ i above. refl;
  served = λ setup M K h. stretched (opening setup) [] setup M K h;
  stretched = stretched;
}
  where
    stretched : EachStretch s (λ opened T setup M K.
        ServesFrom opened T setup s (M ++ each_of 0 (Ticks count)) (K ++ entries_of_each 0 count)
        × ((t : ℕ) → sent_by setup (M ++ each_of 0 (Ticks count)) (T ++ timed opened (K ++ entries_of_each 0 count)) t
        ≡ sent_by setup M (T ++ timed opened K) t))
    stretched = λ opened T setup M K h. (
      subst (λ N. ServesFrom opened T setup s N (K ++ [])) (sym (append-nil M)) (subst (λ J. ServesFrom opened T setup s M J) (sym (append-nil K)) h),
      λ t. ap₂ (λ N J. sent_by setup N (T ++ timed opened J) t) (append-nil M) (append-nil K),
    )

-- one tester more
pub each_more : (n : ℕ) (e : Event) (who : ℕ) → who ≡ n + 1 → each_of (n + 1) e ≡ each_of n e ++ (who, e) ∷ []
each_more n e who is = ap (map (λ t. (t, e))) (counted_more 1 n)
    ∙ (map-append (λ t. (t, e)) (counted_from 1 n) ((1 + n) ∷ []) ∙ ap (λ t. each_of n e ++ (t, e) ∷ []) (omega (arith, is)))

pub entries_more : (n count who : ℕ) → who ≡ n + 1 → entries_of_each (n + 1) count ≡ entries_of_each n count ++ entry_of_ticks who count ∷ []
entries_more n count who is = ap (map (λ t. entry_of_ticks t count)) (counted_more 1 n)
    ∙ (map-append (λ t. entry_of_ticks t count) (counted_from 1 n) ((1 + n) ∷ [])
    ∙ ap (λ t. entries_of_each n count ++ entry_of_ticks t count ∷ []) (omega (arith, is)))

-- ---- waiting

pub get_set_other : {X : Type 0} (xs : List X) (i k : ℕ) (v : X) → k ≢ i → slice_get (slice_set xs i v) k ≡ slice_get xs k
get_set_other [] i k v apart = refl
get_set_other (x ∷ xs) zero zero v apart = absurd (apart refl)
get_set_other (x ∷ xs) zero (suc k) v apart = refl
get_set_other (x ∷ xs) (suc i) zero v apart = refl
get_set_other (x ∷ xs) (suc i) (suc k) v apart = get_set_other xs i k v (λ e. apart (ap suc e))

-- each port is quiet for as long as the least of them
pub quiet_each : (ports : List PortState) (i count : ℕ) (port : PortState) → count < quiet_of ports → slice_get ports i ≡ Some port
    → count < port_quiet port
quiet_each [] i count port less at = absurd (clash at)
  where
    clash : slice_get [] i ≡ Some port → ⊥
    clash e = cc
quiet_each (first ∷ ports) zero count port less at =
    let same : first ≡ port = cc in
    subst (λ (p : PortState). count < port_quiet p) same (omega (arith, less))
quiet_each (first ∷ ports) (suc i) count port less at = quiet_each ports i count port (omega (arith, less)) at

-- one tester more
pub waited_more : (a b c : ServerState) (n who count : ℕ) → who ≡ n + 1 → Waited a b n count
    → Settled b c who (Ticks count) (Some (entry_of_ticks who count)) [] → Waited a c (n + 1) count
waited_more a b c n who count is w settled =
    let moved = settled.moved in
    let e = Ticks count in
    let place : n ≡ who - 1 = omega (arith, is) in
    record {
      many = ap length moved.set ∙ (length-set b.ports (who - 1) moved.after ∙ w.many);
      time = λ i port at. elim (set_cases b.ports (who - 1) i moved.after port (subst (λ ls. slice_get ls i ≡ Some port) moved.set at)) [
        | inl p ↦ (
            let same : port.link.now ≡ moved.after.link.now = ap (λ (l : PortState). l.link.now) p.1 in
            let fits : port.link.now ≤ moved.before.link.now + count = omega (arith, same, moved.time) in
            (moved.before, sym (w.rest i (omega (arith, p.0, is))) ∙ subst (λ k. slice_get b.ports k ≡ Some moved.before) (sym p.0) moved.found, fits))
        | inr p ↦ w.time i port p.1
      ];
      rest = λ i above. ap (λ ls. slice_get ls i) moved.set
          ∙ (get_set_other b.ports (who - 1) i moved.after (λ e. absurd (omega (arith, e, above, is))) ∙ w.rest i (omega (arith, above)));
      served = λ setup M K h. stretched (opening setup) [] setup M K h;
      stretched = stretched;
    }
  where
    sent_as : (setup : RawSetup) (M : List (ℕ × Event)) (T T' : List Timed) (M' : List (ℕ × Event)) (t : ℕ)
        → sent_by setup M' T' who ≡ sent_by setup M T who ++ []
        → ((t : ℕ) → (who == t) ≡ false → sent_by setup M' T' t ≡ sent_by setup M T t) → sent_by setup M' T' t ≡ sent_by setup M T t
    sent_as setup M T T' M' t mine others = pick (who == t) refl
      where
        pick : (b : Bool) → (who == t) ≡ b → sent_by setup M' T' t ≡ sent_by setup M T t
        pick true same = subst (λ u. sent_by setup M' T' u ≡ sent_by setup M T u) (eqb-true who t same) (mine ∙ append-nil (sent_by setup M T who))
        pick false away = others t away

    stretched : EachStretch a (λ opened T setup M K.
        ServesFrom opened T setup c (M ++ each_of (n + 1) (Ticks count)) (K ++ entries_of_each (n + 1) count)
        × ((t : ℕ) → sent_by setup (M ++ each_of (n + 1) (Ticks count)) (T ++ timed opened (K ++ entries_of_each (n + 1) count)) t
        ≡ sent_by setup M (T ++ timed opened K) t))
    stretched = λ opened T setup M K h.
        let before = w.stretched opened T setup M K h in
        let e = Ticks count in
        let M' = M ++ each_of n e in
        let K' = K ++ entries_of_each n count in
        let more = K' ++ entry_of_ticks who count ∷ [] in
        let served = settled.stretched opened T setup M' K' before.0 in
        let entries : more ≡ K ++ entries_of_each (n + 1) count =
        append_assoc K (entries_of_each n count) (entry_of_ticks who count ∷ []) ∙ ap (λ w. K ++ w) (sym (entries_more n count who is)) in
        let events : M' ++ (who, e) ∷ [] ≡ M ++ each_of (n + 1) e =
        append_assoc M (each_of n e) ((who, e) ∷ []) ∙ ap (λ w. M ++ w) (sym (each_more n e who is)) in (
          subst (λ J. ServesFrom opened T setup c (M ++ each_of (n + 1) e) J) entries (subst (λ N. ServesFrom opened T setup c N more) events served.serves),
          λ t. subst (λ J. sent_by setup (M ++ each_of (n + 1) e) (T ++ timed opened J) t ≡ sent_by setup M (T ++ timed opened K) t) entries
              (subst (λ N. sent_by setup N (T ++ timed opened more) t ≡ sent_by setup M (T ++ timed opened K) t) events
              (sent_as setup M' (T ++ timed opened K') (T ++ timed opened more) (M' ++ (who, e) ∷ []) t served.grown served.others ∙ before.1 t)),
        )
