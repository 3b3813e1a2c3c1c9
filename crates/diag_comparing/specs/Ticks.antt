-- Ticks of the line that is under way make no difference.
use Rattle.std.specs.Prelude.{◌≡◌, ◌==◌, ◌+◌, ℕ, Bool, true, false, if◌then◌else◌, List, [], ◌∷◌, ◌++◌, refl}
use Rattle.std.proofs.Common.{ap, sym, ◌∙◌}
use Rattle.std.specs.List.{filter, flat_map}
use Rattle.diag_setup.specs.declared.raw.RawSetup.{RawSetup}
use Rattle.diag_ecu.specs.State.{State}
use Rattle.diag_desk.specs.Legal.{after_step}
use Rattle.diag_desk.specs.declared.entry.Entry.{Entry}
use Rattle.diag_port.specs.Standing.{entry_of_ticks}
use Rattle.diag_bus.specs.Text.{ecu_after}
use Rattle.diag_expect.specs.Entered.{Entered}
use Rattle.diag_compare.specs.Hearing.{in_states, is_of}
use Rattle.diag_comparing.specs.Keeping.{HasTaken, entry_entered}
use Rattle.diag_comparing.specs.declared.exchange_lines.ExchangeLines.{ExchangeLines}

module _ (who count t : ℕ) where
  abbrev k : Entry
  k = entry_of_ticks who count

  -- the requests of the tester among entries
  abbrev of : State → List Entry → List Entered
  of s K = flat_map entry_entered (filter (is_of t) (in_states s K))

  none_of : (s : State) (b : Bool) → flat_map entry_entered (if b then (s, k) ∷ [] else []) ≡ []
  none_of s true = refl
  none_of s false = refl

  one_first : (s : State) (e : Entry) (xs ys : List (State × Entry)) (b : Bool) → flat_map entry_entered xs ≡ flat_map entry_entered ys
      → flat_map entry_entered (if b then (s, e) ∷ xs else xs) ≡ flat_map entry_entered (if b then (s, e) ∷ ys else ys)
  one_first s e xs ys true same = ap (λ w. entry_entered (s, e) ++ w) same
  one_first s e xs ys false same = same

  pub none_entered : (s : State) (K : List Entry) → of s (K ++ k ∷ []) ≡ of s K
  none_entered s [] = none_of s (who == t)
  none_entered s (e ∷ K) =
      let next = after_step s e.who e.step in
      one_first s e (filter (is_of t) (in_states next (K ++ k ∷ []))) (filter (is_of t) (in_states next K)) (e.who == t) (none_entered next K)

pub ticks_taken : (own : ExchangeLines) (setup : RawSetup) (lines : List (List ℕ)) (K : List Entry) (who count : ℕ) → HasTaken own setup lines K
    → HasTaken own setup lines (K ++ entry_of_ticks who count ∷ [])
ticks_taken own setup lines K who count h = record {
  count = h.count;
  stamps = h.stamps;
  many = h.many;
  each = λ i tester at. record {
    judges = (h.each i tester at).judges;
    link_setup = (h.each i tester at).link_setup;
    entered = (h.each i tester at).entered ∙ sym (none_entered who count (i + 1) (ecu_after setup lines) K);
  };
}
