-- The first fault of lines, and the clocks behind them, with one line more.
use Rattle.std.proofs.Common.{◌≡◌, ℕ, ◌+◌, Option, Some, None, List, [], ◌∷◌, ◌++◌, length, ap, ap₂, sym, ◌∙◌, append_assoc, arith}
use Rattle.std.proofs.lemmas.List.{append-nil}
use Rattle.std.proofs.lemmas.Option.{none-some}
use Rattle.diag_bus.specs.Events.{clock_after, clock_of, fault_or, first_fault, first_fault_after, line_fault, line_said, reference, span_said}
use Rattle.diag_setup.specs.declared.raw.RawSetup.{RawSetup}
use Rattle.diag_bus.specs.declared.fault.BusFault.{BusFault}

module _ (setup : RawSetup) where
  clock_push : (past lines : List (List ℕ)) (line : List ℕ)
      → clock_after setup past (lines ++ line ∷ []) ≡ clock_after setup past lines + span_said (reference setup (past ++ lines)) (line_said setup line)
  clock_push past [] line =
      let here : span_said (reference setup past) (line_said setup line) ≡ span_said (reference setup (past ++ [])) (line_said setup line) =
      ap (λ p. span_said (reference setup p) (line_said setup line)) (sym (append-nil past)) in
      omega (arith, here)
  clock_push past (first ∷ lines) line =
      let rest = clock_push (past ++ first ∷ []) lines line in
      let same : span_said (reference setup ((past ++ first ∷ []) ++ lines)) (line_said setup line) ≡ span_said (reference setup (past ++ first ∷ lines)) (line_said setup line) =
      ap (λ p. span_said (reference setup p) (line_said setup line)) (append_assoc past (first ∷ []) lines) in
      omega (arith, rest, same)

  -- what the clocks tell behind one line more
  pub clock_more : (lines : List (List ℕ)) (line : List ℕ) → clock_of setup (lines ++ line ∷ []) ≡ clock_of setup lines + span_said (reference setup lines) (line_said setup line)
  clock_more lines line = clock_push [] lines line

  -- the first fault behind lines that are well is that of the lines that follow
  faults_behind : (past lines rest : List (List ℕ)) (n : ℕ) → first_fault_after setup past n lines ≡ None
      → first_fault_after setup past n (lines ++ rest) ≡ first_fault_after setup (past ++ lines) (n + length lines) rest
  faults_behind past [] rest n h = ap₂ (λ p m. first_fault_after setup p m rest) (sym (append-nil past)) (omega arith)
  faults_behind past (line ∷ lines) rest n h =
      pick (line_fault setup past line) h (λ well. faults_behind (past ++ line ∷ []) lines rest (n + 1) well)
    where
      pick : (o : Option BusFault) → fault_or o n (first_fault_after setup (past ++ line ∷ []) (n + 1) lines) ≡ None
          → (first_fault_after setup (past ++ line ∷ []) (n + 1) lines ≡ None
          → first_fault_after setup (past ++ line ∷ []) (n + 1) (lines ++ rest) ≡ first_fault_after setup ((past ++ line ∷ []) ++ lines) (n + 1 + length lines) rest)
          → fault_or o n (first_fault_after setup (past ++ line ∷ []) (n + 1) (lines ++ rest))
          ≡ first_fault_after setup (past ++ line ∷ lines) (n + length (line ∷ lines)) rest
      pick None well next =
          let count : n + 1 + length lines ≡ n + length (line ∷ lines) = omega arith in
          next well ∙ ap₂ (λ p m. first_fault_after setup p m rest) (append_assoc past (line ∷ []) lines) count
      pick (Some f) well next = absurd (none-some _ (sym well))

  pub first_fault_behind : (lines rest : List (List ℕ)) → first_fault setup lines ≡ None → first_fault setup (lines ++ rest) ≡ first_fault_after setup lines (length lines + 1) rest
  first_fault_behind lines rest h =
      let count : 1 + length lines ≡ length lines + 1 = omega arith in
      faults_behind [] lines rest 1 h ∙ ap (λ m. first_fault_after setup lines m rest) count

  -- the first fault of one line more
  pub first_fault_more : (lines : List (List ℕ)) (line : List ℕ) → first_fault setup lines ≡ None
      → first_fault setup (lines ++ line ∷ []) ≡ fault_or (line_fault setup lines line) (length lines + 1) None
  first_fault_more lines line h = first_fault_behind lines (line ∷ []) h

  -- lines that are well, and one more that is
  pub well_more : (lines : List (List ℕ)) (line : List ℕ) → first_fault setup lines ≡ None → line_fault setup lines line ≡ None → first_fault setup (lines ++ line ∷ []) ≡ None
  well_more lines line h well = first_fault_more lines line h ∙ ap (λ o. fault_or o (length lines + 1) None) well

  -- the first line at fault behind lines that are well, whatever follows it
  pub first_fault_at : (lines rest : List (List ℕ)) (line : List ℕ) (fault : BusFault) → first_fault setup lines ≡ None → line_fault setup lines line ≡ Some fault
      → first_fault setup (lines ++ line ∷ rest) ≡ Some (length lines + 1, fault)
  first_fault_at lines rest line fault h is =
      first_fault_behind lines (line ∷ rest) h ∙ ap (λ o. fault_or o (length lines + 1) (first_fault_after setup (lines ++ line ∷ []) (length lines + 1 + 1) rest)) is
