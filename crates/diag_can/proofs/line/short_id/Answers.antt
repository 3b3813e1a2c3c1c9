use Rattle.std.proofs.Common.{ℕ, Option, Some, None, rules, arith}
use Rattle.std.specs.Prelude.{IfSome}
use Rattle.diag_can.proofs.Pairs.{run_of_three}
use Rattle.diag_can.proofs.line.short_id.Goals as goal

whatever_it_is : (o : Option ℕ) (P : Type 0) → P → IfSome o (λ _. P)
whatever_it_is None P p = tt
whatever_it_is (Some id) P p = p

pub returns-then-number-lt2048-clause-count : goal.returns-then-number-lt2048-clause-count
returns-then-number-lt2048-clause-count c =
    whatever_it_is c.new.result _
    (run_of_three c.args.text.now c.digit.result c.digit-in-35.result c.digit-in-35-2.result c.in-35.len_at_least (search rules)
    c.digit.ensures.value c.digit-in-35.ensures.value c.digit-in-35-2.ensures.value (search (rules, arith)))
