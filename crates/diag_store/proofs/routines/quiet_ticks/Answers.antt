use Rattle.std.proofs.Common.{◌≡◌, ◌≤◌, List, [], ◌∷◌, drop, arith}
use Rattle.std.proofs.lemmas.List.{drop_all}
use Rattle.diag_store.specs.declared.routines.Routine.{Routine}
use Rattle.diag_store.specs.Routines.{quiet_ticks}
use Rattle.diag_store.proofs.routines.quiet_ticks.Goals as goal

at_most : (rows : List Routine) → quiet_ticks rows ≤ 0xFFFFFFFF
at_most [] = omega arith
at_most (row ∷ rows) = let rest = at_most rows in omega (arith, rest)

pub loop-row-init : goal.loop-row-init
loop-row-init c = record { told = let most = at_most c.args.rows.now in omega (arith, most); fits = omega arith }

pub returns : goal.returns
returns c =
    let nothing : drop c.loop-row.row-index c.args.rows.now ≡ [] = drop_all c.loop-row.row-index c.args.rows.now (omega arith) in
    let told = rw nothing at c.loop-row.invariant.told in
    let fits = c.loop-row.invariant.fits in
    omega (arith, told, fits)
