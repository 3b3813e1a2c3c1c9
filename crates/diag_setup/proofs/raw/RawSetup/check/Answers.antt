use Rattle.std.proofs.Common.{◌≡◌, None}
use Rattle.diag_setup.specs.Setup.{fault_of}
use Rattle.diag_setup.proofs.SetupLemmas.{no_repeats, sorted-is_setup}
use Rattle.diag_setup.proofs.raw.RawSetup.check.Goals as goal

pub sort-requires : goal.sort-requires
sort-requires c = let well : fault_of c.args.self ≡ None = cc in (no_repeats c.args.self well).0

pub sort-requires-2 : goal.sort-requires-2
sort-requires-2 c = let well : fault_of c.args.self ≡ None = cc in (no_repeats c.args.self well).1

pub sort-requires-3 : goal.sort-requires-3
sort-requires-3 c = let well : fault_of c.args.self ≡ None = cc in (no_repeats c.args.self well).2

pub sort-requires-4 : goal.sort-requires-4
sort-requires-4 c = let well : fault_of c.args.self ≡ None = cc in (no_repeats c.args.self well).3

pub invariant_of-result : goal.invariant_of-result
invariant_of-result c =
    let well : fault_of c.args.self ≡ None = cc in
    rw (c.sort.ensures, c.sort-2.ensures, c.sort-3.ensures, c.sort-4.ensures) (sorted-is_setup c.args.self well)
