use Rattle.std.proofs.Common.{◌≡◌, ℕ, true, false, ap, not, refl, sym, ◌∙◌, length}
use Rattle.std.specs.Prelude.{Option, Some, None, is_some}
use Rattle.diag_store.specs.Security.{nobody_is_delayed}
use Rattle.diag_ecu.proofs.TickLemmas.{all_rested}
use Rattle.diag_ecu.proofs.ecu.Ecu.ticks_each.Goals as goal

none_of : (o : Option ℕ) → is_some o ≡ false → o ≡ None
none_of None e = refl
none_of (Some x) e = cc

pub returns-then-nobody_is_delayed : goal.returns-then-nobody_is_delayed
returns-then-nobody_is_delayed c =
    let ecu = c.args.self.now in
    let free : is_some ecu.holder ≡ false = c.is_none.ensures ∙ ap not c.if-is_none.true in
    let none : nobody_is_delayed ecu.security ≡ true = sym c.nobody_is_delayed.ensures ∙ c.if-nobody_is_delayed.true in
    sym (all_rested ecu (length c.args.setup.now.testers) c.args.count (none_of ecu.holder free) none)
