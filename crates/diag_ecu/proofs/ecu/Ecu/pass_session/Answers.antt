use Rattle.std.proofs.Common.{◌≡◌, suc, ◌-◌, false, is_some, sym, ◌∙◌, arith}
use Rattle.diag_ecu.proofs.TickLemmas.{first_part, not_held}
use Rattle.diag_ecu.proofs.ecu.Ecu.pass_session.Goals as goal

pub loop-left-preserved : goal.loop-left-preserved
loop-left-preserved c =
    let quiet = c.min-quiet.result in
    let some = c.loop-left-test.true in
    let least = c.min-quiet.ensures in
    let whole = first_part quiet (suc (c.loop-left.left - quiet - 1)) c.loop-left.left c.loop-left.self (omega (arith, some, least)) in
    rw (c.tick_session.ensures, c.pass_quiet.ensures.state) (sym whole ∙ c.loop-left.invariant)

pub returns-else-is_some : goal.returns-else-is_some
returns-else-is_some c =
    let free : is_some c.loop-left.self.holder ≡ false = cc in
    sym (not_held c.loop-left.left c.loop-left.self free) ∙ c.loop-left.invariant
