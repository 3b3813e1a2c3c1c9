use Rattle.std.proofs.Common.{arith, ap, length, subst, suc, ◌∙◌}
use Rattle.std.specs.Prelude.{sum_by, All, ◌≤◌}
use Rattle.std.proofs.lemmas.List.Sums.{sum_by-cons}
use Rattle.diag_port.specs.Held.{frames_of_later}
use Rattle.diag_port.proofs.held.Held.pop.Goals as goal

pub invariant_of-self-2 : goal.invariant_of-self-2
invariant_of-self-2 c =
    let held = c.self.invariant in
    let split = c.in_ok-later.ensures.items in
    let short = subst (λ l. All (λ x. frames_of_later x ≤ 10000) l) split held.1 in
    let sum = held.0 in
    let all = ap (sum_by frames_of_later) split ∙ sum_by-cons frames_of_later c.in_ok-later.later c.pop_front.new.self.items in
    let counted = c.frames_of.ensures.count in
    let less = c.from.ensures in
    let most = held.2 in
    let fewer = ap length split in
    (omega arith, λ k d h. short (suc k) d (omega arith), omega arith)
