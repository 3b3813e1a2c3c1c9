use Rattle.std.proofs.Common.{arith, ap, length, subst, suc, ◌∙◌}
use Rattle.std.specs.Prelude.{sum_by, All, ◌≤◌}
use Rattle.std.proofs.lemmas.List.Sums.{sum_by-cons}
use Rattle.diag_pdu.specs.Cut.{frames_of}
use Rattle.diag_sides.proofs.queue.Queue.pop.Goals as goal

pub overflow_sub-self : goal.overflow_sub-self
overflow_sub-self c =
    let sum = c.self.invariant.0 in
    let all = ap (sum_by (frames_of c.self.inside.tx_dl)) c.in_ok-message.ensures.items ∙ sum_by-cons (frames_of c.self.inside.tx_dl) c.in_ok-message.message c.pop_front.new.self.items in
    let counted = c.frames_of.ensures.count in
    let less = c.from.ensures in
    omega arith

pub invariant_of-self : goal.invariant_of-self
invariant_of-self c = rw (← c.in_err-message.ensures.items) c.self.invariant

pub invariant_of-self-2 : goal.invariant_of-self-2
invariant_of-self-2 c =
    let d = c.self.inside.tx_dl in
    let held = c.self.invariant in
    let split = c.in_ok-message.ensures.items in
    let short = subst (λ l. All (λ P. frames_of d P ≤ 10000) l) split held.1 in
    let sum = held.0 in
    let all = ap (sum_by (frames_of d)) split ∙ sum_by-cons (frames_of d) c.in_ok-message.message c.pop_front.new.self.items in
    let counted = c.frames_of.ensures.count in
    let less = c.from.ensures in
    let most = held.2 in
    let fewer = ap length split in
    (omega arith, λ k d h. short (suc k) d (omega arith), omega arith)
