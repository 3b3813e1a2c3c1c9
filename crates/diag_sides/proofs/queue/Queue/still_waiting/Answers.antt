use Rattle.std.proofs.Common.{◌≡◌, ◌∙◌, ◌<◌, ◌≤◌, ◌∷◌, ◌+◌, ℕ, List, ap, add-one, arith, length, length-drop, drop, get_or, suc, sym}
use Rattle.std.proofs.Math.Seq.{drop-cons}
use Rattle.diag_pdu.specs.Length.{single_most}
use Rattle.diag_sides.specs.Sender.{started}
use Rattle.diag_sides.proofs.Settled.{started-single, started-longer}
use Rattle.diag_sides.proofs.queue.Queue.still_waiting.Goals as goal

-- what is left from the i-th on
at : (W : List (List ℕ)) (P : List ℕ) (i : ℕ) → i < length W → P ≡ get_or W i P → drop i W ≡ P ∷ drop (i + 1) W
at W P i h is = drop-cons W i P h ∙ ap (λ Q. Q ∷ drop (suc i) W) (sym is) ∙ ap (λ k. P ∷ drop k W) (sym (add-one i))

pub loop-first-preserved : goal.loop-first-preserved
loop-first-preserved c = λ s e.
    let P = c.index.result.now in
    let held = c.loop-first.invariant s e in
    let most = ap single_most e in
    let kept = ap (λ q. single_most q.tx_dl) c.self.view_is in
    let size = ap length c.bytes.ensures.same in
    let short : length P ≤ single_most s.framing.tx_dl = omega (arith, most, kept, size, c.single_most.ensures, c.from-most.ensures, c.if-bytes-most.false) in
    let len = c.len-len.ensures in
    let next = at c.self.inside.replies.items P c.loop-first.first (omega arith) c.index.ensures in
    let on = ap (λ l. (started s l).left.waiting) (rw (ap (λ q. q.replies) c.self.view_is) at next) in
    held ∙ (on ∙ started-single s P _ short)

pub returns-then-bytes-most : goal.returns-then-bytes-most
returns-then-bytes-most c = λ s e.
    let P = c.index.result.now in
    let W = c.args.self.now.replies in
    let held = ap length (c.loop-first.invariant s e) in
    let same = ap (λ q. length q.replies) c.self.view_is in
    let most = ap single_most e in
    let kept = ap (λ q. single_most q.tx_dl) c.self.view_is in
    let size = ap length c.bytes.ensures.same in
    let long : single_most s.framing.tx_dl < length P = omega (arith, most, kept, size, c.single_most.ensures, c.from-most.ensures, c.if-bytes-most.true) in
    let len = c.len-len.ensures in
    let next = at c.self.inside.replies.items P c.loop-first.first (omega arith) c.index.ensures in
    let on = ap (λ l. length (started s l).left.waiting) (rw (ap (λ q. q.replies) c.self.view_is) at next) in
    let longer = ap length (started-longer s P (drop (c.loop-first.first + 1) W) long) in
    let size = length-drop (c.loop-first.first + 1) W in
    omega arith
