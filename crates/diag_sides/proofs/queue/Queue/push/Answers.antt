use Rattle.std.proofs.Common.{arith, ◌∷◌, [], ap, length-append}
use Rattle.std.specs.Prelude.{◌≤◌}
use Rattle.std.proofs.lemmas.List.Elements.{All-push}
use Rattle.std.proofs.lemmas.List.Sums.{sum_by-le, sum_by_push}
use Rattle.diag_pdu.specs.Cut.{frames_of}
use Rattle.diag_sides.proofs.queue.Queue.push.Goals as goal

pub overflow_add-self : goal.overflow_add-self
overflow_add-self c =
    let held = c.self.invariant in
    let all = sum_by-le (frames_of c.self.inside.tx_dl) 10000 c.self.inside.replies.items held.1 in
    let sum = held.0 in
    let most = held.2 in
    let more = c.from.ensures in
    let short = c.frames_of-frames.ensures.few in
    omega arith

pub invariant_of-self : goal.invariant_of-self
invariant_of-self c =
    let d = c.self.inside.tx_dl in
    let W = c.self.inside.replies.items in
    let P = c.args.message in
    let held = c.self.invariant in
    let counted = c.frames_of-frames.ensures.count in
    let short = c.frames_of-frames.ensures.few in
    let sum = held.0 in
    let more = c.from.ensures in
    let total = sum_by_push (frames_of d) W P in
    let room = c.requires.room in
    let same = ap (λ q. q.room) c.self.view_is in
    let longer = length-append W (P ∷ []) in
    rw (c.push_back_reserved.ensures.items) (omega arith, All-push (λ Q. frames_of d Q ≤ 10000) W P held.1 (omega arith), omega arith)
