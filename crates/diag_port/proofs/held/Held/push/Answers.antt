use Rattle.std.proofs.Common.{arith, ◌∷◌, [], ap, length-append}
use Rattle.std.specs.Prelude.{◌≤◌}
use Rattle.std.proofs.lemmas.List.Elements.{All-push}
use Rattle.std.proofs.lemmas.List.Sums.{sum_by-le, sum_by_push}
use Rattle.diag_port.specs.Held.{frames_of_later}
use Rattle.diag_port.specs.declared.held.Later.{Later}
use Rattle.diag_port.proofs.held.Held.push.Goals as goal

pub overflow_add-self : goal.overflow_add-self
overflow_add-self c =
    let held = c.self.invariant in
    let all = sum_by-le frames_of_later 10000 c.self.inside.messages.items held.1 in
    let sum = held.0 in
    let most = held.2 in
    let more = c.from.ensures in
    let short = c.frames_of-frames.ensures.few in
    omega arith

pub invariant_of-self : goal.invariant_of-self
invariant_of-self c =
    let W = c.self.inside.messages.items in
    let x : Later = record { due = c.args.due; message = c.args.message } in
    let held = c.self.invariant in
    let counted = c.frames_of-frames.ensures.count in
    let short = c.frames_of-frames.ensures.few in
    let sum = held.0 in
    let more = c.from.ensures in
    let total = sum_by_push frames_of_later W x in
    let room = c.requires.room in
    let same = ap (λ q. q.room) c.self.view_is in
    let longer = length-append W (x ∷ []) in
    rw (c.push_back_reserved.ensures.items) (omega arith, All-push (λ y. frames_of_later y ≤ 10000) W x held.1 (omega arith), omega arith)
