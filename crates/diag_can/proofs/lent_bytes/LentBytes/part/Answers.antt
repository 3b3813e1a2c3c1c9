use Rattle.std.proofs.Common.{◌≡◌, ◌≤◌, ◌+◌, ℕ, List, length, take, drop, ap, sym, ◌∙◌}
use Rattle.std.proofs.lemmas.List.{drop-take, take-take}
use Rattle.diag_can.proofs.lent_bytes.LentBytes.part.Goals as goal

pub returns : goal.returns
returns c =
    let from = c.args.from in
    let count = c.args.count in
    let bytes : List ℕ = c.self.inside.bytes.now in
    let places : List ℕ = c.self.inside.front.now in
    let inside : from + count ≤ length bytes = rw c.self.view_is c.requires.inside in
    let same : take (from + count) places ≡ take (from + count) bytes =
    sym (take-take (from + count) (length bytes) places inside)
    ∙ ap (take (from + count)) (sym c.self.invariant.1)
    ∙ take-take (from + count) 8 bytes c.requires.front in
    c.part.ensures
    ∙ ap (λ (b : List ℕ). take count (drop from b)) c.full.ensures
    ∙ sym (drop-take from count places)
    ∙ ap (drop from) same
    ∙ drop-take from count bytes
    ∙ ap (λ (b : List ℕ). take count (drop from b)) c.self.view_is
