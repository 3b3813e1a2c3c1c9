use Rattle.std.proofs.Common.{◌≡◌, ◌+◌, ◌-◌, ◌∷◌, ◌++◌, ◌⊎◌, ◌∙◌, ℕ, List, ap, arith, drop, inl, inr, length, length-take-le, refl, sym, take, take-append-drop}
use Rattle.diag_can.proofs.Fronts.{fd_line, id_digits, id_mark, is_fd}
use Rattle.diag_can.proofs.front.fd_front.Goals as goal

-- in front of a line's end
ends_with : (text line rest after : List ℕ) (n : ℕ) → line ≡ take n text → rest ≡ drop n text → (rest ≡ 10 ∷ after) ⊎ (rest ≡ 13 ∷ 10 ∷ after)
    → (text ≡ line ++ 10 ∷ after) ⊎ (text ≡ line ++ 13 ∷ 10 ∷ after)
ends_with text line rest after n front back ends =
    let joined : text ≡ line ++ rest = sym (rw (front, back) (take-append-drop n text)) in
    elim ends [
      | inl feed ↦ inl (joined ∙ ap (λ (r : List ℕ). line ++ r) feed)
      | inr both ↦ inr (joined ∙ ap (λ (r : List ℕ). line ++ r) both)
    ]

pub fd_said-requires-clause-fd : goal.fd_said-requires-clause-fd
fd_said-requires-clause-fd c =
    let text = c.args.text.now in
    let place = c.args.place in
    let count = c.in_ok-count.count in
    let has = c.in_ok-count.ensures in
    let line = c.split_at.result.0.now in
    let part = take (length text - place) (drop place text) in
    let id = c.in_ok-id.ensures in
    let size : length line ≡ place + 6 + count = ap length c.split_at.ensures.front ∙ length-take-le (place + 6 + count) text has.inside in
    is_fd text line c.in_ok-after.after.now place c.requires.begins (omega (arith, size))
    (ends_with text line c.split_at.result.1.now c.in_ok-after.after.now (place + 6 + count) c.split_at.ensures.front c.split_at.ensures.back c.in_ok-after.ensures.is)
    (omega (arith, size, has.few))
    (id_digits text part _ place 3 refl id.count id.rest) (id_mark text part _ place 3 refl id.count id.rest)
    has.second (λ k from to. has.digits k from (omega (arith, size, to)))

pub returns : goal.returns
returns c =
    let text = c.args.text.now in
    let place = c.args.place in
    let count = c.in_ok-count.count in
    let has = c.in_ok-count.ensures in
    let line = c.split_at.result.0.now in
    let part = take (length text - place) (drop place text) in
    let id = c.in_ok-id.ensures in
    let size : length line ≡ place + 6 + count = ap length c.split_at.ensures.front ∙ length-take-le (place + 6 + count) text has.inside in
    let first = c.told.ensures in
    rw (first.line, first.after, first.said)
    (fd_line text line c.in_ok-after.after.now place c.requires.begins (omega (arith, size))
    (ends_with text line c.split_at.result.1.now c.in_ok-after.after.now (place + 6 + count) c.split_at.ensures.front c.split_at.ensures.back c.in_ok-after.ensures.is)
    (omega (arith, size, has.few))
    (id_digits text part _ place 3 refl id.count id.rest) (id_mark text part _ place 3 refl id.count id.rest)
    has.second (λ k from to. has.digits k from (omega (arith, size, to))) c.args.known.now c.in_ok-said.said c.in_ok-said.ensures)
