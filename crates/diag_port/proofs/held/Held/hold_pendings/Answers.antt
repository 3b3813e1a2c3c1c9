use Rattle.std.proofs.Common.{◌≡◌, ◌<◌, ◌≤◌, ◌+◌, ◌-◌, ◌*◌, ℕ, List, ◌∷◌, [], ◌++◌, length, length-append, ap, ap₂, sym, ◌∙◌, append_assoc, arith}
use Rattle.std.proofs.lemmas.List.{append-nil}
use Rattle.diag_port.specs.Late.{most_pendings, pending_at, pendings}
use Rattle.diag_port.proofs.Pendings.{pendings_end, pendings_more, pendings_out}
use Rattle.diag_port.proofs.held.Held.hold_pendings.Goals as goal

pub loop-i-preserved : goal.loop-i-preserved
loop-i-preserved c =
    let inv = c.loop-i.invariant in
    let i = c.loop-i.i in
    let pace = c.args.pace in
    let product : c.from-in-loop-i.result * c.from-in-loop-i-2.result ≡ i * pace.step = ap₂ (λ a b. a * b) c.from-in-loop-i.ensures c.from-in-loop-i-2.ensures in
    let before : pace.first + i * pace.step < c.args.after = omega (arith, product, c.from.ensures, c.from-in-loop-i-3.ensures, c.if-wait-from.false) in
    let more = pendings_more pace c.args.now c.args.after c.args.sid i (omega arith) before in
    let x = pending_at pace c.args.now c.args.sid i in
    let rest = pendings pace c.args.now c.args.after c.args.sid (most_pendings - (i + 1)) (i + 1) in
    let held = c.loop-i.self.messages in
    let wait : c.from.result + c.from-in-loop-i.result * c.from-in-loop-i-2.result ≡ pace.first + i * pace.step = omega (arith, product, c.from.ensures) in
    record {
      so_far = λ early.
          let due : c.saturating_add.result ≡ c.args.now + (pace.first + i * pace.step) =
          omega (arith, c.saturating_add.ensures, wait, before, early) in
          let pushed : c.push.new.self.messages ≡ held ++ x ∷ [] =
          c.push.ensures.added ∙ ap₂ (λ (n : ℕ) (m : List ℕ). held ++ record { due = n; message = m } ∷ []) due c.pending_message.ensures in
          inv.so_far early ∙ (ap (λ w. held ++ w) more ∙ (sym (append_assoc held (x ∷ []) rest) ∙ ap (λ w. w ++ rest) (sym pushed)));
      few = omega (arith, inv.few, ap length c.push.ensures.added, length-append held (record { due = c.saturating_add.result; message = c.pending_message.result } ∷ []));
      room = omega (arith, inv.room, c.push.ensures.room);
      all = inv.all;
    }

pub returns-then-wait-from-clause-held : goal.returns-then-wait-from-clause-held
returns-then-wait-from-clause-held c = λ early.
    let inv = c.loop-i.invariant in
    let i = c.loop-i.i in
    let pace = c.args.pace in
    let product : c.from-in-loop-i.result * c.from-in-loop-i-2.result ≡ i * pace.step = ap₂ (λ a b. a * b) c.from-in-loop-i.ensures c.from-in-loop-i-2.ensures in
    let over : c.args.after ≤ pace.first + i * pace.step = omega (arith, product, c.from.ensures, c.from-in-loop-i-3.ensures, c.if-wait-from.true) in
    let none = pendings_end pace c.args.now c.args.after c.args.sid (most_pendings - i) i over in
    sym (inv.so_far early ∙ (ap (λ w. c.loop-i.self.messages ++ w) none ∙ append-nil c.loop-i.self.messages))

pub returns-clause-held : goal.returns-clause-held
returns-clause-held c = λ early.
    let inv = c.loop-i.invariant in
    let i = c.loop-i.i in
    let none = pendings_out c.args.pace c.args.now c.args.after c.args.sid (most_pendings - i) i (omega arith) in
    sym (inv.so_far early ∙ (ap (λ w. c.loop-i.self.messages ++ w) none ∙ append-nil c.loop-i.self.messages))
