use Rattle.std.proofs.Common.{ℕ, List, ◌++◌, Ok, ap, sym, ◌∙◌, arith}
use Rattle.std.specs.Int.{to_le_bytes, w64}
use Rattle.diag_can.proofs.FdTexts.{all_read, more_read, none_read}
use Rattle.diag_can.proofs.fd_bytes.FdBytes.set_digits.Goals as goal

pub loop-sixteen-init : goal.loop-sixteen-init
loop-sixteen-init c = let none = c.clear.ensures in rw none (none_read c.args.digits.now c.requires.hex c.requires.few (λ k. c.type_inv.digits k))

pub loop-sixteen-preserved : goal.loop-sixteen-preserved
loop-sixteen-preserved c =
    let parts = c.in-Some.ensures.cases in
    let pushed = c.append.ensures in
    let tail = parts.1 in
    rw (pushed, tail) (more_read c.loop-sixteen.invariant c.in-Some.sixteen.now c.eight_of_digits.result (omega (arith, parts.2)) parts.0
    (c.eight_of_digits.ensures 8 (omega arith)))

pub returns : goal.returns
returns c =
    let bytes = c.loop-sixteen.self in
    let last = c.as_slice.ensures.bytes ∙ c.last_of-last.ensures in
    all_read c.loop-sixteen.invariant (to_le_bytes w64 c.last_eight.result) (omega (arith, c.in_default.ensures.cases)) c.last_eight.ensures
    ∙ ap (λ (t : List ℕ). Ok t) (sym (c.append-2.ensures ∙ ap (λ (t : List ℕ). bytes ++ t) last))
