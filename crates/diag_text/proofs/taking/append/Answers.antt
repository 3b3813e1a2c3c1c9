use Rattle.std.proofs.Common.{◌≡◌, ℕ, ◌+◌, ◌-◌, List, ◌++◌, take, drop, ap, sym, ◌∙◌, append_assoc, arith}
use Rattle.std.proofs.Math.Seq.{take-add}
use Rattle.diag_text.proofs.taking.append.Goals as goal

pub loop-done-preserved : goal.loop-done-preserved
loop-done-preserved c =
    let before = c.args.bytes.now.items in
    let piece = c.args.piece.now in
    let done = c.loop-done.done in
    let count = c.min.result in
    let part = take count (drop done piece) in
    let size : done + count - done ≡ count = omega arith in
    record {
      appended = c.in_ok-extend_from_slice.ensures.items ∙ ap (λ (n : ℕ). c.loop-done.bytes.items ++ take n (drop done piece)) size
          ∙ ap (λ (b : List ℕ). b ++ part) c.loop-done.invariant.appended ∙ append_assoc before (take done piece) part
          ∙ ap (λ (t : List ℕ). before ++ t) (sym (take-add done count piece));
      within = omega (arith, c.min.ensures, c.loop-done.invariant.within);
    }
