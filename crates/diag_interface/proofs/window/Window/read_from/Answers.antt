use Rattle.std.proofs.Common.{◌≡◌, ◌≤◌, ◌+◌, ◌-◌, ◌++◌, ◌∙◌, ℕ, List, ap, length, take, sym, arith, rules}
use Rattle.std.specs.Prelude.{slice_range}
use Rattle.std.proofs.lemmas.List.{with_items_is}
use Rattle.std.proofs.lemmas.Result.{err_from_is_err_and}
use borrow.Rule.Slice.PartMut.{put_mid}
use Rattle.diag_interface.proofs.Windows.{grown, kept, sized}
use Rattle.diag_interface.proofs.window.Window.read_from.Goals as goal

pub returns-in_err-count-clause-err : goal.returns-in_err-count-clause-err
returns-in_err-count-clause-err g c =
    let w = c.args.self.now in
    let xs = c.as_mut_slice.result.now in
    let k = length xs - w.end in
    let size = c.as_mut_slice.ensures.len in
    let within : w.end ≤ length xs = omega (arith, w.within, size) in
    let len : length c.read.new.buf ≡ k = search rules in
    let whole = sized xs c.read.new.buf w.end k (omega (arith, within)) len in
    let p = err_from_is_err_and c.from_residual.result c.from_residual.ensures.1 in
    rw p.1 (
      ap (λ (b : List ℕ). slice_range b w.start w.end) (with_items_is w.bytes (put_mid w.end k xs c.read.new.buf) (omega (arith, whole, size)))
          ∙ (kept xs c.read.new.buf w.start w.end k w.ordered within ∙ ap (λ (x : List ℕ). slice_range x w.start w.end) c.as_mut_slice.ensures.value),
      c.in_err-count.ensures.bytes,
    )

pub returns-clause-ok : goal.returns-clause-ok
returns-clause-ok g c =
    let w = c.args.self.now in
    let xs = c.as_mut_slice.result.now in
    let k = length xs - w.end in
    let size = c.as_mut_slice.ensures.len in
    let within : w.end ≤ length xs = omega (arith, w.within, size) in
    let len : length c.read.new.buf ≡ k = search rules in
    let whole = sized xs c.read.new.buf w.end k (omega (arith, within)) len in
    let n = c.in_ok-count.count in
    let bound = c.in_ok-count.ensures.bound in (
      take n c.read.new.buf,
      sym bound.1,
      ap (λ (b : List ℕ). slice_range b w.start (w.end + n)) (with_items_is w.bytes (put_mid w.end k xs c.read.new.buf) (omega (arith, whole, size)))
          ∙ (grown xs c.read.new.buf w.start w.end k n w.ordered within bound.0
          ∙ ap (λ (x : List ℕ). slice_range x w.start w.end ++ take n c.read.new.buf) c.as_mut_slice.ensures.value),
      c.in_ok-count.ensures.bytes.0,
    )
