use Rattle.std.proofs.Common.{◌≡◌, ◌≤◌, ◌+◌, ◌-◌, ◌++◌, ℕ, List, length, take, ap, ◌∙◌, arith}
use Rattle.std.proofs.lemmas.List.{take_all, with_items_is}
use Rattle.std.specs.Prelude.{slice_range}
use borrow.Rule.Slice.PartMut.{put_mid}
use Rattle.diag_interface.specs.Window.{items}
use Rattle.diag_interface.proofs.Windows.{grown, sized}
use Rattle.diag_interface.proofs.window.Window.add.Goals as goal

pub returns-clause-items : goal.returns-clause-items
returns-clause-items c =
    let w = c.args.self.now in
    let xs = c.as_mut_slice.result.now in
    let new = c.copy_from_slice.new.self in
    let n = length c.args.bytes.now in
    let k = w.end + n - w.end in
    let size = c.as_mut_slice.ensures.len in
    let room = c.requires in
    let within : w.end ≤ length xs = omega (arith, w.within, size) in
    let len : length new ≡ n = ap length c.copy_from_slice.ensures.after in
    let whole = sized xs new w.end k (omega (arith, room, size, w.within)) (omega (arith, len)) in
    ap (λ (b : List ℕ). slice_range b w.start (w.end + n)) (with_items_is w.bytes (put_mid w.end k xs new) (omega (arith, whole, size)))
    ∙ (grown xs new w.start w.end k n w.ordered within (omega (arith, len))
    ∙ (ap (λ (x : List ℕ). slice_range x w.start w.end ++ take n new) c.as_mut_slice.ensures.value
    ∙ ap (λ (t : List ℕ). items w ++ t) (take_all n new (omega (arith, len)) ∙ c.copy_from_slice.ensures.after)))
