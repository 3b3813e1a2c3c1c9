use Rattle.std.proofs.Common.{◌≡◌, ◌%◌, ◌^◌, map}
use Rattle.std.proofs.lemmas.Bool.{eqb-true}
use lib.Lanes.{chunk, mask_l, top}
use Rattle.diag_can.proofs.Windows.{lanes, within}
use Rattle.diag_can.proofs.lanes.is_within.Goals as goal

pub returns : goal.returns
returns c = λ t.
    let a : mask_l (map (top 7) (lanes (chunk c.args.at 16 c.args.text.now) c.args.least.now c.args.most.now)) % 2 ^ 64 ≡ 0 = eqb-true _ 0 t in
    within c.args.text.now c.args.least.now c.args.most.now c.args.at c.requires.room c.told-least c.told-most c.type_inv.text c.requires.bounds a
