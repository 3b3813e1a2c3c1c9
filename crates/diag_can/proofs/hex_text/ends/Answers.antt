use Rattle.std.proofs.Common.{◌≡◌, ℕ, ◌-◌, List, ◌++◌, length, take, drop, length-append, length-drop, ◌∙◌, ap, arith}
use Rattle.std.proofs.lemmas.List.{take_all, length-take-le}
use Rattle.std.proofs.lemmas.Simd.{pick_l_whole}
use Rattle.diag_can.proofs.hex_text.ends.Goals as goal

pub returns : goal.returns
returns c =
    let bytes = c.args.bytes.now in
    let front = take 4 bytes in
    let back = drop (length bytes - 4) bytes in
    let four : length back ≡ 4 = omega (arith, length-drop (length bytes - 4) bytes, c.requires) in
    let last : take 4 back ≡ back = take_all 4 back (omega (arith, four)) in
    let eight : length (front ++ take 4 back) ≡ 8 =
    omega (arith, length-append front (take 4 back), length-take-le 4 bytes c.requires, ap length last, four) in
    pick_l_whole 0 (front ++ take 4 back) 8 eight ∙ ap (λ (l : List ℕ). front ++ l) last
