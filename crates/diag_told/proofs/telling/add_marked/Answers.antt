use Rattle.std.proofs.Common.{◌≡◌, ℕ, ◌-◌, ◌++◌, drop, take, length, length-drop, ap, subst, sym, ◌∙◌, arith}
use Rattle.std.proofs.lemmas.List.{take_all}
use Rattle.std.specs.Prelude.{min}
use Rattle.hex.specs.Hex.{encode_upper}
use Rattle.diag_told.specs.Told.{bytes_text}
use Rattle.diag_told.proofs.Marked.{end_marked}
use Rattle.diag_told.proofs.telling.add_marked.Goals as goal

pub returns-clause-items : goal.returns-clause-items
returns-clause-items c =
    let n = c.min-count.result in
    let marks = c.args.marks.now in
    let bytes = c.args.bytes.now in
    let old = c.args.text.now.items in
    let last : c.loop-at.at ≡ n = omega (arith, c.loop-at-test.false, c.loop-at.auto.at-end) in
    let count : n ≡ min (length marks) (length bytes) = c.min-count.ensures in
    let inv = subst (λ (k : ℕ). c.loop-at.text.items ++ bytes_text (drop k marks) (drop k bytes) ≡ old ++ bytes_text marks bytes) last c.loop-at.invariant.items in
    let rest : take (length bytes - n) (drop n bytes) ≡ drop n bytes = take_all (length bytes - n) (drop n bytes) (omega (arith, length-drop n bytes)) in
    c.add_hex.ensures.items ∙ ap (λ w. c.loop-at.text.items ++ encode_upper w) rest
    ∙ (ap (λ w. c.loop-at.text.items ++ w) (sym (end_marked marks bytes n count)) ∙ inv)
