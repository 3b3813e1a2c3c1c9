use Rattle.std.proofs.Common.{◌*◌, ◌-◌, ◌≤◌, ◌++◌, ◌∙◌, length, take, drop, ap, sym, arith, length-drop}
use Rattle.std.proofs.lemmas.List.{take_all}
use Rattle.hex.specs.Hex.{encode_upper}
use Rattle.diag_desk.proofs.UsualLemmas.{front-none, front_written}
use Rattle.diag_desk.proofs.usual.short_front.Goals as goal

pub returns-in_default : goal.returns-in_default
returns-in_default c =
    let text = c.args.text.now in
    front-none text ∙ ap (λ l. encode_upper l ++ text) (sym c.new.ensures)

pub returns : goal.returns
returns c =
    let text = c.args.text.now in
    let bytes = c.upper_front-bytes.result in
    let n = c.len-end.result in
    let count = c.len-end.ensures.count in
    let few : 2 * n ≤ 16 = omega (arith, c.len-end.ensures.fits) in
    let all = take_all (length text - 2 * n) (drop (2 * n) text) (omega (arith, length-drop (2 * n) text)) in
    front_written text c.in-Some.front.now n bytes c.in-Some.ensures.cases.same few
    (c.upper_front-bytes.ensures ∙ ap (λ m. take (2 * m) c.in-Some.front.now) (sym count))
    ∙ ap (λ l. encode_upper bytes ++ l) (sym all)
