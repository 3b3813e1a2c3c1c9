use Rattle.std.proofs.Common.{◌≡◌, ◌∷◌, ℕ, ◌-◌, List, Some, length, take, drop, length-drop, sym, subst, arith, rules}
use Rattle.std.proofs.lemmas.List.{take_all}
use Rattle.diag_can.specs.BusLine.{IsFirstLine}
use Rattle.diag_can.specs.declared.bus_line.BusLine.TheVariants.{Ticks}
use Rattle.diag_can.proofs.TickFronts.{letters, ticks_line}
use Rattle.diag_can.proofs.front.ticks_front.Goals as goal

pub returns : goal.returns
returns c known =
    let text = c.args.text.now in
    let rest = drop 4 text in
    let len = c.in_ok-count.len in
    let after = c.in_ok-after.after.now in
    let count = c.in_ok-count.count in
    let read = c.in_ok-count.ensures in
    let four : take (length text - 4) rest ≡ rest = take_all (length text - 4) rest (omega (arith, length-drop 4 text)) in
    let ends : take (length rest - len) (drop len rest) ≡ drop len rest =
    take_all (length rest - len) (drop len rest) (omega (arith, length-drop len rest)) in
    let whole : text ≡ 116 ∷ 105 ∷ 99 ∷ 107 ∷ rest = letters text c.in-116.len_at_least (search rules) (search rules) (search rules) (search rules) in
    let line =
    ticks_line rest after len count (rw four at read.is) (rw four at read.fits) read.few (rw (four, ends) at c.in_ok-after.ensures.is) in
    let first = c.told.ensures in
    rw (first.line, first.after, first.said) (subst (λ (t : List ℕ). IsFirstLine known t (take (length t - length after - 1) t) after (Some (Ticks count))) (sym whole) (line known))
