use Rattle.std.proofs.Common.{◌≡◌, nat_lt, true, ℕ, List, [], ◌++◌, length, ap, sym, ◌∙◌, arith, rules}
use Rattle.std.specs.Prelude.{◌||◌}
use Rattle.std.proofs.lemmas.List.{drop_all}
use Rattle.diag_interface.specs.Window.{items}
use Rattle.diag_interface.proofs.Outlooks.{long_passed}
use Rattle.diag_interface.proofs.only.OnlyInterface.pass_long.Goals as goal

pub returns-clause-same : goal.returns-clause-same
returns-clause-same g c = λ rest.
    let r = c.args.self.now in
    let raw = items r.raw in
    let all = ap length c.as_slice-len.ensures.value in
    let empty : items c.consume.new.self ≡ [] = c.consume.ensures.items ∙ drop_all _ raw (omega (arith, all)) in
    let yes : c.is_too_long.result ≡ true = search rules in
    let over : (r.is_long || nat_lt 4096 (length raw)) ≡ true =
    ap (λ n. r.is_long || nat_lt 4096 n) (sym all) ∙ (sym c.is_too_long.ensures ∙ yes) in
    long_passed r.name.items r.is_long (items r.ready) (items c.add.new.self) raw (items c.consume.new.self) rest c.requires over empty
    (c.add.ensures.items ∙ ap (λ (t : List ℕ). items r.ready ++ t) c.as_slice.ensures.value)
