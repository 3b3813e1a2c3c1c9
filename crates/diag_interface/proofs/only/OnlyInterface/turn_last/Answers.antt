use Rattle.std.proofs.Common.{◌≡◌, ℕ, List, [], ◌++◌, length, ap, ◌∙◌, arith}
use Rattle.std.proofs.lemmas.List.{drop_all}
use Rattle.diag_interface.specs.Only.{turned}
use Rattle.diag_interface.specs.Window.{items}
use Rattle.diag_interface.proofs.Outlooks.{ended, keeps_end, last_turned, nothing_left}
use Rattle.diag_interface.proofs.only.OnlyInterface.turn_last.Goals as goal

pub returns-clause-same : goal.returns-clause-same
returns-clause-same g c =
    let r = c.args.self.now in
    let raw = items r.raw in
    let all = ap length c.as_slice-len.ensures.value in
    let empty : items c.consume.new.self ≡ [] = c.consume.ensures.items ∙ drop_all _ raw (omega (arith, all)) in
    keeps_end _ _ (g.R.Read.remaining r.inner) c.requires.end
    (last_turned r.name.items r.is_long (items r.ready) (items c.add_begun.new.ready) raw (items c.consume.new.self) c.requires.begun.0 empty
    (c.add_begun.ensures.items
    ∙ (ap (λ (n : List ℕ). items r.ready ++ turned n r.is_long c.as_slice-2.result.now) c.as_slice.ensures.value
    ∙ ap (λ (t : List ℕ). items r.ready ++ turned r.name.items r.is_long t) c.as_slice-2.ensures.value)))

pub returns-clause-end : goal.returns-clause-end
returns-clause-end g c = λ none.
    let r = c.args.self.now in
    let raw = items r.raw in
    let all = ap length c.as_slice-len.ensures.value in
    let empty : items c.consume.new.self ≡ [] = c.consume.ensures.items ∙ drop_all _ raw (omega (arith, all)) in
    ended _ (g.R.Read.remaining r.inner) c.requires.end (nothing_left r.name.items (items c.add_begun.new.ready) (items c.consume.new.self) empty none)
