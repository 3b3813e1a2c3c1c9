use Rattle.std.proofs.Common.{ℕ, List, [], ◌∷◌, ◌++◌, take, sym, ap, ◌∙◌}
use Rattle.diag_can.proofs.Lines.{no_feed_before, split_at_feed}
use Rattle.diag_interface.specs.Only.{turned}
use Rattle.diag_interface.specs.Window.{items}
use Rattle.diag_interface.proofs.Outlooks.{line_turned}
use Rattle.diag_interface.proofs.only.OnlyInterface.turn_whole.Goals as goal

pub returns-clause-same : goal.returns-clause-same
returns-clause-same g c = λ rest.
    let r = c.args.self.now in
    let raw = items r.raw in
    let end = c.args.end in
    let found = c.requires.line in
    line_turned r.name.items r.is_long (items r.ready) (items c.add_line.new.ready) raw (items c.consume.new.self) (take end raw) rest
    (no_feed_before raw end found)
    (split_at_feed raw end found ∙ ap (λ (t : List ℕ). take end raw ++ 10 ∷ t) (sym c.consume.ensures.items))
    (c.add_line.ensures.items
    ∙ (ap (λ (n : List ℕ). items r.ready ++ (turned n r.is_long (take end c.as_slice-text.result.now) ++ 10 ∷ [])) c.as_slice.ensures.value
    ∙ ap (λ (t : List ℕ). items r.ready ++ (turned r.name.items r.is_long (take end t) ++ 10 ∷ [])) c.as_slice-text.ensures.value))
