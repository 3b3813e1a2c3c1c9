use Rattle.std.proofs.Common.{ap, subst, ◌∙◌, inl, inr}
use Rattle.std.proofs.lemmas.Option.{slice_get-map}
use Rattle.std.specs.Prelude.{map, slice_set}
use Rattle.std.specs.Option.{option_map}
use Rattle.diag_tp.specs.SentFrames.{SentList}
use Rattle.diag_world.proofs.Worlds.{map_cases, set_cases}
use Rattle.diag_bus.specs.Filled.{AreFilled}
use Rattle.diag_bus.specs.declared.filled.Filled.{Filled}
use Rattle.diag_bus.proofs.line_frames.clear.Goals as goal

pub returns-in-At-clause-empty : goal.returns-in-At-clause-empty
returns-in-At-clause-empty c = λ i frames at.
    let items = λ (f : SentList). f.items in
    let drawn = c.args.drawn.now.items in
    let index = c.in-At.index in
    let filled = subst (λ (f : Filled). AreFilled f (map items drawn)) c.in-At.is c.requires.filled in
    let t = map_cases items (slice_set drawn index c.clear.new.self) i frames at in
    elim (set_cases drawn index i c.clear.new.self t.0 t.1) [
      | inl p ↦ t.2 ∙ (ap items p.1 ∙ c.clear.ensures.items)
      | inr p ↦ t.2 ∙ filled.1 i t.0.items p.0 (slice_get-map items drawn i ∙ ap (option_map items) p.1)
    ]
