use Rattle.std.proofs.Common.{◌≡◌, ◌<◌, ◌+◌, ◌-◌, ℕ, List, Some, length, map, take, drop, option_map, refl, ap, ap₂, sym, ◌∙◌, arith}
use Rattle.std.specs.List.{slice_get}
use Rattle.std.proofs.lemmas.Option.{slice_get-map, slice_get_read}
use Rattle.std.proofs.lemmas.List.{length-map}
use Rattle.diag_can.specs.EventLog.{Events, event_in}
use Rattle.diag_can.specs.Line.{addressed}
use Rattle.diag_can.specs.declared.event_log.KeptEvent.TheVariants.{Long}
use Rattle.diag_can.proofs.event_log.Log.get.Goals as goal

pub returns-in-Long : goal.returns-in-Long
returns-in-Long c =
    let frame = c.in-Long.frame in
    let events = c.self.inside.events.items in
    let long : List ℕ = c.self.inside.long.items in
    let size : length (map (event_in long) events) ≡ length c.args.self.now.items = ap (λ (e : Events). length e.items) c.self.view_is in
    let within : c.args.index < length events = omega (arith, c.requires, size, length-map events (event_in long)) in
    let kept : slice_get events c.args.index ≡ Some (Long frame) =
    slice_get_read events (length events) c.args.index c.index.result.now refl within c.index.ensures ∙ ap Some c.in-Long.is in
    let count : (frame.from + c.from.result) - frame.from ≡ frame.len = omega (arith, c.from.ensures) in
    let bytes : c.long.result ≡ take frame.len (drop frame.from long) =
    c.long.ensures ∙ ap₂ (λ (n : ℕ) (b : List ℕ). take n (drop frame.from b)) count c.deref.ensures.value in
    ap (λ (e : Events). slice_get e.items c.args.index) (sym c.self.view_is)
    ∙ slice_get-map (event_in long) events c.args.index
    ∙ ap (option_map (event_in long)) kept
    ∙ ap Some (sym (c.event.ensures ∙ ap (addressed frame.addressing) bytes))
