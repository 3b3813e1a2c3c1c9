use Rattle.std.proofs.Common.{◌≡◌, ◌++◌, ◌∷◌, [], List, ℕ, length, map, ap, ap₂, ◌∙◌, rules}
use Rattle.diag_can.specs.Event.{Event}
use Rattle.diag_can.specs.EventLog.{Events, event_in}
use Rattle.diag_can.specs.Line.{addressed}
use Rattle.diag_can.specs.declared.event_log.KeptEvent.{KeptEvent}
use Rattle.diag_can.specs.declared.event_log.KeptEvent.TheVariants.{Long}
use Rattle.diag_can.proofs.KeptEvents.{one_more}
use Rattle.diag_can.proofs.event_log.Log.add_long.Goals as goal

pub returns : goal.returns
returns c =
    let inside = c.self.inside in
    let bytes = c.args.bytes.now in
    let last : KeptEvent = Long (record { from = length inside.long.items; len = length bytes; addressing = c.args.addressing }) in
    let long : c.extend_from_slice.new.self.items ≡ inside.long.items ++ bytes = search rules in
    let events : c.push_reserved.new.self.items ≡ inside.events.items ++ last ∷ [] = search rules in
    let was : map (event_in inside.long.items) inside.events.items ≡ c.args.self.now.items = ap (λ (e : Events). e.items) c.self.view_is in
    ap₂ (λ (bytes : List ℕ) (kept : List KeptEvent). map (event_in bytes) kept) long events
    ∙ one_more c.args.addressing inside.events.items inside.long.items bytes c.self.invariant.0
    ∙ ap (λ (e : List Event). e ++ addressed c.args.addressing bytes ∷ []) was
