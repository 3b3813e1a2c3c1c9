-- The events of a log as they are kept, when the bytes of one more long frame are put behind those that are there.
use Rattle.std.proofs.Common.{◌≡◌, ℕ, ◌≤◌, List, [], ◌∷◌, ◌++◌, length, map, take, drop, refl, ap, ap₂, ◌∙◌, arith, length-drop}
use Rattle.std.specs.List.{All}
use Rattle.std.proofs.lemmas.List.{map-append, drop-append-le, take-append-le, take_all}
use Rattle.std.proofs.Math.Seq.{drop-append_seam}
use Rattle.std.proofs.lemmas.List.Elements.{All-head, All-tail}
use Rattle.diag_can.specs.Event.{Event}
use Rattle.diag_can.specs.EventLog.{FitsIn, event_in}
use Rattle.diag_can.specs.Line.{addressed}
use Rattle.diag_can.specs.declared.event_log.KeptEvent.{KeptEvent}
use Rattle.diag_can.specs.declared.event_log.KeptEvent.TheVariants.{Physical, Functional, Ticks, Long}
use Rattle.diag_can.specs.declared.read.Addressing.{Addressing}

module _ (long more : List ℕ) where
  -- an event that is kept stays what it is
  event_on : (kept : KeptEvent) → FitsIn long kept → event_in (long ++ more) kept ≡ event_in long kept
  event_on (Physical bytes) fits = refl
  event_on (Functional bytes) fits = refl
  event_on (Ticks count) fits = refl
  event_on (Long frame) fits =
      let behind : drop frame.from (long ++ more) ≡ drop frame.from long ++ more = drop-append-le frame.from long more (omega (arith, fits)) in
      let enough : frame.len ≤ length (drop frame.from long) = omega (arith, fits, length-drop frame.from long) in
      ap (addressed frame.addressing) (ap (take frame.len) behind ∙ take-append-le frame.len (drop frame.from long) more enough)

  events_on : (events : List KeptEvent) → All (FitsIn long) events → map (event_in (long ++ more)) events ≡ map (event_in long) events
  events_on [] fit = refl
  events_on (kept ∷ events) fit =
      ap₂ (λ (e : Event) (es : List Event). e ∷ es) (event_on kept (All-head (FitsIn long) kept events fit)) (events_on events (All-tail (FitsIn long) kept events fit))

-- the event of a frame whose bytes are put behind them
pub one_more : (addressing : Addressing) (events : List KeptEvent) (long bytes : List ℕ) → All (FitsIn long) events
    → map (event_in (long ++ bytes)) (events ++ Long (record { from = length long; len = length bytes; addressing = addressing }) ∷ [])
    ≡ map (event_in long) events ++ addressed addressing bytes ∷ []
one_more addressing events long bytes fit =
    let last : KeptEvent = Long (record { from = length long; len = length bytes; addressing = addressing }) in
    let whole : take (length bytes) (drop (length long) (long ++ bytes)) ≡ bytes =
    ap (take (length bytes)) (drop-append_seam long bytes) ∙ take_all (length bytes) bytes (omega arith) in
    map-append (event_in (long ++ bytes)) events (last ∷ [])
    ∙ ap₂ (λ (es : List Event) (e : Event). es ++ e ∷ []) (events_on long bytes events fit) (ap (addressed addressing) whole)
