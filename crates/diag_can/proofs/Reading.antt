-- A log that is read line by line.
use Rattle.std.proofs.Common.{◌≡◌, ℕ, ◌+◌, ◌<◌, ◌≤◌, true, false, nat_le, nat_lt, max, List, [], ◌∷◌, ◌++◌, length, refl, sym, ap, subst, ◌∙◌, append_assoc, append-nil, length-append, arith, Option, Some, None, Ok, Err}
use Rattle.std.specs.Option.{option_or}
use Rattle.std.specs.List.{filter_map, cons_option, reduce}
use Rattle.std.proofs.lemmas.List.Elements.{filter_map-append}
use Rattle.std.proofs.lemmas.List.Sums.{fold-append}
use Rattle.std.proofs.lemmas.Bool.Decides.{nat_tests}
use Rattle.diag_can.specs.BusLine.{HasNoFeed}
use Rattle.diag_can.specs.HasRead.{AreRead, HasLines}
use Rattle.diag_can.specs.Line.{event_for, frame_moment, known_to, line_says, moment_for}
use Rattle.diag_can.specs.Log.{event_list, lines_of, without_return, reference, line_gives, events_after, fault_after, first_fault, unless_fault, log_events, events}
use Rattle.diag_can.specs.Growing.{GivesMore, HasEvent}
use Rattle.diag_can.specs.Reading.{later, fault_with, given_at}
use Rattle.diag_can.specs.declared.bus_line.BusLine.{BusLine}
use Rattle.diag_can.specs.declared.fault.LogFault.{LogFault}
use Rattle.diag_can.specs.declared.fault.LogFault.TheVariants.{TooManyEvents, TooManyLines}
use Rattle.diag_can.specs.declared.frame.Ids.{Ids}
use Rattle.diag_can.specs.Event.{Event}
use Rattle.diag_can.specs.declared.log.Reading.{Reading}
use Rattle.diag_can.specs.declared.log.Timing.{Timing}
use Rattle.diag_can.specs.declared.log.Timing.TheVariants.{Lines, Stamps}
use Rattle.diag_can.specs.declared.log_reader.LogReader.{LogReader}
use Rattle.diag_can.specs.Took.{Grown, Took}
use Rattle.diag_can.proofs.BusLines.{begun_line-line}
use Rattle.diag_can.proofs.Lines.{lines_of-last, lines_of-line, lines_of-more}

-- ---- the reference

reduce-more : (moments : List ℕ) (moment : ℕ) → reduce max (moments ++ moment ∷ []) ≡ later (reduce max moments) (Some moment)
reduce-more [] moment = refl
reduce-more (first ∷ moments) moment = ap (λ n. Some n) (fold-append max first moments (moment ∷ []))

later-none : (reference : Option ℕ) → later reference None ≡ reference
later-none None = refl
later-none (Some moment) = refl

pub reduce-option : (moments : List ℕ) (moment : Option ℕ) → reduce max (moments ++ cons_option moment []) ≡ later (reduce max moments) moment
reduce-option moments None = rw append-nil (sym (later-none (reduce max moments)))
reduce-option moments (Some moment) = reduce-more moments moment

reference-more : (ids : Ids) (past : List (List ℕ)) (line : List ℕ) → reference ids (past ++ line ∷ []) ≡ later (reference ids past) (frame_moment ids line)
reference-more ids past line = rw (filter_map-append (frame_moment ids) past (line ∷ []))
    (reduce-option (filter_map (frame_moment ids) past) (frame_moment ids line))

-- ---- the events

-- the reference counts where stamps carry time
gives-same : (timing : Timing) (ids : Ids) (line : List ℕ) (a b : Option ℕ) → (timing ≡ Stamps → a ≡ b)
    → line_gives timing a ids line ≡ line_gives timing b ids line
gives-same Lines ids line a b same = refl
gives-same Stamps ids line a b same = ap (λ (moment : Option ℕ). line_gives Stamps moment ids line) (same refl)

events-more : (timing : Timing) (ids : Ids) (past lines : List (List ℕ)) (line : List ℕ)
    → events_after timing ids past (lines ++ line ∷ []) ≡ events_after timing ids past lines ++ line_gives timing (reference ids (past ++ lines)) ids line
events-more timing ids past [] line = rw (append-nil past) (append-nil (line_gives timing (reference ids past) ids line))
events-more timing ids past (first ∷ lines) line =
    let earlier : List (List ℕ) = past ++ first ∷ [] in
    let here : List Event = line_gives timing (reference ids past) ids first in
    let between : List Event = events_after timing ids earlier lines in
    let last : List Event = line_gives timing (reference ids (earlier ++ lines)) ids line in
    let more : events_after timing ids earlier (lines ++ line ∷ []) ≡ between ++ last = events-more timing ids earlier lines line in
    let all : here ++ events_after timing ids earlier (lines ++ line ∷ []) ≡ (here ++ between) ++ last =
    ap (λ (es : List Event). here ++ es) more ∙ sym (append_assoc here between last) in
    let joined : earlier ++ lines ≡ past ++ first ∷ lines = append_assoc past (first ∷ []) lines in
    rw joined at all

-- ---- what a line says was taken

pub took_said : {timing : Timing} {ids : Ids} {old new : Reading} {said : BusLine} (line : List ℕ) → line_says (known_to ids) line ≡ Ok said
    → Grown timing old new (moment_for ids (Ok said)) (event_list (Ok (event_for ids said))) → Took timing ids old new line
took_said {timing} {ids} {old} {new} {said} line says grown =
    let below : nat_lt 1000000 (length new.events.items) ≡ false = (let few = grown.few in grind (arith, nat_tests)) in
    record {
      grown = rw says grown;
      well = λ number. rw (says, ← grown.events, below) refl;
    }

-- or is at fault
pub said_fault : (timing : Timing) (ids : Ids) (old : Reading) (said : BusLine) (line : List ℕ) (number : ℕ) → line_says (known_to ids) line ≡ Ok said
    → 1000000 < length (old.events.items ++ given_at timing old.reference (moment_for ids (Ok said)) (event_list (Ok (event_for ids said))))
    → fault_with timing ids old.events.items old.reference number line ≡ Some TooManyEvents
said_fault timing ids old said line number says many =
    let over : nat_lt 1000000 (length (old.events.items ++ given_at timing old.reference (moment_for ids (Ok said)) (event_list (Ok (event_for ids said)))))
    ≡ true = grind (arith, nat_tests) in
    rw (says, over) refl

-- ---- faults

-- behind lines that are well
faults_behind : (timing : Timing) (ids : Ids) (past lines more : List (List ℕ)) → first_fault timing ids past lines ≡ None
    → first_fault timing ids past (lines ++ more) ≡ first_fault timing ids (past ++ lines) more
faults_behind timing ids past [] more none = ap (λ (ls : List (List ℕ)). first_fault timing ids ls more) (sym (append-nil past))
faults_behind timing ids past (line ∷ lines) more none =
    let both = neither (fault_after timing ids past line) (first_fault timing ids (past ++ line ∷ []) lines) none in
    ap (λ (fault : Option LogFault). option_or fault (first_fault timing ids (past ++ line ∷ []) (lines ++ more))) both.0
    ∙ faults_behind timing ids (past ++ line ∷ []) lines more both.1
    ∙ ap (λ (ls : List (List ℕ)). first_fault timing ids ls more) (append_assoc past (line ∷ []) lines)
  where
    neither : (a b : Option LogFault) → option_or a b ≡ None → (a ≡ None) × (b ≡ None)
    neither None b none = (refl, none)
    neither (Some fault) b none = cc none

module _ {ids : Ids} {timing : Timing} {old : LogReader} {past : List (List ℕ)} (h : AreRead ids timing old past) (line : List ℕ) where
  -- the fault of the next line, by what was read
  pub next_fault : old.lines < 1000000
      → fault_after timing ids past line ≡ fault_with timing ids old.reading.events.items old.reading.reference (old.lines + 1) line
  next_fault room =
      let below : nat_le 1000000 (length past) ≡ false = let c = h.count in grind (arith, nat_tests) in
      let gives = gives-same timing ids line old.reading.reference (reference ids past) h.reference_is in
      rw (below, events-more timing ids [] past line, ← h.events_are, ← gives, ← h.count) refl

  -- it gives an event for which there is room
  pub gives_more : old.lines < 1000000 → length old.reading.events.items < 1000000
      → (line_gives timing old.reading.reference ids line ≡ [] → ⊥) → GivesMore timing ids past line
  gives_more room few gives = record {
    lines = let c = h.count in omega arith;
    room = let e = ap length h.events_are in omega arith;
    gives = λ none. gives (gives-same timing ids line old.reading.reference (reference ids past) h.reference_is ∙ none);
  }

  pub too_many : 1000000 ≤ old.lines → fault_after timing ids past line ≡ Some TooManyLines
  too_many full =
      let over : nat_le 1000000 (length past) ≡ true = let c = h.count in grind (arith, nat_tests) in
      rw over refl

  pub line_read : (new : LogReader) → old.lines < 1000000 → new.lines ≡ old.lines + 1 → Took timing ids old.reading new.reading line
      → AreRead ids timing new (past ++ line ∷ [])
  line_read new room one took = record {
    well = faults_behind timing ids [] past (line ∷ []) h.well
        ∙ ap (λ (fault : Option LogFault). option_or fault None) (next_fault room ∙ took.well _);
    count = one ∙ ap (λ (n : ℕ). n + 1) h.count ∙ sym (length-append past (line ∷ []));
    events_are = took.grown.events ∙ ap (λ (events : List Event). events ++ line_gives timing old.reading.reference ids line) h.events_are
        ∙ ap (λ (given : List Event). events_after timing ids [] past ++ given)
        (gives-same timing ids line old.reading.reference (reference ids past) h.reference_is)
        ∙ sym (events-more timing ids [] past line);
    reference_is = λ stamps. took.grown.reference stamps
        ∙ ap (λ (moment : Option ℕ). later moment (frame_moment ids line)) (h.reference_is stamps)
        ∙ sym (reference-more ids past line);
    few = took.grown.few;
  }

-- ---- a log

-- a log of which these lines were read
pub all_read : (ids : Ids) (timing : Timing) (r : LogReader) (text : List ℕ) → AreRead ids timing r (lines_of text)
    → events text ids timing ≡ Ok r.reading.events.items
unfolding events
all_read ids timing r text h =
    (λ i. unless_fault (events_after timing ids [] (lines_of text)) (h.well i)) ∙ ap (λ (es : List Event). Ok es) (sym h.events_are)

module _ {ids : Ids} {timing : Timing} {r : LogReader} {seen : List ℕ} (h : HasLines ids timing r seen) where
  -- the first fault is that of the line behind them
  pub fault_next : (line more : List ℕ) (lines : List (List ℕ)) (fault : LogFault) → lines_of more ≡ line ∷ lines
      → fault_after timing ids (lines_of seen) line ≡ Some fault → events (seen ++ more) ids timing ≡ Err fault
  unfolding events
  fault_next line more lines fault begins at =
      let all : lines_of (seen ++ more) ≡ lines_of seen ++ line ∷ lines =
      lines_of-more seen more h.whole ∙ ap (λ (ls : List (List ℕ)). lines_of seen ++ ls) begins in
      ap (log_events timing ids) all
      ∙ ap (unless_fault (events_after timing ids [] (lines_of seen ++ line ∷ lines))) (faults_behind timing ids [] (lines_of seen) (line ∷ lines) h.read.well
      ∙ ap (λ (found : Option LogFault). option_or found (first_fault timing ids (lines_of seen ++ line ∷ []) lines)) at)

  -- the line behind them gives an event
  pub more_next : (line more : List ℕ) (lines : List (List ℕ)) → lines_of more ≡ line ∷ lines → GivesMore timing ids (lines_of seen) line
      → HasEvent timing ids (seen ++ more)
  more_next line more lines begins gives = record {
    past = lines_of seen;
    line = line;
    rest = lines;
    lines = lines_of-more seen more h.whole ∙ ap (λ (ls : List (List ℕ)). lines_of seen ++ ls) begins;
    well = h.read.well;
    more = gives;
  }

  -- one line more
  pub one_more : (new : LogReader) (line : List ℕ) → HasNoFeed line → AreRead ids timing new (lines_of seen ++ without_return line ∷ [])
      → HasLines ids timing new (seen ++ (line ++ 10 ∷ []))
  one_more new line none read = record {
    whole = begun_line-line seen line none;
    read = subst (AreRead ids timing new) (sym (lines_of-line seen line h.whole none)) read;
  }

  -- the log ends
  pub ended : (begun : List ℕ) → length begun ≡ 0 → events (seen ++ begun) ids timing ≡ Ok r.reading.events.items
  ended [] none = ap (λ (t : List ℕ). events t ids timing) (append-nil seen) ∙ all_read ids timing r seen h.read
  ended (c ∷ begun) none = absurd (omega arith)

  -- and in a line that no line feed ends
  pub ended_in : (new : LogReader) (line : List ℕ) → HasNoFeed line → 0 < length line → AreRead ids timing new (lines_of seen ++ without_return line ∷ [])
      → events (seen ++ line) ids timing ≡ Ok new.reading.events.items
  ended_in new line none some read =
      all_read ids timing new (seen ++ line) (subst (AreRead ids timing new)
      (sym (lines_of-more seen line h.whole ∙ ap (λ (ls : List (List ℕ)). lines_of seen ++ ls) (lines_of-last line none some))) read)
