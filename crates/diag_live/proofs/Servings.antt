-- How a call of a live run goes: what is heard, with the time before it, recorded and taken.
use Rattle.diag_can.specs.declared.frame.KnownId.{KnownId}
use Rattle.std.proofs.Common.{◌≡◌, ◌⊎◌, ℕ, ◌+◌, ◌-◌, ◌<◌, ◌≤◌, ◌^◌, min, max, List, [], ◌∷◌, ◌++◌, length, map, take, drop, None, Some, inl, inr, Ok, Err, refl, sym, ap, subst, ◌∙◌, append_assoc, length-append, suc, zero, arith}
use Rattle.std.proofs.lemmas.List.{append-nil, length-map, length-take, take-append-drop, take-map}
use Rattle.std.proofs.lemmas.List.Concat.{flat_map-cons}
use Rattle.std.proofs.Math.Seq.{drop-append_seam, take-append_seam}
use Rattle.diag_can.specs.BusLine.{begun_line, bus_line, bus_lines, ended_lines}
use Rattle.diag_can.specs.declared.fault.LineFault.{LineFault}
use Rattle.diag_can.proofs.BusLines.{bus_lines-ended, bus_lines-more}
use Rattle.diag_setup.specs.declared.raw.RawSetup.{RawSetup}
use Rattle.diag_setup.specs.Setup.{known_ids}
use Rattle.diag_bus.specs.Events.{first_fault, line_said}
use Rattle.diag_bus.specs.Text.{text_of}
use Rattle.diag_bus.specs.declared.fault.BusFault.{BusFault}
use Rattle.diag_bus.specs.declared.fault.BusFault.TheVariants as bus
use Rattle.diag_run.specs.Capture.{IsCutShort, IsFaultyLine, IsFrontOf, StopsOn}
use Rattle.diag_run.specs.Capturing.{HaltsIn, Stands, fault_of}
use Rattle.diag_run.specs.Wanted.{End, any_lines, end_with, replies_wanted, reply_lines}
use Rattle.diag_run.specs.declared.capture.CaptureFault.{CaptureFault}
use Rattle.diag_run.specs.declared.capture.CaptureFault.TheVariants as capture
use Rattle.diag_text.specs.declared.fault.RunFault.{RunFault}
use Rattle.diag_text.specs.declared.fault.RunFault.TheVariants as fault
use Rattle.diag_run.proofs.Pieces.{IsFrontOf-refl}
use Rattle.diag_live.specs.Live.{AreGood, Heard, Taken, Ticked, capture_of, capture_line, lines_of, record_text, passed, with_feed}
use Rattle.diag_live.specs.Hearing.{EndsBefore, HasHeard, HeardLines}
use Rattle.diag_live.specs.Stops.{AreFront, IsBadLine, IsFaulty, IsLiveCutShort, LiveStopsOn}
use Rattle.diag_live.specs.Pace.{last_feed, lines_behind, taken_at}
use Rattle.diag_live.specs.Serving.{Delivered, ServingGoesOn, ServingHalts, ServingStands, Undelivered, input_number, numbered}
use Rattle.diag_live.specs.declared.serving.Serving.{Serving}
use Rattle.diag_live.specs.declared.hearing.Hearing.{Hearing}
use Rattle.diag_port.specs.Port.{Grew}
use Rattle.diag_live.proofs.Records.{capture_of-append, capture_says, good_join, lines_more, lines_of-append, plain_capture, record_text-append}
use Rattle.diag_live.proofs.Numbers.{AreTicks, all_heard, fault_behind, heard_before, nothing_heard, passed_ticks}

no_end_told : (end : End) (told : List ℕ) → Ok end ≡ Err told → ⊥
no_end_told end told same = cc

abbrev type_of : {T : Type 0} → T → Type 0
type_of {T} x = T

-- ---- what is fresh

-- the text is that of ticks and of lines that were heard behind them
pub record Fresh (known : List KnownId) (ticks : ℕ) (text : List ℕ) (lines : List (List ℕ)) : Type 0 where
  pub time : List Taken
  pub count : ticks ≡ length time
  pub silent : AreTicks time
  pub good : AreGood known (time ++ map Heard lines)
  pub is : text ≡ record_text (capture_of (time ++ map Heard lines))

-- so behind what was heard these lines are fresh, whatever follows
pub record Brings (known : List KnownId) (text : List ℕ) (ticks : ℕ) (seen piece : List ℕ) : Type 0 where
  pub lines : List (List ℕ)
  pub fresh : Fresh known ticks text lines
  pub front : (rest : List ℕ) → AreFront (ended_lines seen ++ lines) (bus_lines ((seen ++ piece) ++ rest))

pub text_join : (a b : List Taken) → record_text (capture_of (a ++ b)) ≡ record_text (capture_of a) ++ record_text (capture_of b)
text_join a b = ap record_text (capture_of-append a b) ∙ record_text-append (capture_of a) (capture_of b)

abbrev pub fresh_lines : (known : List KnownId) (span : ℕ) (ticks : ℕ) (before text more : List ℕ) (lines : List (List ℕ)) → before ≡ record_text (capture_of (passed span))
    → ticks ≡ length (passed span) → text ≡ before ++ more
    → AreGood known (map Heard lines) → more ≡ record_text (capture_of (map Heard lines)) → Fresh known ticks text lines
fresh_lines known span ticks before text more lines was count is good said = record {
  time = passed span;
  count = count;
  silent = (passed_ticks known span).0;
  good = good_join known (passed span) (map Heard lines) (passed_ticks known span).1 good;
  is = is ∙ (ap (λ (t : List ℕ). t ++ more) was
      ∙ (ap (λ (t : List ℕ). record_text (capture_of (passed span)) ++ t) said ∙ sym (text_join (passed span) (map Heard lines))));
}

pub nothing_fresh : (known : List KnownId) → Fresh known 0 [] []
nothing_fresh known = record { time = []; count = refl; silent = tt; good = tt; is = refl }

pub brings_nothing : (known : List KnownId) (seen piece : List ℕ) → Brings known [] 0 seen piece
brings_nothing known seen piece = record {
  lines = [];
  fresh = nothing_fresh known;
  front = λ rest. (
    bus_lines (begun_line seen ++ (piece ++ rest)),
    ap bus_lines (append_assoc seen piece rest)
        ∙ (bus_lines-more seen (piece ++ rest) ∙ ap (λ (l : List (List ℕ)). l ++ bus_lines (begun_line seen ++ (piece ++ rest)))
        (sym (append-nil (ended_lines seen)))),
  );
}

-- ---- behind what was taken

module _ (old : Serving) (seen wrote noted : List ℕ) (s : ServingStands old seen wrote noted) (text : List ℕ) (ticks : ℕ) (lines : List (List ℕ))
    (f : Fresh (known_ids old.capture.bus.setup) ticks text lines) where
  abbrev pub fresh : List Taken
  fresh = f.time ++ map Heard lines

  abbrev pub all : List Taken
  all = s.taken ++ fresh

  pub all_good : AreGood (known_ids old.capture.bus.setup) all
  all_good = good_join (known_ids old.capture.bus.setup) s.taken fresh s.good f.good

  pub all_lines : lines_of all ≡ ended_lines seen ++ lines
  all_lines =
      lines_of-append s.taken fresh
      ∙ (ap (λ (l : List (List ℕ)). l ++ lines_of fresh) s.heard
      ∙ ap (λ (l : List (List ℕ)). ended_lines seen ++ l)
      (lines_of-append f.time (map Heard lines)
      ∙ (ap (λ (l : List (List ℕ)). l ++ lines_of (map Heard lines)) (nothing_heard f.time f.silent) ∙ all_heard lines)))

  pub all_noted : noted ++ text ≡ record_text (capture_of all)
  all_noted = ap (λ (t : List ℕ). t ++ text) s.recorded ∙ (ap (λ (t : List ℕ). record_text (capture_of s.taken) ++ t) f.is ∙ sym (text_join s.taken fresh))

  more : (ended_lines (noted ++ text) ≡ ended_lines noted ++ capture_of fresh) × (begun_line (noted ++ text) ≡ [])
  more =
      let here = lines_more noted (capture_of fresh) s.closed (plain_capture (known_ids old.capture.bus.setup) fresh f.good) in (
        ap (λ (t : List ℕ). ended_lines (noted ++ t)) f.is ∙ here.0,
        ap (λ (t : List ℕ). begun_line (noted ++ t)) f.is ∙ here.1,
      )

  pub all_ended : ended_lines (noted ++ text) ≡ capture_of all
  all_ended = more.0 ∙ (ap (λ (l : List (List ℕ)). l ++ capture_of fresh) s.lines ∙ sym (capture_of-append s.taken fresh))

  pub all_closed : begun_line (noted ++ text) ≡ []
  all_closed = more.1

  all_read : bus_lines ((noted ++ text) ++ []) ≡ capture_of all
  all_read = ap bus_lines (append-nil (noted ++ text)) ∙ (bus_lines-ended (noted ++ text) all_closed ∙ all_ended)

  was_well : first_fault old.capture.bus.setup (capture_of s.taken) ≡ None
  was_well = ap (first_fault old.capture.bus.setup) (sym s.lines) ∙ s.capture.took_lines.well

  was_written : wrote ≡ text_of old.capture.bus.setup (capture_of s.taken)
  was_written =
      sym (append-nil wrote)
      ∙ (ap (λ (t : List ℕ). wrote ++ t) (sym s.sent)
      ∙ (s.capture.due
      ∙ ap (text_of old.capture.bus.setup) s.lines))

  -- a front of the text was recorded, and nothing of it was taken
  pub cut_before : (part : List ℕ) (given : List (List ℕ)) → IsFrontOf part text → AreFront (ended_lines seen ++ lines) given
      → IsLiveCutShort old.capture.bus.setup given (wrote ++ []) (noted ++ part)
  cut_before part given front heard = record {
    taken = s.taken;
    next = fresh;
    heard = (heard.0, heard.1 ∙ ap (λ (l : List (List ℕ)). l ++ heard.0) (sym all_lines));
    good = all_good;
    well = was_well;
    text = ([], ap (λ (t : List ℕ). t) (sym was_written) ∙ (sym (append-nil wrote) ∙ sym (append-nil (wrote ++ []))));
    more = part;
    recorded = ap (λ (t : List ℕ). t ++ part) s.recorded;
    front = (front.0, sym f.is ∙ front.1);
  }

  -- the text was recorded, and taken in part
  pub cut_within : (sent : List ℕ) (given : List (List ℕ)) → AreFront (ended_lines seen ++ lines) given
      → IsCutShort reply_lines old.capture.bus.setup (capture_of all) (wrote ++ sent)
      → IsLiveCutShort old.capture.bus.setup given (wrote ++ sent) (noted ++ text)
  cut_within sent given heard cut =
      let k = length cut.taken in
      let parts : take k all ++ drop k all ≡ all = take-append-drop k all in
      let front : capture_of (take k all) ≡ cut.taken =
      sym (take-map capture_line k all) ∙ (ap (take k) cut.are ∙ take-append_seam cut.taken cut.others) in
      record {
        taken = take k all;
        next = drop k all;
        heard = (heard.0, heard.1 ∙ ap (λ (l : List (List ℕ)). l ++ heard.0) (sym all_lines ∙ ap lines_of (sym parts)));
        good = subst (AreGood (known_ids old.capture.bus.setup)) (sym parts) all_good;
        well = ap (first_fault old.capture.bus.setup) front ∙ cut.well;
        text = subst (λ (l : List (List ℕ)). IsFrontOf (wrote ++ sent) (text_of old.capture.bus.setup l)) (sym front) (elim cut.front [
          | inl x ↦ x
          | inr x ↦ subst (IsFrontOf (wrote ++ sent)) (append-nil (text_of old.capture.bus.setup cut.taken)) x.1
        ]);
        more = record_text (capture_of (drop k all));
        recorded = all_noted ∙ (ap (λ (t : List Taken). record_text (capture_of t)) (sym parts) ∙ text_join (take k all) (drop k all));
        front = IsFrontOf-refl (record_text (capture_of (drop k all)));
      }

  -- a line of the capture is at fault
  pub late_within : (sent : List ℕ) (given : List (List ℕ)) (m : ℕ) (b : BusFault) → AreFront (ended_lines seen ++ lines) given
      → IsFaultyLine reply_lines old.capture.bus.setup m b (capture_of all) (wrote ++ sent)
      → (n : ℕ) → n ≡ length (lines_of s.taken) + max (m - (length s.taken + length f.time)) 1
      → IsFaulty old.capture.bus.setup n b given (wrote ++ sent) (noted ++ text)
  late_within sent given m b heard line n number =
      let joined : capture_of s.taken ++ capture_of fresh ≡ capture_of all = sym (capture_of-append s.taken fresh) in
      let among = fault_behind old.capture.bus.setup (capture_of s.taken) (capture_of fresh) m b (capture_says (known_ids old.capture.bus.setup) fresh f.good) was_well (ap (first_fault old.capture.bus.setup) joined ∙ line.first) in
      let size = length-map s.taken capture_line in
      let size' = length-map fresh capture_line in
      let wide = length-append f.time (map Heard lines) in
      let heards = length-map lines Heard in
      let whole = length-append s.taken fresh in
      let before = heard_before s.taken f.time lines m f.silent (omega (arith, among.low, size)) (omega (arith, among.high, size, size', wide, heards)) in
      let parts : take (m - 1) all ++ drop (m - 1) all ≡ all = take-append-drop (m - 1) all in
      let inside : m - 1 < length all = omega (arith, among.low, among.high, size, size', whole) in
      let some : drop (m - 1) all ≡ at (m - 1) all ∷ drop (suc (m - 1)) all = at_drop (m - 1) all inside in
      let split : take (m - 1) all ++ at (m - 1) all ∷ drop (suc (m - 1)) all ≡ all = ap (λ (t : List Taken). take (m - 1) all ++ t) (sym some) ∙ parts in
      let length_before : length (take (m - 1) all) + 1 ≡ m = omega (arith, inside, among.low, length-take (m - 1) all) in
      subst (λ (x : BusFault). IsFaulty old.capture.bus.setup n x given (wrote ++ sent) (noted ++ text)) (sym among.late) (record {
        before = take (m - 1) all;
        late = at (m - 1) all;
        behind = drop (suc (m - 1)) all;
        heard = (heard.0, heard.1 ∙ ap (λ (l : List (List ℕ)). l ++ heard.0) (sym all_lines ∙ ap lines_of (sym split)));
        number = number ∙ sym before;
        good = subst (AreGood (known_ids old.capture.bus.setup)) (sym split) all_good;
        first = ap (λ (t : List Taken). first_fault old.capture.bus.setup (capture_of t)) split
            ∙ (line.first ∙ (ap (λ (x : BusFault). Some (m, x)) among.late ∙ ap (λ k. Some (k, bus.Late)) (sym length_before)));
        text = line.text ∙ ap (text_of old.capture.bus.setup) (take-map capture_line (m - 1) all);
        recorded = all_noted ∙ ap (λ (t : List Taken). record_text (capture_of t)) (sym split);
      })
    where
      at : ℕ → List Taken → Taken
      at k [] = Ticked 1
      at zero (t ∷ taken) = t
      at (suc k) (t ∷ taken) = at k taken

      at_drop : (k : ℕ) (taken : List Taken) → k < length taken → drop k taken ≡ at k taken ∷ drop (suc k) taken
      at_drop k [] less = absurd (omega (arith, less))
      at_drop zero (t ∷ taken) less = refl
      at_drop (suc k) (t ∷ taken) less = at_drop k taken (omega (arith, less))

-- where the fault of the capture lies
pub range_of : (old : Serving) (seen wrote noted : List ℕ) (s : ServingStands old seen wrote noted) (text : List ℕ) (ticks : ℕ) (lines : List (List ℕ))
    (f : Fresh (known_ids old.capture.bus.setup) ticks text lines)
    (sent : List ℕ) (m : ℕ) (x : BusFault) → IsFaultyLine reply_lines old.capture.bus.setup m x
    (capture_of (all old seen wrote noted s text ticks lines f)) (wrote ++ sent)
    → m < length s.taken + 1 + length (f.time ++ map Heard lines)
range_of old seen wrote noted s text ticks lines f sent m x line =
    let joined : capture_of s.taken ++ capture_of (f.time ++ map Heard lines) ≡ capture_of (s.taken ++ (f.time ++ map Heard lines)) =
    sym (capture_of-append s.taken (f.time ++ map Heard lines)) in
    let well : first_fault old.capture.bus.setup (capture_of s.taken) ≡ None = ap (first_fault old.capture.bus.setup) (sym s.lines) ∙ s.capture.took_lines.well in
    let among = fault_behind old.capture.bus.setup (capture_of s.taken) (capture_of (f.time ++ map Heard lines)) m x (capture_says (known_ids old.capture.bus.setup) (f.time ++ map Heard lines) f.good) well
    (ap (first_fault old.capture.bus.setup) joined ∙ line.first) in
    omega (arith, among.high, length-map s.taken capture_line, length-map (f.time ++ map Heard lines) capture_line)

-- a text has at least as many bytes as lines
lines_fit : (lines : List (List ℕ)) → length lines ≤ length (record_text lines)
lines_fit [] = omega arith
lines_fit (line ∷ lines) =
    omega (
      arith,
      lines_fit lines,
      ap length (flat_map-cons with_feed line lines),
      length-append (with_feed line) (record_text lines),
      length-append line (10 ∷ []),
    )

ap_le : (lines : List (List ℕ)) (text : List ℕ) → text ≡ record_text lines → length lines ≤ length text
ap_le lines text is = omega (arith, lines_fit lines, ap length is)

-- no more lines were heard than were taken
lines_fewer : (taken : List Taken) → length (lines_of taken) ≤ length taken
lines_fewer [] = omega arith
lines_fewer (Heard bytes ∷ taken) = omega (arith, lines_fewer taken)
lines_fewer (Ticked count ∷ taken) = omega (arith, lines_fewer taken)

-- ---- how a delivery ends

module _ (old : Serving) (piece text : List ℕ) (ticks : ℕ) (brings : (seen : List ℕ) → HasHeard old.hearing seen → Brings (known_ids old.capture.bus.setup) text ticks seen piece) where
  -- it was recorded in part, or not at all
  pub unrecorded_halts : (came : RunFault) (part : List ℕ) → (came ≡ fault.Write) ⊎ (came ≡ fault.Memory) → IsFrontOf part text
      → ServingHalts old came piece [] part
  unrecorded_halts came part kind front = λ seen wrote noted s rest.
      let b = brings seen s.follows in
      let cut = cut_before old seen wrote noted s text ticks b.lines b.fresh part (bus_lines ((seen ++ piece) ++ rest)) front (b.front rest) in
      let stops : RunFault → Type 0 = λ f. LiveStopsOn old.capture.bus.setup f (bus_lines ((seen ++ piece) ++ rest)) (wrote ++ []) (noted ++ part) in
      elim kind [
        | inl is ↦ subst stops (sym is) cut
        | inr is ↦ subst stops (sym is) cut
      ]

  module _ (heard first : ℕ) (same : heard ≡ old.hearing.lines) (place : first ≡ min (old.capture.lines + ticks) (2 ^ 64 - 1)) where
    taking : (came : CaptureFault) (sent : List ℕ) → old.capture.lines + length text + 1 < 2 ^ 64 → HaltsIn any_lines replies_wanted old.capture came text sent
        → ServingHalts old (numbered heard first came) piece sent text
    taking came sent small halts = λ seen wrote noted s rest.
        let b = brings seen s.follows in
        let f = b.fresh in
        let given = bus_lines ((seen ++ piece) ++ rest) in
        let setup = old.capture.bus.setup in
        let stops : StopsOn reply_lines setup (fault_of came) (capture_of (all old seen wrote noted s text ticks b.lines f)) (wrote ++ sent) =
        subst (λ (l : List (List ℕ)). StopsOn reply_lines setup (fault_of came) l (wrote ++ sent)) (all_read old seen wrote noted s text ticks b.lines f)
        ((halts noted wrote s.capture).stops []) in
        on seen wrote noted s rest b came stops
      where
        on : (seen wrote noted : List ℕ) (s : ServingStands old seen wrote noted) (rest : List ℕ) (b : Brings (known_ids old.capture.bus.setup) text ticks seen piece) (came : CaptureFault)
            → StopsOn reply_lines old.capture.bus.setup (fault_of came) (capture_of (all old seen wrote noted s text ticks b.lines b.fresh))
            (wrote ++ sent)
            → LiveStopsOn old.capture.bus.setup (numbered heard first came) (bus_lines ((seen ++ piece) ++ rest)) (wrote ++ sent) (noted ++ text)
        on seen wrote noted s rest b capture.Memory stops =
            cut_within old seen wrote noted s text ticks b.lines b.fresh sent (bus_lines ((seen ++ piece) ++ rest)) (b.front rest) stops.cut
        on seen wrote noted s rest b capture.Write stops =
            cut_within old seen wrote noted s text ticks b.lines b.fresh sent (bus_lines ((seen ++ piece) ++ rest)) (b.front rest) stops
        on seen wrote noted s rest b capture.Read stops = absurd stops
        on seen wrote noted s rest b (capture.Otherwise told) stops = absurd (no_end_told (end_with [] 0) stops.0 stops.2.told)
        on seen wrote noted s rest b (capture.Line m x) stops =
            let f = b.fresh in
            let lines = b.lines in
            let counted : old.capture.lines ≡ length s.taken = s.capture.count ∙ (ap length s.lines ∙ length-map s.taken capture_line) in
            let many : length (capture_of (f.time ++ map Heard lines)) ≤ length text = ap_le (capture_of (f.time ++ map Heard lines)) text f.is in
            let size = length-map (f.time ++ map Heard lines) capture_line in
            let wide = length-append f.time (map Heard lines) in
            let heards = length-map lines Heard in
            let was : old.hearing.lines ≡ length (lines_of s.taken) = s.follows.count ∙ ap length (sym s.heard) in
            let few = lines_fewer s.taken in
            let time : ticks ≡ length f.time = f.count in
            let start : first ≡ length s.taken + length f.time = omega (arith, place, counted, time, small, many, size, wide) in
            let range = range_of old seen wrote noted s text ticks lines f sent m x stops in
            let number : input_number heard first m ≡ length (lines_of s.taken) + max (m - (length s.taken + length f.time)) 1 =
            omega (arith, same, start, was, few, small, many, size, wide, heards, counted, range) in
            late_within old seen wrote noted s text ticks lines f sent (bus_lines ((seen ++ piece) ++ rest)) m x (b.front rest) stops
            (input_number heard first m) number

    pub undelivered_halts : (sent noted : List ℕ) (came : RunFault) → Undelivered old.capture heard first text sent noted came
        → ServingHalts old came piece sent noted
    undelivered_halts sent noted came u = subst (λ (f : RunFault). ServingHalts old f piece sent noted) (sym u.told) (elim u.how [
      | inl h ↦ subst (ServingHalts old (numbered heard first u.came) piece sent) (sym h.whole) (taking u.came sent h.countable h.halts)
      | inr h ↦ subst (λ (t : List ℕ). ServingHalts old (numbered heard first u.came) piece t noted) (sym h.none)
          (unrecorded_halts (numbered heard first u.came) noted (kind u.came h.of) h.front)
    ])
      where
        kind : (c : CaptureFault) → (c ≡ capture.Write) ⊎ ((c ≡ capture.Memory) × (2 ^ 64 ≤ old.capture.lines + length text + 1))
            → (numbered heard first c ≡ fault.Write) ⊎ (numbered heard first c ≡ fault.Memory)
        kind c (inl is) = inl (ap (numbered heard first) is)
        kind c (inr is) = inr (ap (numbered heard first) is.0)

-- ---- a delivery that succeeds

module _ (old new : Serving) (text sent noted : List ℕ) (ticks : ℕ) (seen wrote before : List ℕ) (s : ServingStands old seen wrote before)
    (lines : List (List ℕ)) (f : Fresh (known_ids old.capture.bus.setup) ticks text lines)
    (d : Delivered old.capture new.capture text sent noted) where
  pub on_from : Stands any_lines replies_wanted new.capture (before ++ text) (wrote ++ sent)
  on_from = d.on.stands before wrote s.capture

  pub noted_here : before ++ noted ≡ before ++ text
  noted_here = ap (λ (t : List ℕ). before ++ t) d.whole

  pub delivered_text : wrote ++ sent ≡ text_of old.capture.bus.setup (capture_of (all old seen wrote before s text ticks lines f))
  delivered_text =
      sym (append-nil (wrote ++ sent))
      ∙ (ap (λ (t : List ℕ). (wrote ++ sent) ++ t) (sym d.none)
      ∙ (on_from.due
      ∙ (ap (λ (u : RawSetup). text_of u (ended_lines (before ++ text))) d.on.setup
      ∙ ap (text_of old.capture.bus.setup) (all_ended old seen wrote before s text ticks lines f))))

  pub delivered_well : first_fault old.capture.bus.setup (capture_of (all old seen wrote before s text ticks lines f)) ≡ None
  delivered_well = ap (first_fault old.capture.bus.setup) (sym (all_ended old seen wrote before s text ticks lines f)) ∙ subst (λ (u : RawSetup). first_fault u (ended_lines (before ++ text)) ≡ None) d.on.setup on_from.took_lines.well

  pub delivered_noted : before ++ noted ≡ record_text (capture_of (all old seen wrote before s text ticks lines f))
  delivered_noted = noted_here ∙ all_noted old seen wrote before s text ticks lines f

  -- and the lines that are heard go on
  abbrev pub delivered_stands : (piece : List ℕ) → ended_lines (seen ++ piece) ≡ ended_lines seen ++ lines → HasHeard new.hearing (seen ++ piece)
      → ServingStands new (seen ++ piece) (wrote ++ sent) (before ++ noted)
  delivered_stands piece ended follows = record {
    taken = all old seen wrote before s text ticks lines f;
    heard = all_lines old seen wrote before s text ticks lines f ∙ sym ended;
    good = subst (λ (u : RawSetup). AreGood (known_ids u) (all old seen wrote before s text ticks lines f)) (sym d.on.setup)
        (all_good old seen wrote before s text ticks lines f);
    follows = follows;
    recorded = delivered_noted;
    lines = ap ended_lines noted_here ∙ all_ended old seen wrote before s text ticks lines f;
    closed = ap begun_line noted_here ∙ all_closed old seen wrote before s text ticks lines f;
    capture = subst (λ (t : List ℕ). Stands any_lines replies_wanted new.capture t (wrote ++ sent)) (sym noted_here) on_from;
    sent = d.none;
  }

  -- behind the ticks of the time that was passed
  pub delivered_on : (now : ℕ) (piece : List ℕ) → f.time ≡ passed (now - old.told) → (ended : ended_lines (seen ++ piece) ≡ ended_lines seen ++ lines)
      → HasHeard new.hearing (seen ++ piece)
      → (n : ServingStands new (seen ++ piece) (wrote ++ sent) (before ++ noted))
      × (n.taken ≡ s.taken ++ taken_at old.told now seen piece)
  delivered_on now piece timed ended follows =
      let are : lines_behind seen piece ≡ lines = ap (drop (length (ended_lines seen))) ended ∙ drop-append_seam (ended_lines seen) lines in (
        delivered_stands piece ended follows,
        ap (λ (t : List Taken). s.taken ++ (t ++ map Heard lines)) timed
            ∙ ap (λ (l : List (List ℕ)). s.taken ++ (passed (now - old.told) ++ map Heard l)) (sym are),
      )

  -- or a line at fault comes behind them
  pub delivered_bad : (n : ℕ) (bad : LineFault) (given others : List (List ℕ)) (line : List ℕ) → given ≡ (ended_lines seen ++ lines) ++ line ∷ others
      → n ≡ length (ended_lines seen ++ lines) + 1
      → line_said old.capture.bus.setup line ≡ Err bad → IsBadLine old.capture.bus.setup n bad given (wrote ++ sent) (before ++ noted)
  delivered_bad n bad given others line are number says =
      let heard = all_lines old seen wrote before s text ticks lines f in
      record {
        taken = all old seen wrote before s text ticks lines f;
        bad = line;
        others = others;
        heard = are ∙ ap (λ (l : List (List ℕ)). l ++ line ∷ others) (sym heard);
        number = number ∙ ap (λ (l : List (List ℕ)). length l + 1) (sym heard);
        good = all_good old seen wrote before s text ticks lines f;
        says = says;
        well = delivered_well;
        text = delivered_text;
        recorded = delivered_noted;
      }

-- ---- a call

module _ (known : List KnownId) (h : Hearing) (span ticks : ℕ) (text text' piece : List ℕ) (was : text ≡ record_text (capture_of (passed span)))
    (count : ticks ≡ length (passed span)) where
  pub brings_ended : (new : Hearing) → Grew text text' (HeardLines known h new piece) → (seen : List ℕ) → HasHeard h seen → Brings known text' ticks seen piece
  brings_ended new grew seen f =
      let e = grew.holds seen f in
      record {
        lines = e.lines;
        fresh = fresh_lines known span ticks text text' grew.more e.lines was count grew.grown e.good e.text;
        front = λ rest. (
          bus_lines (begun_line (seen ++ piece) ++ rest),
          bus_lines-more (seen ++ piece) rest ∙ ap (λ (l : List (List ℕ)). l ++ bus_lines (begun_line (seen ++ piece) ++ rest)) e.ended,
        );
      }

  pub brings_before : (n : ℕ) (bad : LineFault) → Grew text text' (λ more. (seen : List ℕ) → HasHeard h seen → EndsBefore known n bad seen piece more)
      → (seen : List ℕ) → HasHeard h seen
      → Brings known text' ticks seen piece
  brings_before n bad grew seen f =
      let e = grew.holds seen f in
      record {
        lines = e.lines;
        fresh = fresh_lines known span ticks text text' grew.more e.lines was count grew.grown e.good e.text;
        front = λ rest. ((e.next rest).bad ∷ (e.next rest).others, (e.next rest).are);
      }

  module _ (old : Serving) (is_known : known ≡ known_ids old.capture.bus.setup) (k : type_of old.capture) (hearing : h ≡ old.hearing) (capture_same : k ≡ old.capture) where
    by_setup : (seen : List ℕ) → Brings known text' ticks seen piece → Brings (known_ids old.capture.bus.setup) text' ticks seen piece
    by_setup seen b = subst (λ k. Brings k text' ticks seen piece) is_known b

    fresh_by_setup : (lines : List (List ℕ)) → Fresh known ticks text' lines → Fresh (known_ids old.capture.bus.setup) ticks text' lines
    fresh_by_setup lines f = subst (λ k. Fresh k ticks text' lines) is_known f

    follows_h : (seen : List ℕ) → HasHeard old.hearing seen → HasHeard h seen
    follows_h seen f = subst (λ (x : Hearing). HasHeard x seen) (sym hearing) f

    pub serve_goes_on : (now : ℕ) → span ≡ now - old.told → (new : Serving) → new.told ≡ max old.told now → (next : Hearing)
        → Grew text text' (HeardLines known h next piece) → new.hearing ≡ next → (sent noted : List ℕ)
        → Delivered k new.capture text' sent noted
        → ServingGoesOn old new now piece sent noted
    serve_goes_on now spanned new told next grew same sent noted d =
        let here : Delivered old.capture new.capture text' sent noted = subst (λ (x : type_of old.capture). Delivered x new.capture text' sent noted) capture_same d in
        record {
          setup = here.on.setup;
          told = told;
          stands = λ seen wrote before s.
              let e = grew.holds seen (follows_h seen s.follows) in
              let good = subst (λ k. AreGood k (map Heard e.lines)) is_known e.good in
              delivered_on old new text' sent noted ticks seen wrote before s e.lines
              (fresh_lines (known_ids old.capture.bus.setup) span ticks text text' grew.more e.lines was count grew.grown good e.text) here now piece
              (ap passed spanned) e.ended
              (subst (λ (x : Hearing). HasHeard x (seen ++ piece)) (sym same) e.follows);
        }

    pub serve_halts : (new : Hearing) → Grew text text' (HeardLines known h new piece) → (heard first : ℕ) → heard ≡ old.hearing.lines
        → first ≡ min (k.lines + ticks) (2 ^ 64 - 1)
        → (sent noted : List ℕ) (came : RunFault) → Undelivered k heard first text' sent noted came → ServingHalts old came piece sent noted
    serve_halts new grew heard first same place sent noted came u =
        undelivered_halts old piece text' ticks (λ seen f. by_setup seen (brings_ended new grew seen (follows_h seen f))) heard first same
        (place ∙ ap (λ (x : type_of old.capture). min (x.lines + ticks) (2 ^ 64 - 1)) capture_same) sent noted came
        (subst (λ (x : type_of old.capture). Undelivered x heard first text' sent noted came) capture_same u)

    pub bad_serve_halts : (n : ℕ) (bad : LineFault) → Grew text text' (λ more. (seen : List ℕ) → HasHeard h seen → EndsBefore known n bad seen piece more)
        → (heard first : ℕ) → heard ≡ old.hearing.lines → first ≡ min (k.lines + ticks) (2 ^ 64 - 1)
        → (sent noted : List ℕ) (came : RunFault) → Undelivered k heard first text' sent noted came → ServingHalts old came piece sent noted
    bad_serve_halts n bad grew heard first same place sent noted came u =
        undelivered_halts old piece text' ticks (λ seen f. by_setup seen (brings_before n bad grew seen (follows_h seen f))) heard first same
        (place ∙ ap (λ (x : type_of old.capture). min (x.lines + ticks) (2 ^ 64 - 1)) capture_same) sent noted came
        (subst (λ (x : type_of old.capture). Undelivered x heard first text' sent noted came) capture_same u)

    pub bad_line_halts : (new : Serving) (n : ℕ) (bad : LineFault)
        → Grew text text' (λ more. (seen : List ℕ) → HasHeard h seen → EndsBefore known n bad seen piece more)
        → (sent noted : List ℕ) → Delivered k new.capture text' sent noted → ServingHalts old (fault.Capture n (bus.Line bad)) piece sent noted
    bad_line_halts new n bad grew sent noted d = λ seen wrote before s rest.
        let here : Delivered old.capture new.capture text' sent noted = subst (λ (x : type_of old.capture). Delivered x new.capture text' sent noted) capture_same d in
        let e = grew.holds seen (follows_h seen s.follows) in
        let next = e.next rest in
        delivered_bad old new text' sent noted ticks seen wrote before s e.lines
        (fresh_by_setup e.lines (fresh_lines known span ticks text text' grew.more e.lines was count grew.grown e.good e.text)) here n bad
        (bus_lines ((seen ++ piece) ++ rest)) next.others next.bad next.are next.number (ap (λ k. bus_line k next.bad) (sym is_known) ∙ next.says)

-- memory was refused before anything was recorded
pub refused_halts : (old : Serving) (piece : List ℕ) → ServingHalts old fault.Memory piece [] []
refused_halts old piece = unrecorded_halts old piece [] 0 (λ seen f. brings_nothing (known_ids old.capture.bus.setup) seen piece) fault.Memory [] (inr refl) ([], refl)

-- ---- the end of the input

pub feed_of_some : (kept : List ℕ) → 0 < length kept → last_feed kept ≡ 10 ∷ []
feed_of_some [] some = absurd (omega (arith, some))
feed_of_some (c ∷ kept) some = refl

pub feed_of_none : (kept : List ℕ) → (0 < length kept → ⊥) → last_feed kept ≡ []
feed_of_none [] none = refl
feed_of_none (c ∷ kept) none = absurd (none (omega arith))
