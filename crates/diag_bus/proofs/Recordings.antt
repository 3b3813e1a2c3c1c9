-- A recording with a line more, of all testers.
use Rattle.std.proofs.Common.{◌≡◌, ◌≢◌, ◌<◌, ◌≤◌, Bool, true, false, ℕ, zero, suc, ◌+◌, ◌-◌, Option, Some, None, List, [], ◌∷◌, ◌++◌, length, map, take, inl, inr, refl, ap, subst, sym, ◌∙◌, append_assoc, arith}
use Rattle.std.proofs.lemmas.Bool.{eq-eqb, ne_eqb}
use Rattle.std.proofs.lemmas.List.{append-nil, map-append, length-append, length-set}
use Rattle.std.proofs.lemmas.List.Elements.{filter-append}
use Rattle.std.proofs.lemmas.Option.{none-some, same_Some, slice_get_within}
use Rattle.std.specs.List.{filter}
use Rattle.std.specs.Prelude.{◌&&◌, if◌then◌else◌, IfSome, not, option_map, slice_get, slice_set}
use Rattle.std.specs.Option.{option_to_list}
use Rattle.diag_can.specs.declared.bus_line.BusLine.{BusLine}
use Rattle.diag_can.specs.declared.frame.Frame.{Frame}
use Rattle.diag_tp.specs.declared.sent.Sent.{Sent}
use Rattle.diag_tp.specs.Wire.{wire, sendings, grant}
use Rattle.diag_setup.specs.Setup.{ids_of}
use Rattle.diag_setup.specs.declared.raw.RawSetup.{RawSetup}
use Rattle.diag_world.proofs.Worlds.{set_cases}
use Rattle.diag_bus.specs.Comparing.{Compares, ComparesLines, Each, EachExpects, EachRecords, Expects, Records, TakesLine, frame_has, shown}
use Rattle.diag_bus.specs.Events.{events_of, frame_said}
use Rattle.diag_bus.specs.Filled.{AreFilled}
use Rattle.diag_bus.specs.RequestIds.{IsWithin}
use Rattle.diag_bus.specs.ResponseIds.{IsResponder}
use Rattle.diag_bus.specs.Text.{sent_of}
use Rattle.diag_bus.specs.Verdict.{at_line, expected, expected_of, is_pending, line_has, recorded, recorded_from, reply_said, sent_bytes}
use Rattle.diag_bus.specs.declared.comparing.Comparison.{Comparison}
use Rattle.diag_bus.specs.declared.comparing.Comparisons.{Comparisons}
use Rattle.diag_bus.specs.declared.filled.Filled.TheVariants.{At, Nowhere}
use Rattle.diag_bus.specs.declared.verdict.Recorded.{Recorded}
use Rattle.diag_bus.proofs.Nodes.{found_at}
use Rattle.diag_bus.proofs.Texts.{taken_more}
use Rattle.diag_world.proofs.Waiting.{get_set_other}

-- ---- the recording of one tester

pub recorded_push : (setup : RawSetup) (t n : ℕ) (lines : List (List ℕ)) (line : List ℕ)
    → recorded_from setup t n (lines ++ line ∷ []) ≡ recorded_from setup t n lines ++ line_has setup t (n + length lines) line
recorded_push setup t n [] line =
    let none : n ≡ n + 0 = omega arith in
    append-nil (line_has setup t n line) ∙ ap (λ k. line_has setup t k line) none
recorded_push setup t n (first ∷ lines) line =
    let next : n + 1 + length lines ≡ n + length (first ∷ lines) = omega arith in
    ap (λ w. line_has setup t n first ++ w) (recorded_push setup t (n + 1) lines line
    ∙ ap (λ k. recorded_from setup t (n + 1) lines ++ line_has setup t k line) next)
    ∙ sym (append_assoc (line_has setup t n first) (recorded_from setup t (n + 1) lines) (line_has setup t (n + length (first ∷ lines)) line))

-- ---- what is expected

pub expected_more : (frames more : List Sent) → expected_of (frames ++ more) ≡ expected_of frames ++ expected_of more
expected_more frames more =
    let shown : List ℕ → Bool = λ bytes. not (is_pending bytes) in
    ap (filter shown) (map-append sent_bytes frames more) ∙ filter-append shown (map sent_bytes frames) (map sent_bytes more)

-- ---- of all testers

-- what is kept of none of them changed
pub each_same : (P : ℕ → Comparison → Comparison → Type 0) (old : List Comparison)
    → ((i : ℕ) (own : Comparison) → slice_get old i ≡ Some own → P i own own) → Each P old old
each_same P old h = record {
  many = refl;
  each = λ i before after was is. subst (λ (c : Comparison). P i before c) (same_Some _ _ (sym was ∙ is)) (h i before was);
}

-- that of one of them did
pub each_at : (P : ℕ → Comparison → Comparison → Type 0) (old : List Comparison) (index : ℕ) (own new : Comparison)
    → slice_get old index ≡ Some own → P index own new → ((i : ℕ) (c : Comparison) → i ≢ index → slice_get old i ≡ Some c → P i c c)
    → Each P old (slice_set old index new)
each_at P old index own new here took others = record {
  many = length-set old index new;
  each = λ i before after was is. elim (set_cases old index i new after is) [
    | inl p ↦ (
        let mine : own ≡ before = same_Some _ _ (sym here ∙ (ap (slice_get old) (sym p.0) ∙ was)) in
        subst (λ j. P j before after) (sym p.0) (subst (λ (c : Comparison). P index before c) (sym p.1) (subst (λ (c : Comparison). P index c new) mine took)))
    | inr p ↦ subst (λ (c : Comparison). P i before c) (same_Some _ _ (sym was ∙ p.1)) (others i before p.0 was)
  ];
}

-- those before an index did, and the others are as they were
pub record UpTo (P : ℕ → Comparison → Comparison → Type 0) (old new : List Comparison) (index : ℕ) : Type 0 where
  pub many : length new ≡ length old
  pub left : (i : ℕ) → index ≤ i → slice_get new i ≡ slice_get old i
  pub done : (i : ℕ) (before after : Comparison) → i < index → slice_get old i ≡ Some before → slice_get new i ≡ Some after → P i before after

pub none_yet : (P : ℕ → Comparison → Comparison → Type 0) (old : List Comparison) → UpTo P old old 0
none_yet P old = record { many = refl; left = λ i above. refl; done = λ i before after less was is. absurd (omega (arith, less)) }

pub one_more : (P : ℕ → Comparison → Comparison → Type 0) (old now : List Comparison) (i : ℕ) → UpTo P old now i → (own new : Comparison)
    → slice_get now i ≡ Some own → P i own new → UpTo P old (slice_set now i new) (i + 1)
one_more P old now i h own new here took = record {
  many = length-set now i new ∙ h.many;
  left = λ k above. get_set_other now i k new (λ e. absurd (omega (arith, above, e))) ∙ h.left k (omega (arith, above));
  done = λ k before after less was is. elim (set_cases now i k new after is) [
    | inl p ↦ (
        let mine : own ≡ before = same_Some _ _ (sym here ∙ (h.left i (omega arith) ∙ (ap (slice_get old) (sym p.0) ∙ was))) in
        subst (λ j. P j before after) (sym p.0) (subst (λ (c : Comparison). P i before c) (sym p.1) (subst (λ (c : Comparison). P i c new) mine took)))
    | inr p ↦ (let below : k < i = omega (arith, less, p.0) in h.done k before after below was p.1)
  ];
}

pub all_done : (P : ℕ → Comparison → Comparison → Type 0) (old new : List Comparison) → UpTo P old new (length old) → Each P old new
all_done P old new h = record {
  many = h.many;
  each = λ i before after was is. h.done i before after (slice_get_within old i before was) was is;
}

-- ---- frames of the server

pub expects_none : (own : Comparison) (frames : List (List ℕ)) → frames ≡ [] → Expects own own frames
expects_none own frames none recorded expected h =
    subst (λ (fs : List (List ℕ)). Compares own recorded (expected ++ fs)) (sym none)
    (subst (λ (e : List (List ℕ)). Compares own recorded e) (sym (append-nil expected)) h)

-- an empty list has none
pub expects_empty : (own : Comparison) (frames : List Sent) → frames ≡ [] → Expects own own (expected_of frames)
expects_empty own frames none = expects_none own (expected_of frames) (ap expected_of none)

-- one frame more was taken, or left out as it says response pending
module _ (old mid : Comparison) (frames : List Sent) (i : ℕ) (sent : Sent) (at : slice_get frames i ≡ Some sent)
    (before : Expects old mid (expected_of (take i frames))) where
  pub expects_next : (new : Comparison) (more : List (List ℕ)) → expected_of (sent ∷ []) ≡ more → Expects mid new more
      → Expects old new (expected_of (take (i + 1) frames))
  expects_next new more is took recorded expected h =
      let next : expected_of (take (i + 1) frames) ≡ expected_of (take i frames) ++ more =
      ap expected_of (taken_more frames i sent at) ∙ (expected_more (take i frames) (sent ∷ []) ∙ ap (λ w. expected_of (take i frames) ++ w) is) in
      subst (λ (fs : List (List ℕ)). Compares new recorded (expected ++ fs)) (sym next)
      (subst (λ (e : List (List ℕ)). Compares new recorded e) (append_assoc expected (expected_of (take i frames)) more)
      (took recorded (expected ++ expected_of (take i frames)) (before recorded expected h)))

  pub expects_taken : (new : Comparison) → is_pending sent.frame.bytes ≡ false → Expects mid new (sent.frame.bytes ∷ [])
      → Expects old new (expected_of (take (i + 1) frames))
  expects_taken new shown took =
      expects_next new (sent.frame.bytes ∷ []) (ap (λ (b : Bool). if not b then sent.frame.bytes ∷ [] else []) shown) took

  pub expects_left : is_pending sent.frame.bytes ≡ true → Expects old mid (expected_of (take (i + 1) frames))
  expects_left says =
      expects_next mid [] (ap (λ (b : Bool). if not b then sent.frame.bytes ∷ [] else []) says) (expects_none mid [] refl)

-- no list has any
pub expects_nowhere : (drawn : List (List Sent)) (old : List Comparison) → AreFilled Nowhere drawn → EachExpects drawn old old
expects_nowhere drawn old empty = each_same _ old (λ i own at frames drew. expects_empty own frames (empty i frames drew))

-- no list has any but this
pub expects_at : (drawn : List (List Sent)) (old : List Comparison) (index : ℕ) (own new : Comparison) (frames : List Sent) → AreFilled (At index) drawn
    → slice_get old index ≡ Some own → slice_get drawn index ≡ Some frames → Expects own new (expected_of frames)
    → EachExpects drawn old (slice_set old index new)
expects_at drawn old index own new frames filled here drew took =
    each_at _ old index own new here
    (λ others found. subst (λ (fs : List Sent). Expects own new (expected_of fs)) (same_Some _ _ (sym drew ∙ found)) took)
    (λ i c apart at others found. expects_empty c others (filled.1 i others apart found))

-- ---- a frame of the recording

pub records_none : (own : Comparison) (frames : List Recorded) → frames ≡ [] → Records own own frames
records_none own frames none recorded expected h =
    subst (λ (fs : List Recorded). Compares own (recorded ++ fs) expected) (sym none)
    (subst (λ (r : List Recorded). Compares own r expected) (sym (append-nil recorded)) h)

module _ (setup : RawSetup) (t n : ℕ) (frame : Frame) where
  abbrev response : ℕ
  response = (ids_of setup t).response

  -- it has another identifier
  pub other_none : response ≢ frame.id → frame_has setup t n (Some frame) ≡ []
  other_none apart = rw (ne_eqb frame.id response (λ same. apart (sym same))) refl

  -- it is the unit's own to the tester
  pub own_frame : response ≡ frame.id → frame_has setup t n (Some frame) ≡ shown n frame.bytes
  own_frame same = rw (eq-eqb frame.id response (sym same)) (by (is_pending frame.bytes))
    where
      by : (b : Bool) → option_to_list (option_map (at_line n) (if true && not b then Some frame.bytes else None)) ≡ (if b then [] else at_line n frame.bytes ∷ [])
      by true = refl
      by false = refl

module _ (setup : RawSetup) (n : ℕ) (frame : Frame) (responder : Option ℕ) (old : List Comparison)
    (h : IsResponder setup frame.id (length old) responder) where
  one_of : (i : ℕ) (own : Comparison) → slice_get old i ≡ Some own → IsWithin (length old) (i + 1)
  one_of i own at = let within = slice_get_within old i own at in (omega arith, omega (arith, within))

  -- it is the unit's own to none of them
  pub nobody_records : responder ≡ None → EachRecords setup n (Some frame) old old
  nobody_records none = each_same _ old (λ i own at. records_none own _
      (other_none setup (i + 1) n frame (λ same. none-some (i + 1) (sym none ∙ h.alone (i + 1) (one_of i own at) same))))

  pub own_records : (who : ℕ) (own new : Comparison) → responder ≡ Some who
      → slice_get old (who - 1) ≡ Some own → Records own new (shown n frame.bytes)
      → EachRecords setup n (Some frame) old (slice_set old (who - 1) new)
  own_records who own new is here took =
      let has = subst (λ (r : Option ℕ). IfSome r (λ w. IsWithin (length old) w × ((ids_of setup w).response ≡ frame.id))) is h.has in
      let place : who ≡ who - 1 + 1 = omega (arith, has.0.0) in
      each_at _ old (who - 1) own new here
      (subst (λ t. Records own new (frame_has setup t n (Some frame))) place
      (subst (λ (fs : List Recorded). Records own new fs) (sym (own_frame setup who n frame has.1)) took))
      (λ i c apart at. records_none c _ (other_none setup (i + 1) n frame (λ same.
      let one : who ≡ i + 1 = same_Some _ _ (sym is ∙ h.alone (i + 1) (one_of i c at) same) in
      apart (omega (arith, one)))))

-- a line without a frame has none of the unit's
pub no_records : (setup : RawSetup) (n : ℕ) (old : List Comparison) → EachRecords setup n None old old
no_records setup n old = each_same _ old (λ i own at. records_none own [] refl)

-- ---- a line

-- all testers took it
took_all : (setup : RawSetup) (old new : Comparisons) (between : List Comparison) (said : BusLine) (drawn : List (List Sent))
    → new.lines ≡ old.lines + 1 → length drawn ≡ length setup.testers → EachExpects drawn old.testers.items between
    → EachRecords setup (old.lines + 1) (frame_said said) between new.testers.items
    → TakesLine setup old new said drawn
took_all setup old new between said drawn count many expects records lines line is drew h = record {
  count = count ∙ (ap (λ n. n + 1) h.count ∙ sym (length-append lines (line ∷ [])));
  many = records.many ∙ (expects.many ∙ h.many);
  each = λ i own at.
      let within = slice_get_within new.testers.items i own at in
      let before = found_at old.testers.items i (omega (arith, within, records.many, expects.many)) in
      let mid = found_at between i (omega (arith, within, records.many)) in
      let frames = found_at drawn i (omega (arith, within, records.many, expects.many, h.many, many)) in
      let number : old.lines + 1 ≡ 1 + length lines = omega (arith, h.count) in
      let has : frame_has setup (i + 1) (old.lines + 1) (frame_said said) ≡ line_has setup (i + 1) (1 + length lines) line =
      ap (λ n. frame_has setup (i + 1) n (frame_said said)) number
      ∙ ap (λ r. option_to_list (option_map (at_line (1 + length lines)) (reply_said (ids_of setup (i + 1)).response r))) (sym is) in
      let due : expected setup lines (i + 1) ++ expected_of frames.0 ≡ expected setup (lines ++ line ∷ []) (i + 1) =
      sym (expected_more (sent_of setup (events_of setup lines) (i + 1)) frames.0) ∙ ap expected_of (sym (drew i frames.0 frames.1)) in
      let seen : recorded setup lines (i + 1) ++ frame_has setup (i + 1) (old.lines + 1) (frame_said said) ≡ recorded setup (lines ++ line ∷ []) (i + 1) =
      ap (λ w. recorded setup lines (i + 1) ++ w) has ∙ sym (recorded_push setup (i + 1) 1 lines line) in
      let expected_too = expects.each i before.0 mid.0 before.1 mid.1 frames.0 frames.1 (recorded setup lines (i + 1)) (expected setup lines (i + 1))
      (h.each i before.0 before.1) in
      let took = records.each i mid.0 own mid.1 at (recorded setup lines (i + 1)) (expected setup lines (i + 1) ++ expected_of frames.0) expected_too in
      subst (λ (r : List Recorded). Compares own r (expected setup (lines ++ line ∷ []) (i + 1))) seen
      (subst (λ (e : List (List ℕ)). Compares own (recorded setup lines (i + 1) ++ frame_has setup (i + 1) (old.lines + 1) (frame_said said)) e) due took);
}

-- the line has this frame
pub took_line : (setup : RawSetup) (old new : Comparisons) (between : List Comparison) (said : BusLine) (drawn : List (List Sent)) (frame : Option Frame)
    → new.lines ≡ old.lines + 1 → length drawn ≡ length setup.testers → EachExpects drawn old.testers.items between → frame_said said ≡ frame
    → EachRecords setup new.lines frame between new.testers.items
    → TakesLine setup old new said drawn
took_line setup old new between said drawn frame count many expects is records =
    took_all setup old new between said drawn count many expects
    (subst (λ (f : Option Frame). EachRecords setup (old.lines + 1) f between new.testers.items) (sym is)
    (subst (λ n. EachRecords setup n frame between new.testers.items) count records))

-- one more of which this holds
pub holds_more : {X : Type 0} (P : X → Type 0) (xs : List X) (x : X) → ((i : ℕ) (y : X) → slice_get xs i ≡ Some y → P y) → P x
    → (i : ℕ) (y : X) → slice_get (xs ++ x ∷ []) i ≡ Some y → P y
holds_more P [] x h p zero y at = subst P (same_Some _ _ at) p
holds_more P [] x h p (suc i) y at = absurd (none-some y at)
holds_more P (z ∷ xs) x h p zero y at = h zero y at
holds_more P (z ∷ xs) x h p (suc i) y at = holds_more P xs x (λ j w is. h (suc j) w is) p i y at

-- ---- before the first line

sent_none : (setup : RawSetup) (t : ℕ) → sent_of setup [] t ≡ []
unfolding wire sendings grant
sent_none setup t = refl

pub nothing_yet : (setup : RawSetup) (kept : Comparisons) → kept.lines ≡ 0 → length kept.testers.items ≡ length setup.testers
    → ((i : ℕ) (own : Comparison) → slice_get kept.testers.items i ≡ Some own → Compares own [] []) → ComparesLines setup kept []
nothing_yet setup kept count many each = record {
  count = count;
  many = many;
  each = λ i own at. subst (λ (frames : List Sent). Compares own [] (expected_of frames)) (sym (sent_none setup (i + 1))) (each i own at);
}
