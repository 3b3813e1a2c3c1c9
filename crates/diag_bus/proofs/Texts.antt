-- What a line writes, from the testers' lists; and the text of one line more.
use Rattle.std.proofs.Common.{◌≡◌, ◌≤◌, ◌<◌, ℕ, zero, suc, ◌+◌, take, Option, Some, None, List, [], ◌∷◌, ◌++◌, get_or, length, map, drop, refl, ap, ap₂, subst, sym, ◌∙◌, append_assoc, arith}
use Rattle.std.proofs.lemmas.List.{append-nil, flat_map_more, length-map, map-append, length-take-le, take_more}
use Rattle.std.proofs.lemmas.Option.{none-some, slice_get_within, get_or_from_slice_get}
use Rattle.std.proofs.Math.Seq.{drop-append_seam}
use Rattle.std.specs.List.{All, flat_map}
use Rattle.std.proofs.lemmas.List.Elements.{All-append, All-map}
use Rattle.std.specs.Prelude.{slice_get}
use Rattle.diag_can.specs.Event.{Event}
use Rattle.diag_tp.specs.SentFrames.{SentList}
use Rattle.diag_tp.specs.declared.sent.Sent.{Sent}
use Rattle.diag_pdu.specs.Cut.{counted_from}
use Rattle.diag_setup.specs.declared.raw.RawSetup.{RawSetup}
use Rattle.diag_setup.specs.Rows.{in_order}
use Rattle.diag_world.specs.Server.{ServerState}
use Rattle.diag_bus.specs.Bus.{LineTaken}
use Rattle.diag_bus.specs.Clock.{resumed}
use Rattle.diag_bus.specs.Drawn.{Drawn}
use Rattle.diag_bus.specs.Events.{events_of}
use Rattle.diag_bus.specs.Node.{AreSentBy}
use Rattle.diag_bus.specs.Text.{drawn_by, drawn_for, gathered, line_of, line_text, own_text, sent_of, start_after, text_after, text_of, time_of}
use Rattle.diag_bus.specs.declared.clock.Clock.{Clock}
use Rattle.diag_bus.specs.declared.clock.Start.{Start}

-- the testers' lists one behind the other are the frames that the events draw
gathered_is : (setup : RawSetup) (L M : List (ℕ × Event)) (a : ℕ) (lists : List (List Sent))
    → ((i : ℕ) (frames : List Sent) → slice_get lists i ≡ Some frames → sent_of setup M (i + a) ≡ sent_of setup L (i + a) ++ frames)
    → flat_map (drawn_by setup L M) (counted_from a (length lists)) ≡ gathered a lists
gathered_is setup L M a [] h = refl
gathered_is setup L M a (frames ∷ lists) h =
    let next : suc a ≡ a + 1 = omega arith in
    let none : 0 + a ≡ a = omega arith in
    let first : sent_of setup M a ≡ sent_of setup L a ++ frames = subst (λ t. sent_of setup M t ≡ sent_of setup L t ++ frames) none (h zero frames refl) in
    let here : drawn_by setup L M a ≡ map (drawn_for a) frames =
    ap (λ xs. map (drawn_for a) (drop (length (sent_of setup L a)) xs)) first ∙ ap (map (drawn_for a)) (drop-append_seam (sent_of setup L a) frames) in
    ap₂ ◌++◌ here (gathered_is setup L M (suc a) lists (λ i fs at.
    let same : suc i + a ≡ i + suc a = omega arith in
    subst (λ t. sent_of setup M t ≡ sent_of setup L t ++ fs) same (h (suc i) fs at)) ∙ ap (λ n. gathered n lists) next)

-- what a line writes is what `write_batch` writes for the lists of the testers, with the clock behind the line
pub line_writes : (setup : RawSetup) (lines : List (List ℕ)) (line : List ℕ) (server : ServerState) (drawn : List (List Sent)) (clock : Clock)
    → LineTaken setup lines line server drawn clock
    → flat_map (line_of setup clock.start) (in_order time_of (gathered 1 drawn)) ≡ line_text setup lines line
line_writes setup lines line server drawn clock h =
    let all = gathered_is setup (events_of setup lines) (events_of setup (lines ++ line ∷ [])) 1 drawn h.frames in
    let counted = ap (λ n. flat_map (drawn_by setup (events_of setup lines) (events_of setup (lines ++ line ∷ []))) (counted_from 1 n)) h.lists in
    let start : start_after setup 0 (lines ++ line ∷ []) ≡ clock.start =
    ap (start_after setup 0) (sym (append-nil (lines ++ line ∷ []))) ∙ (h.stands.start [] ∙ resumed_none clock.start clock.time) in
    ap₂ (λ s ds. flat_map (line_of setup s) (in_order time_of ds)) (sym start) (sym all ∙ counted)
  where
    resumed_none : (start : Option Start) (before : ℕ) → resumed setup start before [] ≡ start
    resumed_none None before = refl
    resumed_none (Some s) before = refl

push_after : (setup : RawSetup) (past lines : List (List ℕ)) (line : List ℕ)
    → text_after setup past (lines ++ line ∷ []) ≡ text_after setup past lines ++ line_text setup (past ++ lines) line
push_after setup past [] line = append-nil (line_text setup past line) ∙ ap (λ p. line_text setup p line) (sym (append-nil past))
push_after setup past (first ∷ lines) line =
    let here = line_text setup past first in
    ap (λ w. here ++ w) (push_after setup (past ++ first ∷ []) lines line
    ∙ ap (λ p. text_after setup (past ++ first ∷ []) lines ++ line_text setup p line) (append_assoc past (first ∷ []) lines))
    ∙ sym (append_assoc here (text_after setup (past ++ first ∷ []) lines) (line_text setup (past ++ first ∷ lines) line))

-- the text of one line more
pub text_push : (setup : RawSetup) (lines : List (List ℕ)) (line : List ℕ)
    → text_of setup (lines ++ line ∷ []) ≡ text_of setup lines ++ line_text setup lines line
text_push setup lines line = push_after setup [] lines line

-- the text of one line more
pub lines_more : {X : Type 0} (f : X → List ℕ) (xs : List X) (i : ℕ) (x : X) (before text more : List ℕ) → i < length xs → x ≡ get_or xs i x
    → text ≡ before ++ flat_map f (take i xs) → more ≡ text ++ f x → more ≡ before ++ flat_map f (take (i + 1) xs)
lines_more {X = X} f xs i x before text more within read is grown =
    grown ∙ (ap (λ w. w ++ f x) is ∙ (flat_map_more f before (take i xs) x
    ∙ ap (λ (ys : List X). before ++ flat_map f ys) (sym (take_more xs i x within ∙ ap (λ y. take i xs ++ y ∷ []) (sym read)))))

-- one more of a list, by what is got
pub taken_more : {X : Type 0} (xs : List X) (i : ℕ) (x : X) → slice_get xs i ≡ Some x → take (i + 1) xs ≡ take i xs ++ x ∷ []
taken_more xs i x at =
    take_more xs i x (slice_get_within xs i x at) ∙ ap (λ y. take i xs ++ y ∷ []) (get_or_from_slice_get xs i x x at)

-- one list more
gathered_more : (n : ℕ) (lists : List (List Sent)) (frames : List Sent)
    → gathered n (lists ++ frames ∷ []) ≡ gathered n lists ++ map (drawn_for (n + length lists)) frames
gathered_more n [] frames = append-nil (map (drawn_for n) frames) ∙ (let none : n ≡ n + 0 = omega arith in ap (λ t. map (drawn_for t) frames) none)
gathered_more n (first ∷ lists) frames =
    let next : n + 1 + length lists ≡ n + length (first ∷ lists) = omega arith in
    ap (λ w. map (drawn_for n) first ++ w) (gathered_more (n + 1) lists frames ∙ ap (λ t. gathered (n + 1) lists ++ map (drawn_for t) frames) next)
    ∙ sym (append_assoc (map (drawn_for n) first) (gathered (n + 1) lists) (map (drawn_for (n + length (first ∷ lists))) frames))

pub gathered_next : (xs : List SentList) (i who : ℕ) (x : SentList) → slice_get xs i ≡ Some x → who ≡ i + 1
    → gathered 1 (map (λ f. f.items) (take (i + 1) xs)) ≡ gathered 1 (map (λ f. f.items) (take i xs)) ++ map (drawn_for who) x.items
gathered_next xs i who x at is =
    let within = slice_get_within xs i x at in
    let lists = map (λ (f : SentList). f.items) (take i xs) in
    let one = taken_more xs i x at in
    let count : 1 + length lists ≡ who = omega
    (arith, length-map (take i xs) (λ (f : SentList). f.items), length-take-le i xs (omega (arith, within)), is) in
    ap (λ l. gathered 1 (map (λ f. f.items) l)) one
    ∙ (ap (gathered 1) (map-append (λ (f : SentList). f.items) (take i xs) (x ∷ []))
    ∙ (gathered_more 1 lists x.items ∙ ap (λ t. gathered 1 lists ++ map (drawn_for t) x.items) count))

all_cons : {X : Type 0} (P : X → Type 0) (x : X) (xs : List X) → P x → All P xs → All P (x ∷ xs)
all_cons P x xs p h zero d less = p
all_cons P x xs p h (suc k) d less = h k d (omega (arith, less))

all_of : (n a : ℕ) (frames : List Sent) → a ≤ n → All (λ (d : Drawn). d.who ≤ n) (map (drawn_for a) frames)
all_of n a [] le = λ k d less. absurd (omega (arith, less))
all_of n a (f ∷ frames) le = all_cons (λ (d : Drawn). d.who ≤ n) (drawn_for a f) (map (drawn_for a) frames) le (all_of n a frames le)

-- the frames are of testers that there are
pub gathered_within : (n a : ℕ) (lists : List (List Sent)) → a + length lists ≤ n + 1 → All (λ (d : Drawn). d.who ≤ n) (gathered a lists)
gathered_within n a [] le = λ k d less. absurd (omega (arith, less))
gathered_within n a (frames ∷ lists) le =
    All-append (λ (d : Drawn). d.who ≤ n) (map (drawn_for a) frames) (gathered (a + 1) lists) (all_of n a frames (omega (arith, le)))
    (gathered_within n (a + 1) lists (omega (arith, le)))

-- and no later than those of the lists
pub gathered_sent : (a time : ℕ) (lists : List (List Sent)) → AreSentBy lists time → All (λ (d : Drawn). d.sent.at ≤ time) (gathered a lists)
gathered_sent a time [] h = λ k d less. absurd (omega (arith, less))
gathered_sent a time (frames ∷ lists) h = All-append (λ (d : Drawn). d.sent.at ≤ time) (map (drawn_for a) frames) (gathered (a + 1) lists)
    (All-map (λ (d : Drawn). d.sent.at ≤ time) (drawn_for a) frames (h 0 frames refl)) (gathered_sent (a + 1) time lists (λ i fs at. h (suc i) fs at))

-- one frame more of a tester's list
pub frames_more : {X Y : Type 0} (f : X → Y) (xs : List X) (i : ℕ) (x : X) (before now next : List Y) → slice_get xs i ≡ Some x
    → now ≡ before ++ map f (take i xs) → next ≡ now ++ f x ∷ [] → next ≡ before ++ map f (take (i + 1) xs)
frames_more {X = X} {Y} f xs i x before now next at is grown =
    grown
    ∙ (ap (λ (w : List Y). w ++ f x ∷ []) is
    ∙ (append_assoc before (map f (take i xs)) (f x ∷ [])
    ∙ ap (λ (w : List Y). before ++ w) (sym (map-append f (take i xs) (x ∷ []))
    ∙ ap (λ (ys : List X). map f ys) (sym (taken_more xs i x at)))))

-- of a list of one frame
pub own_one : (setup : RawSetup) (start : Option Start) (index : ℕ) (frames : List Sent) (sent : Sent) → length frames ≡ 1
    → slice_get frames 0 ≡ Some sent → line_of setup start (drawn_for (index + 1) sent) ≡ own_text setup start index frames
own_one setup start index [] sent one at = absurd (none-some sent at)
own_one setup start index (first ∷ []) sent one at =
    let same : sent ≡ first = cc in
    ap (λ (s : Sent). line_of setup start (drawn_for (index + 1) s)) same ∙ sym (append-nil (line_of setup start (drawn_for (index + 1) first)))
own_one setup start index (first ∷ second ∷ frames) sent one at = absurd (omega (arith, one))
