-- The frames of a message, received again.
use Rattle.std.proofs.lemmas.Bool.{cases_lt}
use Rattle.std.proofs.Common.{inl, inr, ◌≡◌, ℕ, zero, suc, ◌+◌, ◌-◌, ◌%◌, ◌<◌, ◌≤◌, true, false, List, [], ◌∷◌, ◌++◌, length, take, drop, refl, sym, ◌∙◌, ap, arith, append_assoc, length-append, length-drop, min, append-nil}
use Rattle.std.specs.Prelude.{Option, Some, None, option_and_then, slice_get, map, flat_map, ◌==◌, min, nat_le, nat_lt}
use Rattle.std.proofs.lemmas.List.{take_all, length-take-le, append-nil, take-append-drop, length-take}
use Rattle.std.proofs.Math.Seq.{take-append-add, take-add}
use Rattle.std.proofs.lemmas.Grind.{flat_map-append}
use Rattle.std.proofs.lemmas.Simd.{map-map}
use Rattle.std.proofs.lemmas.Bool.Decides.{nat_tests}
use Rattle.diag_can.specs.Event.{Event, Physical}
use Rattle.diag_pdu.specs.declared.length.DataLength.{DataLength}
use Rattle.diag_pdu.specs.declared.setup.LinkSetup.{LinkSetup}
use Rattle.diag_pdu.specs.Length.{in_bytes, single_most}
use Rattle.diag_pdu.specs.Kind.{First, Consecutive, kind}
use Rattle.diag_pdu.specs.declared.framing.Framing.{Framing}
use Rattle.diag_pdu.specs.Cut.{counted_from, head_size, consecutive_count, gone_with, filled, single_bytes, first_bytes, consecutive_bytes, part_of, cut}
use Rattle.diag_tp.specs.Moments.{after, history, now}
use Rattle.diag_tp.specs.Reception.{Reception, open_at, with_frame, message_of}
use Rattle.diag_pdu.specs.declared.step.Step.TheVariants as step
use Rattle.diag_pdu.specs.Request.{request_of}
use Rattle.diag_tp.specs.Gives.{completed, physical_step, gives, gives_at}
use Rattle.diag_tp.specs.Laws.{CutLaw}
use Rattle.diag_pdu.proofs.Lists.{map-at}
use Rattle.diag_pdu.proofs.Lengths.{bytes-bounds, head-inside, gone-none, gone-more, count-some, count-low, count-last}
use Rattle.diag_pdu.proofs.CutFrames.{rest_of, length-rest, take-rest, rest-full, rest-most, kind-consecutive, kind-single, kind-first, cut-short, cut-long, length-cut-long}

take-counted : {X : Type 0} (f : ℕ → X) (k a n : ℕ) → k ≤ n → take k (map f (counted_from a n)) ≡ map f (counted_from a k)
take-counted f zero a n h = refl
take-counted f (suc k) a zero h = absurd (omega arith)
take-counted f (suc k) a (suc n) h = ap (λ l. f a ∷ l) (take-counted f k (suc a) n (omega arith))

-- the events of a long message: the First, and the first k Consecutives
abbrev pub part_event : Framing → List ℕ → ℕ → Event
part_event f P i = Physical (filled f (consecutive_bytes i (part_of f.tx_dl P i)))

abbrev pub first_event : Framing → List ℕ → Event
first_event f P = Physical (filled f (first_bytes (length P) (take (head_size f.tx_dl (length P)) P)))

abbrev pub begun_events : Framing → List ℕ → ℕ → List Event
begun_events f P k = first_event f P ∷ map (part_event f P) (counted_from 1 k)

-- how many bytes went with the First and k Consecutives, and the part of the next
abbrev at : DataLength → List ℕ → ℕ → ℕ
at d P k = gone_with d (length P) k

abbrev next : DataLength → List ℕ → ℕ → List ℕ
next d P k = take (in_bytes d - 1) (drop (at d P k) P)

next-is : (d : DataLength) (P : List ℕ) (k : ℕ) → part_of d P (suc k) ≡ next d P k
next-is d P k = let before : suc k - 1 ≡ k = omega arith in ap (next d P) before

-- and what is received of them
abbrev rests : Framing → List ℕ → ℕ → List (List ℕ)
rests f P zero = []
rests f P (suc k) = rests f P k ++ rest_of f (next f.tx_dl P k) ∷ []

abbrev received : Framing → List ℕ → ℕ → Reception
received f P k =
    record { len = length P; rx_dl = f.tx_dl; head = take (head_size f.tx_dl (length P)) P; parts = rests f P k; last = 0 }

length-rests : (f : Framing) (P : List ℕ) (k : ℕ) → length (rests f P k) ≡ k
length-rests f P zero = refl
length-rests f P (suc k) = length-append (rests f P k) _ ∙ rw (length-rests f P k) (omega arith)

-- a message that takes a First, and is received
abbrev IsLong : LinkSetup → Framing → List ℕ → Type 0
IsLong s f P = (single_most f.tx_dl < length P) × ((length P ≤ 65535) × (length P ≤ s.max_request))

first-read_as : (s : LinkSetup) (f : Framing) (P : List ℕ) → IsLong s f P →
    kind (filled f (first_bytes (length P) (take (head_size f.tx_dl (length P)) P))) s.max_request
    ≡ First (length P) f.tx_dl (take (head_size f.tx_dl (length P)) P)
first-read_as s f P h =
    let inside = head-inside f.tx_dl (length P) h.0 in
    kind-first f f.tx_dl s.max_request (length P) (take (head_size f.tx_dl (length P)) P) h.0 h.1.0 h.1.1
    (length-take-le (head_size f.tx_dl (length P)) P (omega (arith, inside)))

-- a part has as many bytes as the frames, or at least what is left
least-next : (f : Framing) (P : List ℕ) (k : ℕ) → min (in_bytes f.tx_dl - 1) (length P - at f.tx_dl P k) ≤ length (rest_of f (next f.tx_dl P k))
least-next f P k =
    let left = length-drop (at f.tx_dl P k) P in
    let part = length-take (in_bytes f.tx_dl - 1) (drop (at f.tx_dl P k) P) in
    let rest = length-rest f (next f.tx_dl P k) in
    grind (arith, left, part, rest)

most-next : (f : Framing) (P : List ℕ) (k : ℕ) → length (rest_of f (next f.tx_dl P k)) ≤ in_bytes f.tx_dl - 1
most-next f P k =
    let b = bytes-bounds f.tx_dl in
    let part = length-take (in_bytes f.tx_dl - 1) (drop (at f.tx_dl P k) P) in
    rest-most f f.tx_dl (next f.tx_dl P k) (grind (arith, part, b))

-- a Consecutive more
read_as : (f : Framing) (P : List ℕ) (k max : ℕ)
    → kind (filled f (consecutive_bytes (suc k) (part_of f.tx_dl P (suc k)))) max ≡ Consecutive (suc k % 16) (rest_of f (next f.tx_dl P k))
read_as f P k max =
    kind-consecutive f (suc k) max (part_of f.tx_dl P (suc k)) ∙ ap (λ part. Consecutive (suc k % 16) (rest_of f part)) (next-is f.tx_dl P k)

one-more : (s : LinkSetup) (f : Framing) (P : List ℕ) (k : ℕ) (past : List Event) → now past ≡ 0 → open_at s past ≡ Some (received f P k)
    → k < consecutive_count f.tx_dl (length P) → open_at s (part_event f P (suc k) ∷ past) ≡ Some (received f P (suc k))
unfolding open_at
one-more s f P k past at_once opened few =
    let one : k + 1 ≡ suc k = omega arith in
    let counted = length-rests f P k in
    let more : nat_lt k (consecutive_count f.tx_dl (length P)) ≡ true = grind (arith, nat_tests) in
    let number : (suc k % 16 == suc k % 16) ≡ true = grind (arith, nat_tests) in
    let l = least-next f P k in
    let m = most-next f P k in
    let least : nat_le (min (in_bytes f.tx_dl - 1) (length P - at f.tx_dl P k)) (length (rest_of f (next f.tx_dl P k))) ≡ true = grind (arith, nat_tests, l) in
    let most : nat_le (length (rest_of f (next f.tx_dl P k))) (in_bytes f.tx_dl - 1) ≡ true = grind (arith, nat_tests, m) in
    rw (at_once, opened, read_as f P k s.max_request, counted, one, more, number, least, most) refl

some-more : (s : LinkSetup) (f : Framing) (P : List ℕ) (n k : ℕ) (past : List Event) → now past ≡ 0 → open_at s past ≡ Some (received f P k)
    → k + n ≤ consecutive_count f.tx_dl (length P) → let whole = after past (map (part_event f P) (counted_from (suc k) n)) in
    (now whole ≡ 0) × (open_at s whole ≡ Some (received f P (k + n)))
some-more s f P zero k past at_once opened few = let same : k + 0 ≡ k = omega arith in (at_once, rw same opened)
some-more s f P (suc n) k past at_once opened few =
    let same : k + suc n ≡ suc k + n = omega arith in
    rw same (some-more s f P n (suc k) (part_event f P (suc k) ∷ past) at_once (one-more s f P k past at_once opened (omega arith)) (omega arith))

-- what the k-th frame gives
given : (s : LinkSetup) (f : Framing) (P : List ℕ) (n k : ℕ) → IsLong s f P → n ≡ consecutive_count f.tx_dl (length P) → k ≤ n →
    gives_at s (begun_events f P n) k ≡ completed (Some (received f P k))
unfolding gives open_at
given s f P n zero h e few =
    let least = count-some f.tx_dl (length P) h.0 in
    let some : (0 == consecutive_count f.tx_dl (length P)) ≡ false = grind (arith, nat_tests, least) in
    rw (first-read_as s f P h, some) refl
given s f P n (suc k) h e few =
    let x = part_event f P (suc k) in
    let one : 1 + k ≡ suc k = omega arith in
    let none : 0 + k ≡ k = omega arith in
    let before : take (suc k) (begun_events f P n) ≡ begun_events f P k =
    ap (λ l. first_event f P ∷ l) (take-counted (part_event f P) k 1 n (omega arith)) in
    let here : slice_get (begun_events f P n) (suc k) ≡ Some x =
    map-at (part_event f P) 1 n k (omega arith) ∙ ap (λ (i : ℕ). let o : Option Event = Some (part_event f P i) in o) one in
    let past = some-more s f P k 0 (first_event f P ∷ []) refl (ap (λ t. with_frame 0 t None) (first-read_as s f P h)) (omega arith) in
    ap (λ o. option_and_then (gives s (take (suc k) (begun_events f P n))) o) here
    ∙ (ap (λ l. gives s l x) before
    ∙ (ap (λ t. physical_step s (x ∷ history (begun_events f P k)) t) (read_as f P k s.max_request)
    ∙ ap completed (one-more s f P k (history (begun_events f P k)) past.0 (rw none at past.1) (omega arith))))

-- a part more
joined : (f : Framing) (P : List ℕ) (k : ℕ) (part : List ℕ) → rest_of f (next f.tx_dl P k) ≡ part →
    take (head_size f.tx_dl (length P)) P ++ flat_map (λ part. part) (rests f P (suc k))
    ≡ (take (head_size f.tx_dl (length P)) P ++ flat_map (λ part. part) (rests f P k)) ++ part
joined f P k part e = simp (flat_map-append, append-nil, e, append_assoc)

-- parts that are full
all-full : (f : Framing) (P : List ℕ) (k : ℕ) → at f.tx_dl P k ≤ length P →
    take (head_size f.tx_dl (length P)) P ++ flat_map (λ part. part) (rests f P k) ≡ take (at f.tx_dl P k) P
all-full f P zero h = append-nil _ ∙ ap (λ n. take n P) (sym (gone-none f.tx_dl (length P)))
all-full f P (suc k) h =
    let d = f.tx_dl in
    let b = bytes-bounds d in
    let i = at d P k in
    let one : k + 1 ≡ suc k = omega arith in
    let more : at d P (suc k) ≡ i + (in_bytes d - 1) = ap (at d P) (sym one) ∙ gone-more d (length P) k in
    let size = length-drop i P in
    let full : length (next d P k) ≡ in_bytes d - 1 = length-take-le (in_bytes d - 1) (drop i P) (omega (arith, size, more, h)) in
    joined f P k (next d P k) (rest-full f d (next d P k) (omega (arith, full, b.0)))
    ∙ (ap (λ l. l ++ next d P k) (all-full f P k (omega (arith, more, h))) ∙ (sym (take-add i (in_bytes d - 1) P) ∙ ap (λ n. take n P) (sym more)))

pub whole-message : (f : Framing) (P : List ℕ) → single_most f.tx_dl < length P → message_of (received f P (consecutive_count f.tx_dl (length P))) ≡ P
whole-message f P h =
    let d = f.tx_dl in
    let some = count-some d (length P) h in
    let k = consecutive_count d (length P) - 1 in
    let i = at d P k in
    let count : consecutive_count d (length P) ≡ suc k = omega (arith, some) in
    let inside = count-low d (length P) k h (omega (arith, some)) in
    let end = count-last d (length P) k (omega (arith, some)) in
    let left = length-drop i P in
    let last : next d P k ≡ drop i P = take_all (in_bytes d - 1) (drop i P) (omega (arith, left, end)) in
    let size : length P ≡ length (take i P) + length (drop i P) = let taken = length-take-le i P (omega (arith, inside)) in omega (arith, left, inside, taken) in
    ap (λ n. message_of (received f P n)) count
    ∙ (ap (take (length P)) (joined f P k _ (ap (rest_of f) last) ∙ ap (λ l. l ++ rest_of f (drop i P)) (all-full f P k (omega (arith, inside))))
    ∙ (ap (λ n. take n (take i P ++ rest_of f (drop i P))) size
    ∙ (take-append-add (take i P) (rest_of f (drop i P)) (length (drop i P))
    ∙ (ap (λ l. take i P ++ l) (take-rest f (drop i P)) ∙ take-append-drop i P))))

events-long : (f : Framing) (P : List ℕ) → single_most f.tx_dl < length P
    → map (λ bytes. Physical bytes) (cut f P) ≡ begun_events f P (consecutive_count f.tx_dl (length P))
events-long f P h =
    ap (map (λ bytes. Physical bytes)) (cut-long f P h)
    ∙ ap (λ l. first_event f P ∷ l)
    (map-map (λ bytes. Physical bytes) (λ i. filled f (consecutive_bytes i (part_of f.tx_dl P i))) (counted_from 1 (consecutive_count f.tx_dl (length P))))

gives-short : (s : LinkSetup) (f : Framing) (P : List ℕ) → 1 ≤ length P
    → gives_at s (Physical (filled f (single_bytes P)) ∷ []) 0 ≡ Some (step.Request (request_of false P))
unfolding gives
gives-short s f P h = rw (kind-single f s.max_request P h) refl

pub cut_law :
    (s : LinkSetup) (P : List ℕ) (f : Framing) → 1 ≤ length P → length P ≤ 65535 → length P ≤ s.max_request → CutLaw s P f
cut_law s P f a b c =
    elim (cases_lt (single_most f.tx_dl) (length P)) [
      | inr short ↦
          let one = cut-short f P short in
          record { before = λ e i. absurd (let n = ap length one in omega arith); last = rw one (gives-short s f P a) }
      | inl long ↦
          let n = consecutive_count f.tx_dl (length P) in
          let all = events-long f P long in
          let size = length-cut-long f P long in
          let end : length (cut f P) - 1 ≡ n = omega (arith, size) in
          record {
            before = λ e i.
                let more : (e == n) ≡ false = grind (arith, nat_tests, i, size) in
                rw all (given s f P n e (long, (b, c)) refl (omega (arith, size)) ∙ rw (length-rests f P e, more) refl);
            last =
                let full : (n == n) ≡ true = grind (arith, nat_tests) in
                rw (all, end) (given s f P n n (long, (b, c)) refl (omega arith)
                ∙ rw (length-rests f P n, full, whole-message f P long) refl);
          }
    ]
