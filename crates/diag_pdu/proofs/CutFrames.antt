-- The frames of a message, each read as what it was made of.
use Rattle.std.proofs.lemmas.Bool.{cases_lt, cases_Bool}
use Rattle.std.proofs.Common.{inl, inr, ◌≡◌, ℕ, zero, suc, ◌+◌, ◌-◌, ◌*◌, ◌/◌, ◌%◌, ◌^◌, ◌<◌, ◌≤◌, true, false, List, [], ◌∷◌, ◌++◌, length, take, drop, refl, sym, ◌∙◌, ap, arith, length-append, length-drop, replicate, min, append-nil, drop-drop}
use Rattle.std.specs.Prelude.{Option, Some, None, if◌then◌else◌, slice_get, nat_le, nat_lt, map, min, slice_set, ◌==◌}
use Rattle.std.proofs.lemmas.List.{take_all, length-take, length-take-le, append-nil, length-map, length-replicate, drop-take, set_split, take_at, take_rest}
use Rattle.std.proofs.lemmas.Bool.Decides.{nat_tests}
use Rattle.diag_pdu.specs.declared.length.DataLength.{DataLength}
use Rattle.diag_pdu.specs.declared.length.DataLength.TheVariants.{Dl8}
use Rattle.diag_pdu.specs.declared.framing.Framing.{Framing}
use Rattle.diag_pdu.specs.Length.{in_bytes, next_length, single_most}
use Rattle.diag_pdu.specs.Kind.{Single, First, Consecutive, FlowControl, kind}
use Rattle.diag_pdu.specs.Cut.{counted_from, head_size, consecutive_count, gone_with, padded, filled, single_bytes, long_length, first_bytes, consecutive_bytes, flow_bytes, part_of, cut, frames_of}
use Rattle.diag_pdu.proofs.Lists.{length-zero, map-at}
use Rattle.diag_pdu.proofs.Lengths.{bytes-bounds, length-of, head-inside, next-room, next-full, next-most, single-bounds, head-bounds, few_consecutives}
use Rattle.std.specs.Array.{IsFirstChunk}
use Rattle.std.proofs.lemmas.Option.{slice_get_past}

-- what fills a frame of so many bytes
abbrev pub padding : Option ℕ → ℕ → List ℕ
padding None n = []
padding (Some byte) n = replicate (8 - n) byte

abbrev pub filling : Framing → ℕ → List ℕ
filling f n = if nat_le n 8 then padding f.pad n else replicate (next_length n - n) f.fill

filling-short : (f : Framing) (n : ℕ) → nat_le n 8 ≡ true → filling f n ≡ padding f.pad n
filling-short f n e = ap (λ b. if b then padding f.pad n else replicate (next_length n - n) f.fill) e

filling-long : (f : Framing) (n : ℕ) → nat_le n 8 ≡ false → filling f n ≡ replicate (next_length n - n) f.fill
filling-long f n e = ap (λ b. if b then padding f.pad n else replicate (next_length n - n) f.fill) e

padded-is : (pad : Option ℕ) (bytes : List ℕ) → padded pad bytes ≡ bytes ++ padding pad (length bytes)
padded-is None bytes = sym (append-nil bytes)
padded-is (Some byte) bytes = refl

pub filled-is : (f : Framing) (bytes : List ℕ) → filled f bytes ≡ bytes ++ filling f (length bytes)
filled-is f bytes =
    elim (cases_Bool (nat_le (length bytes) 8)) [
      | inl t ↦ rw t (padded-is f.pad bytes)
      | inr h ↦ rw h refl
    ]

-- a frame of up to 8 bytes is padded
pub filled-short : (f : Framing) (bytes : List ℕ) → length bytes ≤ 8 → filled f bytes ≡ padded f.pad bytes
filled-short f bytes few = let short : nat_le (length bytes) 8 ≡ true = grind (arith, nat_tests) in rw short refl

-- how long a filled frame is
length-padding : (pad : Option ℕ) (n : ℕ) → n ≤ 8 → n + length (padding pad n) ≤ 8
length-padding None n few = omega arith
length-padding (Some byte) n few = omega (arith, length-replicate (8 - n) byte)

pub filled-most : (f : Framing) (d : DataLength) (n : ℕ) → n ≤ in_bytes d → n + length (filling f n) ≤ in_bytes d
filled-most f d n few =
    let b = bytes-bounds d in
    elim (cases_lt 8 n) [
      | inl more ↦
          let long : nat_le n 8 ≡ false = grind (arith, nat_tests) in
          let room = next-room n (omega (arith, b.1)) in
          let most = next-most d n few in
          let size = ap length (filling-long f n long) in
          omega (arith, size, length-replicate (next_length n - n) f.fill, room.0, most)
      | inr less ↦
          let short : nat_le n 8 ≡ true = grind (arith, nat_tests) in
          let most = length-padding f.pad n less in
          let size = ap length (filling-short f n short) in
          omega (arith, size, most, b.0)
    ]

pub filled-eight : (f : Framing) (n : ℕ) → n ≤ 8 → n + length (filling f n) ≤ 8
filled-eight f n few = filled-most f Dl8 n few

none-padded : (pad : Option ℕ) (n : ℕ) → n ≡ 8 → padding pad n ≡ []
none-padded None n full = refl
none-padded (Some byte) n full = let none : 8 - n ≡ 0 = omega arith in rw none refl

-- nothing is added to a full frame
pub none-filled : (f : Framing) (d : DataLength) (n : ℕ) → n ≡ in_bytes d → filling f n ≡ []
none-filled f d n full =
    let b = bytes-bounds d in
    elim (cases_lt 8 n) [
      | inl more ↦
          let long : nat_le n 8 ≡ false = grind (arith, nat_tests) in
          let none : next_length n - n ≡ 0 = omega (arith, ap next_length full, next-full d, full) in
          filling-long f n long ∙ ap (λ (k : ℕ). replicate k f.fill) none
      | inr less ↦
          let short : nat_le n 8 ≡ true = grind (arith, nat_tests) in
          filling-short f n short ∙ none-padded f.pad n (omega (arith, b.0, less, full))
    ]

-- what follows the first byte of a frame, with what fills it
abbrev pub rest_of : Framing → List ℕ → List ℕ
rest_of f part = part ++ filling f (suc (length part))

pub filled-cons : (f : Framing) (c : ℕ) (part : List ℕ) → filled f (c ∷ part) ≡ c ∷ rest_of f part
filled-cons f c part = filled-is f (c ∷ part)

pub length-rest : (f : Framing) (part : List ℕ) → length part ≤ length (rest_of f part)
length-rest f part = omega (arith, length-append part (filling f (suc (length part))))

pub take-rest : (f : Framing) (part : List ℕ) → take (length part) (rest_of f part) ≡ part
take-rest f part = take_at part (filling f (suc (length part))) (length part) refl

-- a full frame isn't filled
pub rest-full : (f : Framing) (d : DataLength) (part : List ℕ) → suc (length part) ≡ in_bytes d → rest_of f part ≡ part
rest-full f d part full = rw (none-filled f d (suc (length part)) full) (append-nil part)

-- no frame is filled beyond its greatest length
pub rest-most : (f : Framing) (d : DataLength) (part : List ℕ) → suc (length part) ≤ in_bytes d → length (rest_of f part) ≤ in_bytes d - 1
rest-most f d part few =
    let most = filled-most f d (suc (length part)) few in
    omega (arith, most, length-append part (filling f (suc (length part))))

-- a Consecutive is read as what it was made of
pub kind-consecutive : (f : Framing) (i max : ℕ) (part : List ℕ) → kind (filled f (consecutive_bytes i part)) max ≡ Consecutive (i % 16) (rest_of f part)
unfolding kind
kind-consecutive f i max part =
    let high : (32 + i % 16) / 16 ≡ 2 = omega arith in
    let low : (32 + i % 16) % 16 ≡ i % 16 = omega arith in
    rw (filled-cons f (32 + i % 16) part, high, low) refl

pub kind-flow : (max flow_status block_size st_min : ℕ) → flow_status < 16 → kind (flow_bytes flow_status block_size st_min) max ≡ FlowControl flow_status block_size st_min
unfolding kind
kind-flow max flow_status block_size st_min h = grind (arith, nat_tests)

-- a message of one frame, of up to 8 bytes or more
kind-single-short : (max : ℕ) (P fill : List ℕ) → 1 ≤ length P → length P ≤ 7 → length (P ++ fill) ≤ 7 → kind (length P ∷ P ++ fill) max ≡ Single P
unfolding kind
kind-single-short max P fill some few fits =
    let high : length P / 16 ≡ 0 = omega arith in
    let low : length P % 16 ≡ length P = omega arith in
    let room = length-append P fill in
    let classic : nat_le (suc (length (P ++ fill))) 8 ≡ true = grind (arith, nat_tests) in
    let one : nat_le 1 (length P) ≡ true = grind (arith, nat_tests) in
    let seven : nat_le (length P) 7 ≡ true = grind (arith, nat_tests) in
    let inside : nat_lt (length P) (suc (length (P ++ fill))) ≡ true = grind (arith, nat_tests, room) in
    let all : take (length P) (P ++ fill) ≡ P = take_at P fill (length P) refl in
    rw (high, low, classic, one, seven, inside, all) refl

kind-single-long : (max : ℕ) (P fill : List ℕ) → 8 ≤ length P → kind (0 ∷ length P ∷ P ++ fill) max ≡ Single P
unfolding kind
kind-single-long max P fill long =
    let room = length-append P fill in
    let wide : nat_le (suc (suc (length (P ++ fill)))) 8 ≡ false = grind (arith, nat_tests, room) in
    let eight : nat_le 8 (length P) ≡ true = grind (arith, nat_tests) in
    let inside : nat_le (length P + 2) (suc (suc (length (P ++ fill)))) ≡ true = grind (arith, nat_tests, room) in
    let all : take (length P) (P ++ fill) ≡ P = take_at P fill (length P) refl in
    rw (wide, eight, inside, all) refl

pub kind-single : (f : Framing) (max : ℕ) (P : List ℕ) → 1 ≤ length P → kind (filled f (single_bytes P)) max ≡ Single P
kind-single f max P some =
    elim (cases_lt 7 (length P)) [
      | inl long ↦
          let more : nat_le (length P) 7 ≡ false = grind (arith, nat_tests) in
          rw (more, filled-is f (0 ∷ length P ∷ P)) (kind-single-long max P (filling f (suc (suc (length P)))) (omega (arith, long)))
      | inr short ↦
          let less : nat_le (length P) 7 ≡ true = grind (arith, nat_tests) in
          let fill = filling f (suc (length P)) in
          let fits : length (P ++ fill) ≤ 7 = omega (arith, length-append P fill, filled-eight f (suc (length P)) (omega (arith, short))) in
          rw (less, filled-cons f (length P) P) (kind-single-short max P fill some short fits)
    ]

-- a First, whose length has 12 bits or four bytes
kind-first-short : (d : DataLength) (max len : ℕ) (head : List ℕ) → single_most d < len → len ≤ 4095 → len ≤ max → length head ≡ in_bytes d - 2
    → kind ((16 + len / 256) ∷ (len % 256) ∷ head) max ≡ First len d head
unfolding kind
kind-first-short d max len head long few fits whole =
    let b = bytes-bounds d in
    let s = single-bounds d in
    let high : (16 + len / 256) / 16 ≡ 1 = omega arith in
    let low : (16 + len / 256) % 16 ≡ len / 256 = omega arith in
    let same : len / 256 * 256 + len % 256 ≡ len = omega arith in
    let count : suc (suc (length head)) ≡ in_bytes d = omega (arith, whole, b.0) in
    let some : (len == 0) ≡ false = grind (arith, nat_tests, long, s) in
    let most : nat_le len (single_most d) ≡ false = grind (arith, nat_tests, long) in
    let under : nat_lt max len ≡ false = grind (arith, nat_tests) in
    rw (high, low, same, count, length-of d, some, most, under) refl

kind-first-long : (d : DataLength) (max len : ℕ) (head : List ℕ) → 4095 < len → len ≤ 65535 → len ≤ max → length head ≡ in_bytes d - 6
    → kind (16 ∷ 0 ∷ long_length len ++ head) max ≡ First len d head
unfolding kind
kind-first-long d max len head more few fits whole =
    let b = bytes-bounds d in
    let same : len / 2 ^ 24 * 2 ^ 24 + len / 2 ^ 16 % 256 * 2 ^ 16 + len / 2 ^ 8 % 256 * 2 ^ 8 + len % 256 ≡ len = omega arith in
    let count : suc (suc (suc (suc (suc (suc (length head)))))) ≡ in_bytes d = omega (arith, whole, b.0) in
    let wide : nat_le len 4095 ≡ false = grind (arith, nat_tests) in
    let under : nat_lt max len ≡ false = grind (arith, nat_tests) in
    rw (count, length-of d, same, wide, under) refl

kind-first-bytes :
    (d : DataLength) (max len : ℕ) (head : List ℕ) → single_most d < len → len ≤ 65535 → len ≤ max → length head ≡ head_size d len →
    kind (first_bytes len head) max ≡ First len d head
kind-first-bytes d max len head long few fits whole =
    elim (cases_Bool (nat_le len 4095)) [
      | inl t ↦
          let less : len ≤ 4095 = grind (arith, nat_tests) in
          let size : length head ≡ in_bytes d - 2 = rw t at whole in
          rw t (kind-first-short d max len head long less fits size)
      | inr h ↦
          let more : 4095 < len = grind (arith, nat_tests) in
          let size : length head ≡ in_bytes d - 6 = rw h at whole in
          rw h (kind-first-long d max len head more few fits size)
    ]

-- a First is full
pub length-first : (d : DataLength) (len : ℕ) (head : List ℕ) → length head ≡ head_size d len → length (first_bytes len head) ≡ in_bytes d
length-first d len head whole = let b = bytes-bounds d in grind (arith, whole, b)

pub first-full : (f : Framing) (d : DataLength) (len : ℕ) (head : List ℕ) → length head ≡ head_size d len → filled f (first_bytes len head) ≡ first_bytes len head
first-full f d len head whole =
    rw (filled-is f (first_bytes len head), none-filled f d (length (first_bytes len head)) (length-first d len head whole)) (append-nil (first_bytes len head))

pub kind-first :
    (f : Framing) (d : DataLength) (max len : ℕ) (head : List ℕ) → single_most d < len → len ≤ 65535 → len ≤ max → length head ≡ head_size d len →
    kind (filled f (first_bytes len head)) max ≡ First len d head
kind-first f d max len head long few fits whole = rw (first-full f d len head whole) (kind-first-bytes d max len head long few fits whole)

pub length-counted : (a n : ℕ) → length (counted_from a n) ≡ n
length-counted a zero = refl
length-counted a (suc n) = ap suc (length-counted (suc a) n)

pub cut-short : (f : Framing) (P : List ℕ) → length P ≤ single_most f.tx_dl → cut f P ≡ filled f (single_bytes P) ∷ []
unfolding cut
cut-short f P h = let short : nat_le (length P) (single_most f.tx_dl) ≡ true = grind (arith, nat_tests) in rw short refl

pub cut-long : (f : Framing) (P : List ℕ) → single_most f.tx_dl < length P → cut f P
    ≡ filled f (first_bytes (length P) (take (head_size f.tx_dl (length P)) P))
    ∷ map (λ i. filled f (consecutive_bytes i (part_of f.tx_dl P i))) (counted_from 1 (consecutive_count f.tx_dl (length P)))
unfolding cut
cut-long f P h = let long : nat_le (length P) (single_most f.tx_dl) ≡ false = grind (arith, nat_tests) in rw long refl

pub length-cut-long : (f : Framing) (P : List ℕ) → single_most f.tx_dl < length P → length (cut f P) ≡ suc (consecutive_count f.tx_dl (length P))
length-cut-long f P h = rw (cut-long f P h, length-map, length-counted) refl

-- what is written is read as what it was made of
pub single_read : (frame P : List ℕ) (max : ℕ) → frame ≡ length P ∷ P → 1 ≤ length P → length P ≤ 7 → kind frame max ≡ Single P
single_read frame P max e h k =
    let none = append-nil P in
    rw e (ap (λ (l : List ℕ). kind (length P ∷ l) max) (sym none) ∙ kind-single-short max P [] h k (rw none k))

pub first_read : (frame head : List ℕ) (len max : ℕ) → frame ≡ first_bytes len head → 8 ≤ len → len ≤ 65535 → len ≤ max → length head ≡ head_size Dl8 len
    → kind frame max ≡ First len Dl8 head
first_read frame head len max e h k m l = rw e (kind-first-bytes Dl8 max len head h k m l)

pub consecutive_read : (frame part : List ℕ) (sequence_number max : ℕ) → frame ≡ consecutive_bytes sequence_number part → sequence_number < 16 → kind frame max ≡ Consecutive sequence_number part
unfolding kind
consecutive_read frame part sequence_number max e h =
    let high : (32 + sequence_number % 16) / 16 ≡ 2 = omega arith in
    let low : (32 + sequence_number % 16) % 16 ≡ sequence_number = omega arith in
    rw (e, high, low) refl

pub flow_read : (frame : List ℕ) (flow_status block_size st_min max : ℕ) → frame ≡ flow_bytes flow_status block_size st_min → flow_status < 16 → kind frame max ≡ FlowControl flow_status block_size st_min
flow_read frame flow_status block_size st_min max e h = rw e (kind-flow max flow_status block_size st_min h)

-- the frames of a message, one by one
pub cut_single_at : (f : Framing) (P : List ℕ) (k : ℕ) → length P ≤ single_most f.tx_dl → k < frames_of f.tx_dl P → slice_get (cut f P) k ≡ Some (filled f (single_bytes P))
cut_single_at f P k h m = grind (arith, nat_tests, cut-short)

pub cut_first_at : (f : Framing) (P : List ℕ) → single_most f.tx_dl < length P
    → slice_get (cut f P) 0 ≡ Some (filled f (first_bytes (length P) (take (head_size f.tx_dl (length P)) P)))
cut_first_at f P h = rw (cut-long f P h) refl

pub cut_part_at : (f : Framing) (P : List ℕ) (k : ℕ) → single_most f.tx_dl < length P → 0 < k → k < frames_of f.tx_dl P
    → slice_get (cut f P) k ≡ Some (filled f (consecutive_bytes k (part_of f.tx_dl P k)))
cut_part_at f P zero long some inside = absurd (omega arith)
cut_part_at f P (suc k) long some inside =
    let more : nat_le (length P) (single_most f.tx_dl) ≡ false = grind (arith, nat_tests) in
    let within : suc k < consecutive_count f.tx_dl (length P) + 1 = rw more at inside in
    let one : 1 + k ≡ suc k = omega arith in
    ap (λ (l : List (List ℕ)). slice_get l (suc k)) (cut-long f P long)
    ∙ map-at (λ i. filled f (consecutive_bytes i (part_of f.tx_dl P i))) 1 (consecutive_count f.tx_dl (length P)) k (omega (arith, within))
    ∙ ap (λ (i : ℕ). let o : Option (List ℕ) = Some (filled f (consecutive_bytes i (part_of f.tx_dl P i))) in o) one

-- those of up to 8 bytes
pub short_lone : (f : Framing) (P : List ℕ) → length P ≤ 7 → cut f P ≡ padded f.pad (single_bytes P) ∷ []
short_lone f P h =
    let s = single-bounds f.tx_dl in
    let less : nat_le (length P) 7 ≡ true = grind (arith, nat_tests) in
    cut-short f P (omega (arith, h, s.0)) ∙ ap (λ (b : List ℕ). b ∷ []) (filled-short f (single_bytes P) (rw less (omega arith)))

pub short_single_at : (f : Framing) (P : List ℕ) (k : ℕ) → length P ≤ 7 → k < frames_of f.tx_dl P → slice_get (cut f P) k ≡ Some (padded f.pad (single_bytes P))
short_single_at f P k h m =
    let s = single-bounds f.tx_dl in
    let one : nat_le (length P) (single_most f.tx_dl) ≡ true = grind (arith, nat_tests, s) in
    let none : k ≡ 0 = let few : k < 1 = rw one at m in omega (arith, few) in
    rw (none, short_lone f P h) refl

pub short_first_at : (f : Framing) (P : List ℕ) → f.tx_dl ≡ Dl8 → 7 < length P
    → slice_get (cut f P) 0 ≡ Some (padded f.pad (first_bytes (length P) (take (head_size Dl8 (length P)) P)))
short_first_at f P e h =
    let long : single_most f.tx_dl < length P = rw e h in
    let head : List ℕ = take (head_size Dl8 (length P)) P in
    let inside = head-inside Dl8 (length P) h in
    let whole : length head ≡ head_size Dl8 (length P) = length-take-le (head_size Dl8 (length P)) P (omega (arith, inside)) in
    let eight = length-first Dl8 (length P) head whole in
    cut_first_at f P long ∙ ap (λ (d : DataLength). let o : Option (List ℕ) = Some (filled f (first_bytes (length P) (take (head_size d (length P)) P))) in o) e
    ∙ ap (λ (b : List ℕ). let o : Option (List ℕ) = Some b in o) (filled-short f (first_bytes (length P) head) (omega (arith, eight)))

pub short_part_at : (f : Framing) (P : List ℕ) (k : ℕ) → f.tx_dl ≡ Dl8 → 7 < length P → 0 < k → k < frames_of f.tx_dl P
    → slice_get (cut f P) k ≡ Some (padded f.pad (consecutive_bytes k (part_of Dl8 P k)))
short_part_at f P k e h l m =
    let long : single_most f.tx_dl < length P = rw e h in
    let few = length-take 7 (drop (gone_with Dl8 (length P) (k - 1)) P) in
    let most : suc (length (part_of Dl8 P k)) ≤ 8 = grind (arith, few) in
    cut_part_at f P k long l m ∙ ap (λ (d : DataLength). let o : Option (List ℕ) = Some (filled f (consecutive_bytes k (part_of d P k))) in o) e
    ∙ ap (λ (b : List ℕ). let o : Option (List ℕ) = Some b in o) (filled-short f (consecutive_bytes k (part_of Dl8 P k)) most)

-- the bytes from one before a part of 7 on, with the first byte of its frame in that one's place
pub eight_at : (P : List ℕ) (pad : Option ℕ) (i from : ℕ) (eight : List ℕ) → from ≡ min (head_size Dl8 (length P) + 7 * (i - 1) - 1) (length P)
    → IsFirstChunk (take (length P - from) (drop from P)) eight 8 → slice_set eight 0 (32 + i % 16) ≡ padded pad (consecutive_bytes i (part_of Dl8 P i))
eight_at P pad i from eight e chunk =
    let rest : take (length P - from) (drop from P) ≡ drop from P = take_rest P from in
    let left = length-drop from P in
    let enough : 8 ≤ length (drop from P) = rw (← rest) chunk.enough in
    let hb = head-bounds Dl8 (length P) in
    let at : from + 1 ≡ head_size Dl8 (length P) + 7 * (i - 1) = omega (arith, enough, left, e, hb) in
    let whole : eight ≡ take 8 (drop from P) = chunk.same ∙ ap (take 8) rest in
    let size : length eight ≡ 8 = ap length whole ∙ length-take-le 8 (drop from P) enough in
    let part : drop 1 eight ≡ part_of Dl8 P i = rw (whole, drop-take 1 7 (drop from P), drop-drop 1 from P, at) refl in
    let seven : length (part_of Dl8 P i) ≡ 7 = rw (← part, length-drop 1 eight, size) refl in
    let bytes = (32 + i % 16) ∷ part_of Dl8 P i in
    let full : padded pad bytes ≡ bytes = padded-is pad bytes ∙ ap (λ (l : List ℕ). bytes ++ l) (none-padded pad (suc (length (part_of Dl8 P i))) (omega (arith, seven))) ∙ append-nil bytes in
    rw (set_split eight 0 (32 + i % 16) (omega (arith, size)), part) (sym full)

-- the bytes from a place on that a slice lends, at most so many
taken : (most m : ℕ) (rest : List ℕ) → m ≡ min (length rest) most → take m rest ≡ take most rest
taken most m rest is =
    elim (cases_lt (length rest) most) [
      | inl less ↦
          let all : m ≡ length rest = omega (arith, less, is) in
          ap (λ n. take n rest) all ∙ take_all (length rest) rest (omega arith) ∙ sym (take_all most rest (omega (arith, less)))
      | inr more ↦ let all : m ≡ most = omega (arith, more, is) in ap (λ n. take n rest) all
    ]

pub part_is : (P : List ℕ) (start most from m : ℕ) → from ≡ min start (length P) → m ≡ min (length P - from) most
    → take m (take (length P - from) (drop from P)) ≡ take most (drop start P)
part_is P start most from m e is =
    let left = length-drop start P in
    elim (cases_lt start (length P)) [
      | inl inside ↦
          let same : from ≡ start = omega (arith, inside, e) in
          let size : m ≡ min (length (drop start P)) most = omega (arith, is, same, left) in
          ap (λ n. take m (take (length P - n) (drop n P))) same ∙ ap (take m) (take_rest P start) ∙ taken most m (drop start P) size
      | inr past ↦
          let none : m ≡ 0 = omega (arith, past, e, is) in
          let size = length-take most (drop start P) in
          ap (λ n. take n (take (length P - from) (drop from P))) none ∙ sym (length-zero (take most (drop start P)) (omega (arith, size, left, past)))
    ]

pub few_frames : (d : DataLength) (P : List ℕ) → length P ≤ 65535 → frames_of d P < 10000
few_frames d P h = let few = few_consecutives d (length P) h in grind (arith, nat_tests, few)

-- how many frames a message has
pub frames-count : (f : Framing) (P : List ℕ) → length (cut f P) ≡ frames_of f.tx_dl P
frames-count f P = grind (arith, nat_tests, cut-short, length-cut-long)

-- no frame past the last
pub frame_past : (f : Framing) (P : List ℕ) (k : ℕ) → frames_of f.tx_dl P ≤ k → slice_get (cut f P) k ≡ None
frame_past f P k h = grind (arith, slice_get_past {X = List ℕ}, frames-count)
