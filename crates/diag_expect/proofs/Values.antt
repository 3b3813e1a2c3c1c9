-- The bytes of a reply that vary are those of the values that vary.
use Rattle.std.proofs.Common.{◌≡◌, ◌≤◌, ◌<◌, ◌+◌, ◌-◌, ℕ, zero, suc, Bool, true, false, cond, List, [], ◌∷◌, ◌++◌, length, get_or, replicate, take, Option, Some, None, inl, inr, refl, subst, ap, sym, ◌∙◌, append_assoc, length-append, arith}
use Rattle.std.specs.Prelude.{◌||◌, ◌↔◌, flat_map, option_map, slice_index}
use Rattle.std.specs.List.{list_any}
use Rattle.std.proofs.lemmas.Bool.{cases_lt}
use Rattle.std.proofs.lemmas.Grind.{flat_map-append}
use Rattle.std.proofs.lemmas.List.{get_or-append-add, get_or-append_right, get_or-replicate, get_or_append_left, get_or_past, length-replicate, take_all}
use Rattle.std.proofs.lemmas.List.Folds.{list_any-append}
use Rattle.diag_setup.specs.declared.raw.RawDid.{RawDid}
use Rattle.diag_setup.specs.declared.raw.RawSetup.{RawSetup}
use Rattle.diag_store.specs.Dids.{value_of}
use Rattle.diag_ecu.specs.Respond.{data_records, data_reply, did_record, ids, record_of}
use Rattle.diag_ecu.specs.State.{State}
use Rattle.diag_exchange.specs.Agreeing.{marks}
use Rattle.diag_expect.specs.Expecting.{did_of, is_mark, marks_at, record_marks, record_varies, value_mark, varies_at}
use Rattle.diag_expect.specs.Varying.{HasLengths, IsOfValue, ValuesLaw, value_length}

-- a mark for each byte
aligned_by : (id : ℕ) (v : Option (List ℕ)) (d : Option RawDid) → option_map (λ (v : List ℕ). length v) v ≡ option_map value_length d
    → length (record_marks d) ≡ length (did_record id v)
aligned_by id None None e = refl
aligned_by id None (Some did) e = cc
aligned_by id (Some value) None e = cc
aligned_by id (Some value) (Some did) e =
    let long : length value ≡ length did.value = cc in
    omega (arith, long, length-replicate (length did.value) (value_mark did.varies))

aligned : (setup : RawSetup) (s : State) (id : ℕ) → HasLengths setup s → length (marks_at setup id) ≡ length (record_of s id)
aligned setup s id h = aligned_by id (value_of s.dids id) (did_of setup id) (h id)

all_aligned : (setup : RawSetup) (s : State) (read : List ℕ) → HasLengths setup s
    → length (flat_map (marks_at setup) read) ≡ length (flat_map (record_of s) read)
all_aligned setup s [] h = refl
all_aligned setup s (id ∷ read) h =
    omega (
      arith,
      length-append (marks_at setup id) (flat_map (marks_at setup) read),
      length-append (record_of s id) (flat_map (record_of s) read),
      aligned setup s id h,
      all_aligned setup s read h,
    )

-- ---- one identifier

marked : (varies : Bool) → is_mark (value_mark varies) ≡ true → varies ≡ true
marked true e = refl
marked false e = cc

-- a byte that is marked is one of a value that varies
one_varies : (d : Option RawDid) (j : ℕ) → is_mark (slice_index (record_marks d) j) ≡ true
    → (record_varies d ≡ true) × (2 ≤ j) × (j < length (record_marks d))
one_varies None j e = cc (sym (ap is_mark (get_or_past [] j 0 (omega arith))) ∙ e)
one_varies (Some did) zero e = cc
one_varies (Some did) (suc zero) e = cc
one_varies (Some did) (suc (suc j)) e =
    let mark = value_mark did.varies in
    let long = length-replicate (length did.value) mark in
    elim (cases_lt j (length did.value)) [
      | inl lt ↦
          let is : is_mark mark ≡ true = sym (ap is_mark (get_or-replicate (length did.value) j mark 0 lt)) ∙ e in
          (marked did.varies is, omega arith, omega (arith, lt, long))
      | inr le ↦ cc (sym (ap is_mark (get_or_past (replicate (length did.value) mark) j 0 (omega (arith, le, long)))) ∙ e)
    ]

varies_one : (d : Option RawDid) (j : ℕ) → record_varies d ≡ true → 2 ≤ j → j < length (record_marks d) → is_mark (slice_index (record_marks d) j) ≡ true
varies_one None j v from to = cc
varies_one (Some did) zero v from to = absurd (omega (arith, from))
varies_one (Some did) (suc zero) v from to = absurd (omega (arith, from))
varies_one (Some did) (suc (suc j)) v from to =
    let mark = value_mark did.varies in
    let lt : j < length did.value = omega (arith, to, length-replicate (length did.value) mark) in
    ap is_mark (get_or-replicate (length did.value) j mark 0 lt) ∙ ap (λ (b : Bool). is_mark (value_mark b)) v

-- ---- all of them

-- the records up to one more
one_more : (s : State) (before : List ℕ) (id : ℕ) → length (data_records s (before ++ id ∷ [])) ≡ length (data_records s before) + length (record_of s id)
one_more s before id =
    let all = ap length (flat_map-append (record_of s) before (id ∷ [])) in
    omega (arith, all, length-append (flat_map (record_of s) before) (record_of s id ++ []), length-append {A = ℕ} (record_of s id) [])

pub marked_values : (setup : RawSetup) (s : State) (before read : List ℕ) (j : ℕ) → HasLengths setup s
    → is_mark (slice_index (flat_map (marks_at setup) read) j) ≡ true
    → IsOfValue setup s (before ++ read) (length (data_records s before) + j)
marked_values setup s before [] j h e = cc (sym (ap is_mark (get_or_past [] j 0 (omega arith))) ∙ e)
marked_values setup s before (id ∷ read) j h e =
    let own = marks_at setup id in
    let others = flat_map (marks_at setup) read in
    let more = one_more s before id in
    let long = aligned setup s id h in
    elim (cases_lt j (length own)) [
      | inl lt ↦
          let one = one_varies (did_of setup id) j (sym (ap is_mark (get_or_append_left own others 0 j lt)) ∙ e) in
          record {
            before = before;
            id = id;
            behind = read;
            all = refl;
            varies = one.0;
            from = omega (arith, one.1);
            to = omega (arith, lt, more, long);
          }
      | inr le ↦
          let later = sym (ap is_mark (get_or-append_right own others (length own) j 0 refl le)) ∙ e in
          let place : length (data_records s (before ++ id ∷ [])) + (j - length own) ≡ length (data_records s before) + j = omega (arith, le, more, long) in
          let found = marked_values setup s (before ++ id ∷ []) read (j - length own) h later in
          subst
          (λ (i : ℕ). IsOfValue setup s (before ++ id ∷ read) i) place
          (subst (λ (w : List ℕ). IsOfValue setup s w (length (data_records s (before ++ id ∷ [])) + (j - length own))) (append_assoc before (id ∷ []) read) found)
    ]

pub values_marked : (setup : RawSetup) (s : State) (read : List ℕ) (i : ℕ) → HasLengths setup s → IsOfValue setup s read i
    → is_mark (slice_index (0 ∷ flat_map (marks_at setup) read) i) ≡ true
values_marked setup s read i h v =
    let mark = marks_at setup in
    let first = flat_map mark v.before in
    let own = marks_at setup v.id in
    let rest = flat_map mark v.behind in
    let k = i - length (data_records s v.before) in
    let more = one_more s v.before v.id in
    let long = aligned setup s v.id h in
    let longs = all_aligned setup s v.before h in
    let within : k < length own = omega (arith, more, long, v.to, v.from) in
    let place : i ≡ suc (length first + k) = omega (arith, longs, v.from) in
    let all : flat_map mark read ≡ first ++ (own ++ rest) = ap (flat_map mark) v.all ∙ flat_map-append mark v.before (v.id ∷ v.behind) in
    let here : slice_index (0 ∷ flat_map mark read) i ≡ slice_index own k =
    ap (λ (n : ℕ). get_or (0 ∷ flat_map mark read) n 0) place
    ∙ (ap (λ (w : List ℕ). get_or w (length first + k) 0) all
    ∙ (get_or-append-add first (own ++ rest) k 0 ∙ get_or_append_left own rest 0 k within)) in
    ap is_mark here ∙ varies_one (did_of setup v.id) k v.varies (omega (arith, v.from)) within

or_true : (b : Bool) → (b || true) ≡ true
or_true true = refl
or_true false = refl

some_varies : (setup : RawSetup) (s : State) (read : List ℕ) (i : ℕ) → IsOfValue setup s read i → list_any (varies_at setup) read ≡ true
some_varies setup s read i v =
    let test = varies_at setup in
    ap (list_any test) v.all ∙ (list_any-append test v.before (v.id ∷ v.behind)
    ∙ (ap (λ (b : Bool). list_any test v.before || (b || list_any test v.behind)) v.varies ∙ or_true (list_any test v.before)))

from_all : (setup : RawSetup) (s : State) (read : List ℕ) (i : ℕ) → HasLengths setup s
    → is_mark (slice_index (0 ∷ flat_map (marks_at setup) read) i) ≡ true → IsOfValue setup s read i
from_all setup s read zero h e = cc
from_all setup s read (suc j) h e =
    let place : length (data_records s []) + j ≡ suc j = omega arith in
    subst (λ (i : ℕ). IsOfValue setup s read i) place (marked_values setup s [] read j h e)

pub values : ValuesLaw
values setup s p i h =
    let read = ids p in
    let all = 0 ∷ flat_map (marks_at setup) read in
    let whole : take (length (data_reply s p)) all ≡ all = take_all (length (data_reply s p)) all (omega (arith, all_aligned setup s read h)) in
    elim (list_any (varies_at setup) read) as (λ b. list_any (varies_at setup) read ≡ b
    → (is_mark (slice_index (marks (cond b (Some (take (length (data_reply s p)) all)) None)) i) ≡ true) ↔ IsOfValue setup s read i) [
      | true ↦ λ some. (
        λ e. from_all setup s read i h (sym (ap (λ (w : List ℕ). is_mark (slice_index w i)) whole) ∙ e),
        λ v. ap (λ (w : List ℕ). is_mark (slice_index w i)) whole ∙ values_marked setup s read i h v,
      )
      | false ↦ λ none. (
        λ e. cc (sym (ap is_mark (get_or_past [] i 0 (omega arith))) ∙ e),
        λ v. cc (sym none ∙ some_varies setup s read i v),
      )
    ] refl
