-- The flat representation of a journal: a head reads what it was given, and goes on to do so as bytes are appended.
use Rattle.std.proofs.Common.{◌≡◌, ℕ, zero, suc, ◌+◌, ◌<◌, ◌≤◌, List, [], ◌∷◌, ◌++◌, length, take, drop, Some, None, slice_index_or, slice_get, refl, sym, ap, ◌∙◌, arith, length-append, length-drop}
use Rattle.std.specs.Prelude.{map, option_map}
use Rattle.std.proofs.lemmas.List.{take-append-le, drop-append-le, map-append}
use Rattle.std.proofs.lemmas.Option.{slice_get-map, slice_get-get_or}
use Rattle.diag_desk.specs.declared.entry.Entry.{Entry}
use Rattle.diag_desk.specs.declared.flat.Head.{Head}
use Rattle.diag_desk.specs.declared.flat.Head.TheVariants.{Answered, Silent, Ticks}
use Rattle.diag_desk.specs.Flat.{HeadFits, HeadsFit, entry_of, part}
use Rattle.diag_pdu.specs.declared.step.Step.TheVariants as step
use Rattle.diag_pdu.specs.Request.{request_of}

-- the head at an index fits
pub fits_at : (heads : List Head) (n i : ℕ) (d : Head) → HeadsFit heads n → i < length heads → HeadFits (slice_index_or heads i d) n
fits_at [] n i d h below = absurd (omega arith)
fits_at (head ∷ heads) n zero d h below = h.0
fits_at (head ∷ heads) n (suc i) d h below = fits_at heads n i d h.1 (omega arith)

-- the entry at an index is that of its head
pub kept_at : (bytes : List ℕ) (heads : List Head) (i : ℕ) (d : Head) → i < length heads
    → Some (entry_of bytes (slice_index_or heads i d)) ≡ slice_get (map (entry_of bytes) heads) i
kept_at bytes heads i d below =
    sym (slice_get-map (entry_of bytes) heads i ∙ ap (option_map (entry_of bytes)) (slice_get-get_or heads i d below))

-- a part that lies within the bytes stays as bytes are appended
part_kept : (bytes more : List ℕ) (start len : ℕ) → start + len ≤ length bytes → part (bytes ++ more) start len ≡ part bytes start len
part_kept bytes more start len within =
    let inside : len ≤ length (drop start bytes) = omega (arith, length-drop start bytes) in
    ap (take len) (drop-append-le start bytes more (omega arith)) ∙ take-append-le len (drop start bytes) more inside

entry_kept : (bytes more : List ℕ) (head : Head) → HeadFits head (length bytes) → entry_of (bytes ++ more) head ≡ entry_of bytes head
entry_kept bytes more (Answered who functional request_len reply_len start) within =
    let request = part_kept bytes more start request_len (omega (arith, within.1)) in
    let reply = part_kept bytes more (start + request_len) reply_len within.1 in
    λ i. record { who = who; step = step.Request (request_of functional (request i)); reply = Some (reply i) }
entry_kept bytes more (Silent who functional request_len start) within =
    let request = part_kept bytes more start request_len within.1 in
    λ i. record { who = who; step = step.Request (request_of functional (request i)); reply = None }
entry_kept bytes more (Ticks who count) within = refl

entries_kept : (bytes more : List ℕ) (heads : List Head) → HeadsFit heads (length bytes) → map (entry_of (bytes ++ more)) heads ≡ map (entry_of bytes) heads
entries_kept bytes more [] within = refl
entries_kept bytes more (head ∷ heads) within =
    λ i. entry_kept bytes more head within.0 i ∷ entries_kept bytes more heads within.1 i

-- what a push leaves
pub entries_push : (bytes more : List ℕ) (heads : List Head) (head : Head) (entry : Entry) → HeadsFit heads (length bytes)
    → entry_of (bytes ++ more) head ≡ entry
    → map (entry_of (bytes ++ more)) (heads ++ head ∷ []) ≡ map (entry_of bytes) heads ++ entry ∷ []
entries_push bytes more heads head entry within e =
    map-append (entry_of (bytes ++ more)) heads (head ∷ []) ∙ (λ i. entries_kept bytes more heads within i ++ e i ∷ [])

head_fits_more : (head : Head) (n m : ℕ) → HeadFits head n → n ≤ m → HeadFits head m
head_fits_more (Answered who functional request_len reply_len start) n m within more = (within.0, omega (arith, within.1))
head_fits_more (Silent who functional request_len start) n m within more = (within.0, omega (arith, within.1))
head_fits_more (Ticks who count) n m within more = tt

pub fits_push : (heads : List Head) (head : Head) (n m : ℕ) → HeadsFit heads n → n ≤ m → HeadFits head m → HeadsFit (heads ++ head ∷ []) m
fits_push [] head n m within more fits = (fits, tt)
fits_push (h ∷ heads) head n m within more fits = (head_fits_more h n m within.0 more, fits_push heads head n m within.1 more fits)

-- a push in terms of the lists before and after
pub pushed_fits : (heads heads' : List Head) (head : Head) (bytes bytes' more : List ℕ) → heads' ≡ heads ++ head ∷ [] → bytes' ≡ bytes ++ more
    → HeadsFit heads (length bytes) → HeadFits head (length bytes') → HeadsFit heads' (length bytes')
pushed_fits heads heads' head bytes bytes' more hs bs within fits =
    let longer : length bytes ≤ length bytes' = omega (arith, ap length bs, length-append bytes more) in
    rw hs (fits_push heads head (length bytes) (length bytes') within longer fits)

pub pushed_entries : (heads heads' : List Head) (head : Head) (bytes bytes' more : List ℕ) (entry : Entry) → heads' ≡ heads ++ head ∷ []
    → bytes' ≡ bytes ++ more
    → HeadsFit heads (length bytes) → entry_of bytes' head ≡ entry → map (entry_of bytes') heads' ≡ map (entry_of bytes) heads ++ entry ∷ []
pushed_entries heads heads' head bytes bytes' more entry hs bs within e =
    rw (hs, bs) (entries_push bytes more heads head entry within (rw bs at e))
