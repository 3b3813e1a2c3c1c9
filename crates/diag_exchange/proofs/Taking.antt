-- What is kept stands for what happened, with a happening more.
use Rattle.std.proofs.Common.{◌≡◌, ◌≤◌, Bool, true, false, Option, Some, None, List, [], ◌∷◌, ◌++◌, length, map, refl, ap, ap₂, subst, sym, ◌∙◌, append_assoc, arith}
use Rattle.std.proofs.lemmas.List.{append-nil, map-append}
use Rattle.std.proofs.lemmas.List.Elements.{filter-append}
use Rattle.std.specs.List.{filter, list_any}
use Rattle.std.specs.Option.{option_to_list}
use Rattle.std.specs.Prelude.{if◌then◌else◌}
use Rattle.diag_exchange.specs.declared.happening.Happening.{Happening}
use Rattle.diag_exchange.specs.declared.happening.Happening.TheVariants.{Asked, Began, Came, Lost}
use Rattle.diag_exchange.specs.declared.happening.Heard.{Heard}
use Rattle.diag_exchange.specs.Over.{Over, Unasked}
use Rattle.diag_exchange.specs.declared.happening.AskedRequest.{AskedRequest}
use Rattle.diag_exchange.specs.declared.happening.Start.{Start}
use Rattle.diag_exchange.specs.declared.open.Open.{Open}
use Rattle.diag_exchange.specs.Asking.{Course, and_behind, asked, comes_in, coming, coming_after, completes, courses, courses_after, happens}
use Rattle.diag_exchange.specs.Exchanges.{exchange, is_open, newly_over, over_after, over_with, unasked}
use Rattle.diag_exchange.specs.Streaming.{StandsFor, goes_on, is_done, kept, opened, told}
use Rattle.diag_exchange.specs.Streaming as streaming
use Rattle.diag_exchange.proofs.Courses.{IsSound}
use Rattle.diag_exchange.proofs.Hearing.{count, count_asked, count_filter, count_finish, count_hear, count_opened}
use Rattle.diag_exchange.proofs.Lists.{Each}
use Rattle.diag_exchange.proofs.Streams.{asked_gone, asked_left, finish_gone, finish_left, hear_gone, hear_left, hears_same, open_of, sound_more}

-- ---- over lists

coming_more : (before : Option Start) (xs : List Happening) (h : Happening) → coming_after before (xs ++ h ∷ []) ≡ comes_in (coming_after before xs) h
coming_more before [] h = refl
coming_more before (x ∷ xs) h = coming_more (comes_in before x) xs h

pub courses_more : (before : Option Start) (cs : List Course) (xs : List Happening) (h : Happening)
    → courses_after before cs (xs ++ h ∷ []) ≡ happens (coming_after before xs) h (courses_after before cs xs)
courses_more before cs [] h = refl
courses_more before cs (x ∷ xs) h = courses_more (comes_in before x) (happens before x cs) xs h

sound_after : (before : Option Start) (cs : List Course) (xs : List Happening) → Each IsSound cs → Each IsSound (courses_after before cs xs)
sound_after before cs [] s = s
sound_after before cs (x ∷ xs) s = sound_after (comes_in before x) (happens before x cs) xs (sound_more before x cs s)

pub sound : (hs : List Happening) → Each IsSound (courses hs)
sound hs = sound_after None [] hs tt

pub over_after_more : (past xs : List Happening) (h : Happening) → over_after past (xs ++ h ∷ []) ≡ over_after past xs ++ over_with (past ++ xs) h
over_after_more past [] h = append-nil (over_with past h) ∙ ap (λ w. over_with w h) (sym (append-nil past))
over_after_more past (x ∷ xs) h =
    ap (λ w. over_with past x ++ w) (over_after_more (past ++ x ∷ []) xs h ∙ ap (λ w. over_after (past ++ x ∷ []) xs ++ over_with w h)
    (append_assoc past (x ∷ []) xs))
    ∙ sym (append_assoc (over_with past x) (over_after (past ++ x ∷ []) xs) (over_with (past ++ x ∷ xs) h))

-- ---- with a happening more

abbrev pub MayCome : Option Start → Happening → Type 0
MayCome now (Began start) = now ≡ None
MayCome now h = Unit {0}

abbrev pub unasked_of : List Open → Option Heard → List Over
unasked_of es None = []
unasked_of es (Some m) = if list_any streaming.hears_it es then [] else Unasked m ∷ []

-- what is left of these
abbrev pub staying : Option Start → Happening → List Open → List Open
staying now (Asked r) es = filter (goes_on true) (map (streaming.asked_again r) es) ++ opened r ∷ []
staying now (Began start) es = streaming.hear start es
staying now (Came bytes) es = filter (goes_on false) (streaming.finish (completes now (Came bytes)) es)
staying now Lost es = filter (goes_on false) (streaming.finish None es)

-- what is over of these
abbrev pub leaving : Option Start → Happening → List Open → List Over
leaving now (Asked r) es = map told (filter (is_done true) (map (streaming.asked_again r) es))
leaving now (Began start) es = []
leaving now (Came bytes) es = map told (filter (is_done false) (streaming.finish (completes now (Came bytes)) es)) ++ unasked_of es (completes now (Came bytes))
leaving now Lost es = map told (filter (is_done false) (streaming.finish None es))

same_unasked : (cs : List Course) → Each IsSound cs → (o : Option Heard) → unasked_of (open_of cs) o ≡ unasked cs o
same_unasked cs s None = refl
same_unasked cs s (Some m) = ap (λ (b : Bool). if b then [] else Unasked m ∷ []) (sym (hears_same cs s))

stays : (now : Option Start) (h : Happening) (cs : List Course) → Each IsSound cs → open_of (happens now h cs) ≡ staying now h (open_of cs)
stays now (Asked r) cs s =
    ap (map kept) (filter-append is_open (map (and_behind r) cs) (asked r ∷ []))
    ∙ (map-append kept (filter is_open (map (and_behind r) cs)) (asked r ∷ []) ∙ ap (λ w. w ++ opened r ∷ []) (asked_left r cs s))
stays now (Began start) cs s = hear_left start cs s
stays now (Came bytes) cs s = finish_left (completes now (Came bytes)) cs s
stays now Lost cs s = finish_left None cs s

no_unasked : (cs : List Course) (now : Option Start) (h : Happening) → completes now h ≡ None → unasked cs (completes now h) ≡ []
no_unasked cs now h e = ap (unasked cs) e

nothing_asked : (now : Option Start) (r : AskedRequest) → completes now (Asked r) ≡ None
nothing_asked None r = refl
nothing_asked (Some s) r = refl

nothing_began : (now : Option Start) (start : Start) → completes now (Began start) ≡ None
nothing_began None start = refl
nothing_began (Some s) start = refl

nothing_lost : (now : Option Start) → completes now Lost ≡ None
nothing_lost None = refl
nothing_lost (Some s) = refl

leaves : (now : Option Start) (h : Happening) (cs : List Course) → Each IsSound cs
    → map exchange (newly_over cs (happens now h cs)) ++ unasked cs (completes now h) ≡ leaving now h (open_of cs)
leaves now (Asked r) cs s =
    ap₂ (λ (x y : List Over). x ++ y) (asked_gone r cs s) (no_unasked cs now (Asked r) (nothing_asked now r))
    ∙ append-nil (leaving now (Asked r) (open_of cs))
leaves now (Began start) cs s =
    ap₂ (λ (x : List Course) (y : List Over). map exchange x ++ y) (hear_gone start cs) (no_unasked cs now (Began start) (nothing_began now start))
leaves now (Came bytes) cs s =
    ap₂ (λ (x y : List Over). x ++ y) (finish_gone (completes now (Came bytes)) cs s) (sym (same_unasked cs s (completes now (Came bytes))))
leaves now Lost cs s =
    ap₂ (λ (x y : List Over). x ++ y) (finish_gone None cs s) (no_unasked cs now Lost (nothing_lost now)) ∙ append-nil (leaving now Lost (open_of cs))

few_start : (o : Option Start) → length (option_to_list o) ≤ 1
few_start None = omega arith
few_start (Some s) = omega arith

fewest : (es : List Open) (o : Option Heard) → count es ≤ 1 → count (filter (goes_on false) (streaming.finish o es)) ≤ 0
fewest es o few =
    let less = count_finish o es few in
    let less_yet = count_filter (goes_on false) (streaming.finish o es) in
    omega (arith, less, less_yet)

one_more : (now : Option Start) (h : Happening) (es : List Open) → MayCome now h → count es ≤ length (option_to_list now)
    → count (staying now h es) ≤ length (option_to_list (comes_in now h))
one_more now (Asked r) es may one =
    let gone = count_filter (goes_on true) (map (streaming.asked_again r) es) in
    omega (arith, one, gone, count_asked r es, count_opened r (filter (goes_on true) (map (streaming.asked_again r) es)))
one_more now (Began start) es may one =
    let none : count es ≤ 0 = subst (λ (o : Option Start). count es ≤ length (option_to_list o)) may one in
    let more = count_hear start es in
    omega (arith, none, more)
one_more now (Came bytes) es may one = fewest es (completes now (Came bytes)) (let f = few_start now in omega (arith, one, f))
one_more now Lost es may one = fewest es None (let f = few_start now in omega (arith, one, f))

module _ (es : List Open) (now : Option Start) (h : Happening) (may : MayCome now h) (hs : List Happening) (s : StandsFor es now hs) where
  stands : StandsFor (staying now h es) (comes_in now h) (hs ++ h ∷ [])
  stands = record {
    are_open =
        sym (ap open_of (courses_more None [] hs h) ∙ (stays (coming hs) h (courses hs) (sound hs) ∙ ap₂ (λ n w. staying n h w) (sym s.is_coming)
        (sym s.are_open)));
    is_coming = ap (λ n. comes_in n h) s.is_coming ∙ sym (coming_more None hs h);
    one_hears = one_more now h es may s.one_hears;
  }

  left_over : leaving now h es ≡ over_with hs h
  left_over = sym (ap (λ w. map exchange (newly_over (courses hs) w) ++ unasked (courses hs) (completes (coming hs) h)) (courses_more None [] hs h)
      ∙ (leaves (coming hs) h (courses hs) (sound hs) ∙ ap₂ (λ n w. leaving n h w) (sym s.is_coming) (sym s.are_open)))

-- by what the code makes of it
pub took_as : (es : List Open) (now : Option Start) (h : Happening) (live : List Open) (next : Option Start) (out out' : List Over) → MayCome now h
    → (hs : List Happening) → StandsFor es now hs
    → live ≡ staying now h es → next ≡ comes_in now h → out' ≡ out ++ leaving now h es
    → StandsFor live next (hs ++ h ∷ []) × (out' ≡ out ++ over_with hs h)
took_as es now h live next out out' may hs s is_live is_next is_out = (
  subst (λ (l : List Open). StandsFor l next (hs ++ h ∷ [])) (sym is_live)
      (subst (λ (n : Option Start). StandsFor (staying now h es) n (hs ++ h ∷ [])) (sym is_next) (stands es now h may hs s)),
  is_out ∙ ap (λ w. out ++ w) (left_over es now h may hs s),
)

-- nothing happened
pub nothing_yet : StandsFor [] None []
nothing_yet = record { are_open = refl; is_coming = refl; one_hears = omega arith }

-- what is told of those that are left
pub told_kept : (cs : List Course) → map told (map kept cs) ≡ map exchange cs
told_kept [] = refl
told_kept (c ∷ cs) = ap (λ w. exchange c ∷ w) (told_kept cs)
