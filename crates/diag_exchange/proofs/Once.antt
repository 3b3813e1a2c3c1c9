-- Each request is told once, with what all that happened is to it.
use Rattle.std.proofs.Common.{◌≡◌, Bool, true, false, Option, Some, None, List, [], ◌∷◌, ◌++◌, map, refl, ap, ap₂, subst, sym, ◌∙◌, append_assoc}
use Rattle.std.proofs.lemmas.List.{append-nil, map-append}
use Rattle.std.proofs.lemmas.List.Elements.{filter-append}
use Rattle.std.proofs.lemmas.List.Sorted.{IsPermutation-append_left, IsPermutation-cons, IsPermutation-filter_both, IsPermutation-map, IsPermutation-middle, IsPermutation-refl, IsPermutation-sym, IsPermutation-trans}
use Rattle.std.specs.List.{filter, list_any}
use Rattle.std.specs.List.Sorted.{IsPermutation}
use Rattle.std.specs.Prelude.{cond, if◌then◌else◌, not, ◌&&◌}
use Rattle.diag_exchange.specs.declared.happening.Happening.{Happening}
use Rattle.diag_exchange.specs.declared.happening.Happening.TheVariants.{Asked, Began, Came, Lost}
use Rattle.diag_exchange.specs.declared.happening.Heard.{Heard}
use Rattle.diag_exchange.specs.Over.{Over, Unasked}
use Rattle.diag_exchange.specs.declared.happening.AskedRequest.{AskedRequest}
use Rattle.diag_exchange.specs.declared.happening.Start.{Start}
use Rattle.diag_exchange.specs.Asking.{Course, and_behind, asked, change_last, coming, completes, courses, finish, happens, hearing, hears_it, hears_no_more, is_candidate, is_loud, is_loud_candidate, with_answer}
use Rattle.diag_exchange.specs.Exchanges.{exchange, is_open, is_over, left_open, newly_over, over, over_after, over_at_end, over_with, unasked}
use Rattle.diag_exchange.specs.Taking.{is_exchange}
use Rattle.diag_exchange.proofs.Courses.{IsSound, candidate_open, hearing_open, over_behind}
use Rattle.diag_exchange.proofs.Lists.{Each, and_true, change_last_here, change_later, change_not_here, filter_all, filter_none}
use Rattle.diag_exchange.proofs.Taking.{courses_more, sound}

-- ---- what is over stays as it is

abbrev Stays : Course → Course → Type 0
Stays c d = is_over c ≡ true → (is_over d ≡ true) × (exchange d ≡ exchange c)

-- each of the first list, and then what isn't over
abbrev Follows : List Course → List Course → Type 0
Follows [] now = Each (λ c. is_over c ≡ false) now
Follows (c ∷ cs) [] = ⊥
Follows (c ∷ cs) (d ∷ now) = Stays c d × Follows cs now

follows_itself : (cs : List Course) → Follows cs cs
follows_itself [] = tt
follows_itself (c ∷ cs) = (λ e. (e, refl), follows_itself cs)

true_false : (b : Bool) → b ≡ true → b ≡ false → ⊥
true_false true e f = cc
true_false false e f = cc

module _ (p : Course → Bool) (f : Course → Course) (opens : (c : Course) → IsSound c → p c ≡ true → is_over c ≡ false) where
  follows_case : (c : Course) (cs : List Course) → IsSound c → Follows cs (change_last p f cs) → (a h : Bool) → list_any p cs ≡ a → p c ≡ h
      → Follows (c ∷ cs) (change_last p f (c ∷ cs))
  follows_case c cs s rest true h some here = rw (change_later p f c cs some) ((λ e. (e, refl)), rest)
  follows_case c cs s rest false true none here =
      rw (change_last_here p f c cs none here) ((λ e. absurd (true_false (is_over c) e (opens c s here))), follows_itself cs)
  follows_case c cs s rest false false none here = rw (change_not_here p f c cs none here) ((λ e. (e, refl)), follows_itself cs)

  follows_change : (cs : List Course) → Each IsSound cs → Follows cs (change_last p f cs)
  follows_change [] s = tt
  follows_change (c ∷ cs) s = follows_case c cs s.0 (follows_change cs s.1) (list_any p cs) (p c) refl refl

follows_asked : (r : AskedRequest) (cs : List Course) → Each IsSound cs → Follows cs (map (and_behind r) cs ++ asked r ∷ [])
follows_asked r [] s = (refl, tt)
follows_asked r (c ∷ cs) s = ((λ e. (over_behind c s.0 r e, refl)), follows_asked r cs s.1)

follows_hear : (start : Start) (cs : List Course) → Each IsSound cs → (b : Bool)
    → Follows cs (if b then change_last (is_loud_candidate start) hearing cs else change_last (is_candidate start) hearing cs)
follows_hear start cs s true =
    follows_change (is_loud_candidate start) hearing (λ c t e. candidate_open c t start (and_true (is_candidate start c) (is_loud c.request) e).0) cs s
follows_hear start cs s false = follows_change (is_candidate start) hearing (λ c t. candidate_open c t start) cs s

follows_finish : (o : Option Heard) (cs : List Course) → Each IsSound cs → Follows cs (finish o cs)
follows_finish None cs s = follows_change hears_it hears_no_more hearing_open cs s
follows_finish (Some m) cs s = follows_change hears_it (with_answer m) hearing_open cs s

follows : (before : Option Start) (h : Happening) (cs : List Course) → Each IsSound cs → Follows cs (happens before h cs)
follows before (Asked r) cs s = follows_asked r cs s
follows before (Began start) cs s = follows_hear start cs s (list_any (is_loud_candidate start) cs)
follows before (Came bytes) cs s = follows_finish (completes before (Came bytes)) cs s
follows before Lost cs s = follows_finish None cs s

-- ---- what is over now was over, or is newly

abbrev finished : List Course → List Over
finished cs = map exchange (filter is_over cs)

abbrev newly : List Course → List Course → List Over
newly cs now = map exchange (newly_over cs now)

abbrev Parts : List Course → List Course → Type 0
Parts cs now = IsPermutation (finished now) (finished cs ++ newly cs now)

-- whether it was over, and whether it is
abbrev by_tests : Course → Course → List Course → List Course → Bool → Bool → Type 0
by_tests c d cs now a b = IsPermutation (map exchange (cond b (d ∷ filter is_over now) (filter is_over now)))
    (map exchange (cond a (c ∷ filter is_over cs) (filter is_over cs)) ++ map exchange (cond (not a && b) (d ∷ newly_over cs now) (newly_over cs now)))

parts_case : (c d : Course) (cs now : List Course) → Stays c d → Parts cs now → (a b : Bool) → is_over c ≡ a → is_over d ≡ b → by_tests c d cs now a b
parts_case c d cs now stay rest true true e f =
    subst (λ (o : Over). IsPermutation (o ∷ finished now) (exchange c ∷ (finished cs ++ newly cs now))) (sym (stay e).1)
    (IsPermutation-cons (exchange c) (finished now) (finished cs ++ newly cs now) rest)
parts_case c d cs now stay rest true false e f = absurd (true_false (is_over d) (stay e).0 f)
parts_case c d cs now stay rest false true e f =
    IsPermutation-trans (exchange d ∷ finished now) (exchange d ∷ (finished cs ++ newly cs now)) (finished cs ++ exchange d ∷ newly cs now)
    (IsPermutation-cons (exchange d) (finished now) (finished cs ++ newly cs now) rest)
    (IsPermutation-sym (finished cs ++ exchange d ∷ newly cs now) (exchange d ∷ (finished cs ++ newly cs now))
    (IsPermutation-middle (finished cs) (exchange d) (newly cs now)))
parts_case c d cs now stay rest false false e f = rest

parts : (cs now : List Course) → Follows cs now → Parts cs now
parts [] now f = subst (λ (w : List Course). IsPermutation (map exchange w) []) (sym (filter_none is_over now f)) (IsPermutation-refl [])
parts (c ∷ cs) [] f = absurd f
parts (c ∷ cs) (d ∷ now) f = parts_case c d cs now f.0 (parts cs now f.1) (is_over c) (is_over d) refl refl

-- ---- over all that happened

each_exchange : (cs : List Course) → Each (λ o. is_exchange o ≡ true) (map exchange cs)
each_exchange [] = tt
each_exchange (c ∷ cs) = (refl, each_exchange cs)

all_exchanges : (cs : List Course) → filter is_exchange (map exchange cs) ≡ map exchange cs
all_exchanges cs = filter_all is_exchange (map exchange cs) (each_exchange cs)

no_exchange : (cs : List Course) (o : Option Heard) → filter is_exchange (unasked cs o) ≡ []
no_exchange cs None = refl
no_exchange cs (Some m) = no_case (list_any hears_it cs)
  where
    no_case : (b : Bool) → filter is_exchange (if b then [] else Unasked m ∷ []) ≡ []
    no_case true = refl
    no_case false = refl

told_with : (past : List Happening) (h : Happening) → filter is_exchange (over_with past h) ≡ newly (courses past) (courses (past ++ h ∷ []))
told_with past h =
    filter-append is_exchange (newly (courses past) (courses (past ++ h ∷ []))) (unasked (courses past) (completes (coming past) h))
    ∙ (ap₂ (λ (x y : List Over). x ++ y) (all_exchanges (newly_over (courses past) (courses (past ++ h ∷ []))))
    (no_exchange (courses past) (completes (coming past) h))
    ∙ append-nil (newly (courses past) (courses (past ++ h ∷ []))))

one_step : (past : List Happening) (h : Happening) (told : List Over) → IsPermutation (finished (courses past)) told
    → IsPermutation (finished (courses (past ++ h ∷ []))) (told ++ filter is_exchange (over_with past h))
one_step past h told p =
    let cs = courses past in
    let now = courses (past ++ h ∷ []) in
    let f : Follows cs now = subst (Follows cs) (sym (courses_more None [] past h)) (follows (coming past) h cs (sound past)) in
    subst (λ (w : List Over). IsPermutation (finished now) (told ++ w)) (sym (told_with past h))
    (IsPermutation-trans (finished now) (finished cs ++ newly cs now) (told ++ newly cs now) (parts cs now f)
    (IsPermutation-append_left (newly cs now) (finished cs) told p))

told_after : (past hs : List Happening) (told : List Over) → IsPermutation (finished (courses past)) told
    → IsPermutation (finished (courses (past ++ hs))) (told ++ filter is_exchange (over_after past hs))
told_after past [] told p =
    subst (λ (w : List Happening). IsPermutation (finished (courses w)) (told ++ [])) (sym (append-nil past))
    (subst (IsPermutation (finished (courses past))) (sym (append-nil told)) p)
told_after past (h ∷ hs) told p =
    let rest = told_after (past ++ h ∷ []) hs (told ++ filter is_exchange (over_with past h)) (one_step past h told p) in
    let same : (told ++ filter is_exchange (over_with past h)) ++ filter is_exchange (over_after (past ++ h ∷ []) hs) ≡ told ++ filter is_exchange
    (over_with past h ++ over_after (past ++ h ∷ []) hs) =
    append_assoc told (filter is_exchange (over_with past h)) (filter is_exchange (over_after (past ++ h ∷ []) hs))
    ∙ ap (λ w. told ++ w) (sym (filter-append is_exchange (over_with past h) (over_after (past ++ h ∷ []) hs))) in
    subst (λ (w : List Happening). IsPermutation (finished (courses w))
    (told ++ filter is_exchange (over_with past h ++ over_after (past ++ h ∷ []) hs))) (append_assoc past (h ∷ []) hs)
    (subst (IsPermutation (finished (courses ((past ++ h ∷ []) ++ hs)))) same rest)

pub told_once : (hs : List Happening) → IsPermutation (map exchange (courses hs)) (filter is_exchange (over_at_end hs))
told_once hs =
    let cs = courses hs in
    let told = filter is_exchange (over hs) in
    let whole : filter is_exchange (over_at_end hs) ≡ told ++ left_open hs =
    filter-append is_exchange (over hs) (left_open hs) ∙ ap (λ w. told ++ w) (all_exchanges (filter is_open cs)) in
    let both : IsPermutation (map exchange cs) (finished cs ++ left_open hs) =
    subst (IsPermutation (map exchange cs)) (map-append exchange (filter is_over cs) (filter is_open cs))
    (IsPermutation-map exchange cs (filter is_over cs ++ filter is_open cs) (IsPermutation-filter_both is_over is_open (λ c. refl) cs)) in
    subst (IsPermutation (map exchange cs)) (sym whole)
    (IsPermutation-trans (map exchange cs) (finished cs ++ left_open hs) (told ++ left_open hs) both
    (IsPermutation-append_left (left_open hs) (finished cs) told (told_after [] hs [] (IsPermutation-refl []))))
