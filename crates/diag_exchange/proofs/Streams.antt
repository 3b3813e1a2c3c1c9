-- All requests, with a happening more.
use Rattle.std.proofs.Common.{◌≡◌, Bool, true, false, Option, Some, None, List, [], ◌∷◌, ◌++◌, map, refl, ap, ap₂, sym, ◌∙◌}
use Rattle.std.specs.List.{filter, list_any}
use Rattle.std.specs.Prelude.{cond, if◌then◌else◌, ◌||◌, ◌&&◌, not}
use Rattle.diag_exchange.specs.declared.happening.Happening.{Happening}
use Rattle.diag_exchange.specs.declared.happening.Happening.TheVariants.{Asked, Began, Came, Lost}
use Rattle.diag_exchange.specs.declared.happening.Heard.{Heard}
use Rattle.diag_exchange.specs.Over.{Over}
use Rattle.diag_exchange.specs.declared.happening.AskedRequest.{AskedRequest}
use Rattle.diag_exchange.specs.declared.happening.Start.{Start}
use Rattle.diag_exchange.specs.declared.open.Open.{Open}
use Rattle.diag_exchange.specs.Asking.{Course, and_behind, asked, change_last, completes, finish, happens, hear, hearing, hears_it, hears_no_more, is_candidate, is_loud, is_loud_candidate, with_answer}
use Rattle.diag_exchange.specs.Exchanges.{exchange, is_closed, is_open, is_over, newly_over}
use Rattle.diag_exchange.specs.Streaming.{goes_on, is_done, kept, opened, told}
use Rattle.diag_exchange.specs.Streaming as streaming
use Rattle.diag_exchange.proofs.Courses.{IsSound, candidate_open, done_answer, done_behind, done_hearing, done_hushed, hearing_open, kept_answer, kept_behind, open_goes_on, over_behind, sound_answer, sound_asked, sound_behind, sound_hearing, sound_hushed}
use Rattle.diag_exchange.proofs.Lists.{Each, and_true, change_last_here, change_later, change_none, change_not_here, each_change, each_map, each_push, filter_all, filter_none, map_cond}

-- what is kept of those that are open
abbrev pub open_of : List Course → List Open
open_of cs = map kept (filter is_open cs)

not_yes : (a b : Bool) → (a ≡ true → b ≡ false) → b ≡ true → a ≡ false
not_yes true b f e = cc (sym (f refl) ∙ e)
not_yes false b f e = refl

not_both : (b : Bool) → (not b && b) ≡ false
not_both true = refl
not_both false = refl

of_over : (c : Course) (cs : List Course) → is_over c ≡ true → open_of (c ∷ cs) ≡ open_of cs
of_over c cs e = ap (λ (b : Bool). map kept (cond (not b) (c ∷ filter is_open cs) (filter is_open cs))) e

of_open : (c : Course) (cs : List Course) → is_over c ≡ false → open_of (c ∷ cs) ≡ kept c ∷ open_of cs
of_open c cs e = ap (λ (b : Bool). map kept (cond (not b) (c ∷ filter is_open cs) (filter is_open cs))) e

of_done : (a : Bool) (c : Course) (cs : List Course) → is_over c ≡ is_done a (kept c) → open_of (c ∷ cs) ≡ cond (goes_on a (kept c))
    (kept c ∷ open_of cs) (open_of cs)
of_done a c cs e =
    ap (λ (b : Bool). map kept (cond (not b) (c ∷ filter is_open cs) (filter is_open cs))) e ∙ map_cond kept (goes_on a (kept c)) c (filter is_open cs)

-- those that are open go on
go_case : (c : Course) (cs : List Course) → IsSound c → Each (λ e. is_done false e ≡ false) (open_of cs) → (b : Bool) → is_over c ≡ b
    → Each (λ e. is_done false e ≡ false) (open_of (c ∷ cs))
go_case c cs s rest true e = rw (of_over c cs e) rest
go_case c cs s rest false e = rw (of_open c cs e) (open_goes_on c s e, rest)

none_done : (cs : List Course) → Each IsSound cs → Each (λ e. is_done false e ≡ false) (open_of cs)
none_done [] s = tt
none_done (c ∷ cs) s = go_case c cs s.0 (none_done cs s.1) (is_over c) refl

all_go : (es : List Open) → Each (λ e. is_done false e ≡ false) es → filter (goes_on false) es ≡ es
all_go es d = filter_all (goes_on false) es (each_same es d)
  where
    each_same : (es : List Open) → Each (λ e. is_done false e ≡ false) es → Each (λ e. goes_on false e ≡ true) es
    each_same [] d = tt
    each_same (e ∷ es) d = (ap (λ (b : Bool). not b) d.0, each_same es d.1)

-- none is newly over where nothing changes
newly_same : (cs : List Course) → newly_over cs cs ≡ []
newly_same [] = refl
newly_same (c ∷ cs) = ap (λ b. cond b (c ∷ newly_over cs cs) (newly_over cs cs)) (not_both (is_over c)) ∙ newly_same cs

newly_first : (c : Course) (bs cs : List Course) → newly_over (c ∷ bs) (c ∷ cs) ≡ newly_over bs cs
newly_first c bs cs = ap (λ b. cond b (c ∷ newly_over bs cs) (newly_over bs cs)) (not_both (is_over c))

-- ---- the last that has a property is changed

module _ (p : Course → Bool) (f : Course → Course) (q : Open → Bool) (g : Open → Open)
    (same : (c : Course) → p c ≡ q (kept c))
    (opens : (c : Course) → IsSound c → p c ≡ true → is_over c ≡ false)
    (keeps : (c : Course) → IsSound c → p c ≡ true → kept (f c) ≡ g (kept c))
    (ends : (c : Course) → IsSound c → p c ≡ true → is_over (f c) ≡ is_done false (kept (f c))) where
  any_case : (c : Course) (cs : List Course) → IsSound c → list_any p cs ≡ list_any q (open_of cs) → (b : Bool) → is_over c ≡ b → list_any p (c ∷ cs)
      ≡ list_any q (open_of (c ∷ cs))
  any_case c cs s rest true e = ap (λ b. b || list_any p cs) (not_yes (p c) (is_over c) (opens c s) e) ∙ (rest ∙ ap (list_any q) (sym (of_over c cs e)))
  any_case c cs s rest false e = ap₂ (λ a b. a || b) (same c) rest ∙ ap (list_any q) (sym (of_open c cs e))

  pub any_same : (cs : List Course) → Each IsSound cs → list_any p cs ≡ list_any q (open_of cs)
  any_same [] s = refl
  any_same (c ∷ cs) s = any_case c cs s.0 (any_same cs s.1) (is_over c) refl

  abbrev Left : List Course → Type 0
  Left cs = open_of (change_last p f cs) ≡ filter (goes_on false) (change_last q g (open_of cs))

  abbrev Gone : List Course → Type 0
  Gone cs = map exchange (newly_over cs (change_last p f cs)) ≡ map told (filter (is_done false) (change_last q g (open_of cs)))

  -- none has it
  left_none : (cs : List Course) → Each IsSound cs → list_any p cs ≡ false → Left cs
  left_none cs s none =
      ap open_of (change_none p f cs none) ∙ sym (ap (filter (goes_on false)) (change_none q g (open_of cs) (sym (any_same cs s) ∙ none))
      ∙ all_go (open_of cs) (none_done cs s))

  gone_none : (cs : List Course) → Each IsSound cs → list_any p cs ≡ false → Gone cs
  gone_none cs s none =
      ap (λ w. map exchange (newly_over cs w)) (change_none p f cs none) ∙ (ap (map exchange) (newly_same cs)
      ∙ sym (ap (map told) (ap (filter (is_done false)) (change_none q g (open_of cs) (sym (any_same cs s) ∙ none)) ∙ filter_none (is_done false)
      (open_of cs) (none_done cs s))))

  module _ (c : Course) (cs : List Course) (s : Each IsSound (c ∷ cs)) where
    later : list_any p cs ≡ true → list_any q (open_of cs) ≡ true
    later some = sym (any_same cs s.1) ∙ some

    -- a later one has it
    left_later : list_any p cs ≡ true → Left cs → (b : Bool) → is_over c ≡ b → Left (c ∷ cs)
    left_later some rest true e =
        ap open_of (change_later p f c cs some)
        ∙ (of_over c (change_last p f cs) e ∙ (rest ∙ ap (λ w. filter (goes_on false) (change_last q g w)) (sym (of_over c cs e))))
    left_later some rest false e =
        ap open_of (change_later p f c cs some) ∙ (of_open c (change_last p f cs) e ∙ (ap (λ w. kept c ∷ w) rest
        ∙ sym (ap (λ w. filter (goes_on false) (change_last q g w)) (of_open c cs e)
        ∙ (ap (filter (goes_on false)) (change_later q g (kept c) (open_of cs) (later some))
        ∙ ap (λ (b : Bool). cond (not b) (kept c ∷ filter (goes_on false) (change_last q g (open_of cs)))
        (filter (goes_on false) (change_last q g (open_of cs)))) (open_goes_on c s.0 e)))))

    gone_later : list_any p cs ≡ true → Gone cs → (b : Bool) → is_over c ≡ b → Gone (c ∷ cs)
    gone_later some rest true e =
        ap (λ w. map exchange (newly_over (c ∷ cs) w)) (change_later p f c cs some) ∙ (ap (map exchange) (newly_first c cs (change_last p f cs))
        ∙ (rest ∙ ap (λ w. map told (filter (is_done false) (change_last q g w))) (sym (of_over c cs e))))
    gone_later some rest false e =
        ap (λ w. map exchange (newly_over (c ∷ cs) w)) (change_later p f c cs some) ∙ (ap (map exchange) (newly_first c cs (change_last p f cs))
        ∙ (rest ∙ sym (ap (λ w. map told (filter (is_done false) (change_last q g w))) (of_open c cs e)
        ∙ (ap (λ w. map told (filter (is_done false) w)) (change_later q g (kept c) (open_of cs) (later some))
        ∙ ap (λ (b : Bool). map told (cond b (kept c ∷ filter (is_done false) (change_last q g (open_of cs)))
        (filter (is_done false) (change_last q g (open_of cs))))) (open_goes_on c s.0 e)))))

    module _ (none : list_any p cs ≡ false) (here : p c ≡ true) where
      unfinished : is_over c ≡ false
      unfinished = opens c s.0 here

      here_too : change_last q g (open_of (c ∷ cs)) ≡ g (kept c) ∷ open_of cs
      here_too =
          ap (change_last q g) (of_open c cs unfinished) ∙ change_last_here q g (kept c) (open_of cs) (sym (any_same cs s.1) ∙ none) (sym (same c) ∙ here)

      -- it has it, and no later one
      left_here : Left (c ∷ cs)
      left_here =
          ap open_of (change_last_here p f c cs none here) ∙ (of_done false (f c) cs (ends c s.0 here)
          ∙ (ap (λ o. cond (goes_on false o) (o ∷ open_of cs) (open_of cs)) (keeps c s.0 here)
          ∙ sym (ap (filter (goes_on false)) here_too
          ∙ ap (λ w. cond (goes_on false (g (kept c))) (g (kept c) ∷ w) w) (all_go (open_of cs) (none_done cs s.1)))))

      gone_here : Gone (c ∷ cs)
      gone_here =
          ap (λ w. map exchange (newly_over (c ∷ cs) w)) (change_last_here p f c cs none here)
          ∙ (ap (λ w. map exchange (cond (not (is_over c) && is_over (f c)) (f c ∷ w) w)) (newly_same cs)
          ∙ (ap₂ (λ (a b : Bool). map exchange (cond (not a && b) (f c ∷ []) [])) unfinished (ends c s.0 here)
          ∙ (map_cond exchange (is_done false (kept (f c))) (f c) []
          ∙ (ap (λ (o : Open). cond (is_done false o) (told o ∷ []) []) (keeps c s.0 here)
          ∙ sym (ap (λ w. map told (filter (is_done false) w)) here_too
          ∙ (ap (λ w. map told (cond (is_done false (g (kept c))) (g (kept c) ∷ w) w)) (filter_none (is_done false) (open_of cs) (none_done cs s.1))
          ∙ map_cond told (is_done false (g (kept c))) (g (kept c)) []))))))

  left_case : (c : Course) (cs : List Course) → Each IsSound (c ∷ cs) → Left cs → (a b : Bool) → list_any p cs ≡ a → p c ≡ b → Left (c ∷ cs)
  left_case c cs s rest true b some here = left_later c cs s some rest (is_over c) refl
  left_case c cs s rest false true none here = left_here c cs s none here
  left_case c cs s rest false false none here = left_none (c ∷ cs) s (ap₂ (λ a b. a || b) here none)

  gone_case : (c : Course) (cs : List Course) → Each IsSound (c ∷ cs) → Gone cs → (a b : Bool) → list_any p cs ≡ a → p c ≡ b → Gone (c ∷ cs)
  gone_case c cs s rest true b some here = gone_later c cs s some rest (is_over c) refl
  gone_case c cs s rest false true none here = gone_here c cs s none here
  gone_case c cs s rest false false none here = gone_none (c ∷ cs) s (ap₂ (λ a b. a || b) here none)

  pub left : (cs : List Course) → Each IsSound cs → Left cs
  left [] s = refl
  left (c ∷ cs) s = left_case c cs s (left cs s.1) (list_any p cs) (p c) refl refl

  pub gone : (cs : List Course) → Each IsSound cs → Gone cs
  gone [] s = refl
  gone (c ∷ cs) s = gone_case c cs s (gone cs s.1) (list_any p cs) (p c) refl refl

-- ---- one more request

module _ (r : AskedRequest) where
  abbrev AskedLeft : List Course → Type 0
  AskedLeft cs = open_of (map (and_behind r) cs) ≡ filter (goes_on true) (map (streaming.asked_again r) (open_of cs))

  abbrev AskedGone : List Course → Type 0
  AskedGone cs = map exchange (newly_over cs (map (and_behind r) cs ++ asked r ∷ [])) ≡ map told (filter (is_done true) (map (streaming.asked_again r) (open_of cs)))

  abbrev next : Course → Open
  next c = streaming.asked_again r (kept c)

  asked_left_case : (c : Course) (cs : List Course) → IsSound c → AskedLeft cs → (b : Bool) → is_over c ≡ b → AskedLeft (c ∷ cs)
  asked_left_case c cs s rest true e =
      of_over (and_behind r c) (map (and_behind r) cs) (over_behind c s r e)
      ∙ (rest ∙ ap (λ w. filter (goes_on true) (map (streaming.asked_again r) w)) (sym (of_over c cs e)))
  asked_left_case c cs s rest false e =
      of_done true (and_behind r c) (map (and_behind r) cs) (done_behind c s r ∙ ap (is_done true) (sym (kept_behind c r)))
      ∙ (ap₂ (λ (o : Open) (w : List Open). cond (goes_on true o) (o ∷ w) w) (kept_behind c r) rest
      ∙ ap (λ w. filter (goes_on true) (map (streaming.asked_again r) w)) (sym (of_open c cs e)))

  pub asked_left : (cs : List Course) → Each IsSound cs → AskedLeft cs
  asked_left [] s = refl
  asked_left (c ∷ cs) s = asked_left_case c cs s.0 (asked_left cs s.1) (is_over c) refl

  asked_gone_case : (c : Course) (cs : List Course) → IsSound c → AskedGone cs → (b : Bool) → is_over c ≡ b → AskedGone (c ∷ cs)
  asked_gone_case c cs s rest true e =
      ap (λ (b : Bool). map exchange (cond (not b && is_over (and_behind r c))
      (and_behind r c ∷ newly_over cs (map (and_behind r) cs ++ asked r ∷ [])) (newly_over cs (map (and_behind r) cs ++ asked r ∷ [])))) e
      ∙ (rest ∙ ap (λ w. map told (filter (is_done true) (map (streaming.asked_again r) w))) (sym (of_over c cs e)))
  asked_gone_case c cs s rest false e =
      ap₂ (λ (a b : Bool). map exchange (cond (not a && b) (and_behind r c ∷ newly_over cs (map (and_behind r) cs ++ asked r ∷ []))
      (newly_over cs (map (and_behind r) cs ++ asked r ∷ [])))) e (done_behind c s r)
      ∙ (map_cond exchange (is_done true (next c)) (and_behind r c) (newly_over cs (map (and_behind r) cs ++ asked r ∷ []))
      ∙ (ap₂ (λ (o : Open) (w : List Over). cond (is_done true (next c)) (told o ∷ w) w) (kept_behind c r) rest
      ∙ (sym (map_cond told (is_done true (next c)) (next c) (filter (is_done true) (map (streaming.asked_again r) (open_of cs))))
      ∙ ap (λ w. map told (filter (is_done true) (map (streaming.asked_again r) w))) (sym (of_open c cs e)))))

  pub asked_gone : (cs : List Course) → Each IsSound cs → AskedGone cs
  asked_gone [] s = refl
  asked_gone (c ∷ cs) s = asked_gone_case c cs s.0 (asked_gone cs s.1) (is_over c) refl

-- ---- a message begins

same_candidate : (start : Start) (c : Course) → is_candidate start c ≡ streaming.may_hear false start (kept c)
same_candidate start c = refl

same_loud : (start : Start) (c : Course) → is_loud_candidate start c ≡ streaming.may_hear true start (kept c)
same_loud start c = refl

loud_open : (start : Start) (c : Course) → IsSound c → is_loud_candidate start c ≡ true → is_over c ≡ false
loud_open start c s e = candidate_open c s start (and_true (is_candidate start c) (is_loud c.request) e).0

module _ (start : Start) (cs : List Course) (s : Each IsSound cs) where
  abbrev any_loud : Bool
  any_loud = list_any (is_loud_candidate start) cs

  loud_same : any_loud ≡ list_any (streaming.may_hear true start) (open_of cs)
  loud_same = any_same (is_loud_candidate start) hearing (streaming.may_hear true start) streaming.hearing (same_loud start) (loud_open start)
      (λ c t e. refl) (λ c t e. done_hearing c t) cs s

  loud_left : open_of (change_last (is_loud_candidate start) hearing cs) ≡ filter (goes_on false) (change_last (streaming.may_hear true start) streaming.hearing
      (open_of cs))
  loud_left = left (is_loud_candidate start) hearing (streaming.may_hear true start) streaming.hearing (same_loud start) (loud_open start)
      (λ c t e. refl) (λ c t e. done_hearing c t) cs s

  silent_left : open_of (change_last (is_candidate start) hearing cs) ≡ filter (goes_on false) (change_last (streaming.may_hear false start) streaming.hearing
      (open_of cs))
  silent_left = left (is_candidate start) hearing (streaming.may_hear false start) streaming.hearing (same_candidate start) (λ c t. candidate_open c t start)
      (λ c t e. refl) (λ c t e. done_hearing c t) cs s

  -- none of them is over with it
  all_on : (q : Open → Bool) → filter (goes_on false) (change_last q streaming.hearing (open_of cs)) ≡ change_last q streaming.hearing (open_of cs)
  all_on q = all_go (change_last q streaming.hearing (open_of cs))
      (each_change (λ e. is_done false e ≡ false) q streaming.hearing (λ e d h. none_over (e.replaced || false)) (open_of cs) (none_done cs s))
    where
      none_over : (b : Bool) → (b && not true) ≡ false
      none_over true = refl
      none_over false = refl

  heard_case : (b : Bool) → any_loud ≡ b → open_of (hear start cs) ≡ streaming.hear start (open_of cs)
  heard_case true e =
      ap (λ (b : Bool). open_of (if b then change_last (is_loud_candidate start) hearing cs else change_last (is_candidate start) hearing cs)) e
      ∙ (loud_left ∙ (all_on (streaming.may_hear true start)
      ∙ ap (λ (b : Bool). if b then change_last (streaming.may_hear true start) streaming.hearing (open_of cs) else change_last
      (streaming.may_hear false start) streaming.hearing (open_of cs)) (sym e ∙ loud_same)))
  heard_case false e =
      ap (λ (b : Bool). open_of (if b then change_last (is_loud_candidate start) hearing cs else change_last (is_candidate start) hearing cs)) e
      ∙ (silent_left ∙ (all_on (streaming.may_hear false start)
      ∙ ap (λ (b : Bool). if b then change_last (streaming.may_hear true start) streaming.hearing (open_of cs) else change_last
      (streaming.may_hear false start) streaming.hearing (open_of cs)) (sym e ∙ loud_same)))

  pub hear_left : open_of (hear start cs) ≡ streaming.hear start (open_of cs)
  hear_left = heard_case any_loud refl

never : (a b : Bool) → (not a && (b && not true)) ≡ false
never true b = refl
never false true = refl
never false false = refl

module _ (p : Course → Bool) where
  hearing_case : (c : Course) (cs : List Course) → newly_over cs (change_last p hearing cs) ≡ [] → (a b : Bool) → list_any p cs ≡ a → p c ≡ b
      → newly_over (c ∷ cs) (change_last p hearing (c ∷ cs)) ≡ []
  hearing_case c cs rest true b some here = ap (newly_over (c ∷ cs)) (change_later p hearing c cs some) ∙ (newly_first c cs (change_last p hearing cs) ∙ rest)
  hearing_case c cs rest false true none here = ap (newly_over (c ∷ cs)) (change_last_here p hearing c cs none here)
      ∙ (ap (λ (b : Bool). cond b (hearing c ∷ newly_over cs cs) (newly_over cs cs)) (never (is_over c) (is_closed c)) ∙ newly_same cs)
  hearing_case c cs rest false false none here = ap (newly_over (c ∷ cs)) (change_not_here p hearing c cs none here) ∙ (newly_first c cs cs ∙ newly_same cs)

  newly_hearing : (cs : List Course) → newly_over cs (change_last p hearing cs) ≡ []
  newly_hearing [] = refl
  newly_hearing (c ∷ cs) = hearing_case c cs (newly_hearing cs) (list_any p cs) (p c) refl refl

pub hear_gone : (start : Start) (cs : List Course) → newly_over cs (hear start cs) ≡ []
hear_gone start cs = gone_by (list_any (is_loud_candidate start) cs)
  where
    gone_by : (b : Bool) → newly_over cs (if b then change_last (is_loud_candidate start) hearing cs else change_last (is_candidate start) hearing cs) ≡ []
    gone_by true = newly_hearing (is_loud_candidate start) cs
    gone_by false = newly_hearing (is_candidate start) cs

-- ---- no message is coming in any more

same_hears : (c : Course) → hears_it c ≡ streaming.hears_it (kept c)
same_hears c = refl

pub hears_same : (cs : List Course) → Each IsSound cs → list_any hears_it cs ≡ list_any streaming.hears_it (open_of cs)
hears_same = any_same hears_it hears_no_more streaming.hears_it streaming.hears_no_more same_hears hearing_open (λ c s e. refl) done_hushed

pub finish_left : (o : Option Heard) (cs : List Course) → Each IsSound cs → open_of (finish o cs) ≡ filter (goes_on false) (streaming.finish o (open_of cs))
finish_left None = left hears_it hears_no_more streaming.hears_it streaming.hears_no_more same_hears hearing_open (λ c s e. refl) done_hushed
finish_left (Some m) =
    left hears_it (with_answer m) streaming.hears_it (streaming.with_message m) same_hears hearing_open (λ c s e. kept_answer c m (s.quiet e))
    (λ c s e. done_answer c s m e)

pub finish_gone : (o : Option Heard) (cs : List Course) → Each IsSound cs → map exchange (newly_over cs (finish o cs))
    ≡ map told (filter (is_done false) (streaming.finish o (open_of cs)))
finish_gone None = gone hears_it hears_no_more streaming.hears_it streaming.hears_no_more same_hears hearing_open (λ c s e. refl) done_hushed
finish_gone (Some m) =
    gone hears_it (with_answer m) streaming.hears_it (streaming.with_message m) same_hears hearing_open (λ c s e. kept_answer c m (s.quiet e))
    (λ c s e. done_answer c s m e)

-- ---- they stay sound

pub sound_more : (before : Option Start) (h : Happening) (cs : List Course) → Each IsSound cs → Each IsSound (happens before h cs)
sound_more before (Asked r) cs s =
    each_push IsSound (map (and_behind r) cs) (asked r) (each_map IsSound IsSound (and_behind r) (λ c t. sound_behind c t r) cs s) (sound_asked r)
sound_more before (Began start) cs s = sound_by (list_any (is_loud_candidate start) cs)
  where
    sound_by : (b : Bool) → Each IsSound (if b then change_last (is_loud_candidate start) hearing cs else change_last (is_candidate start) hearing cs)
    sound_by true =
        each_change IsSound (is_loud_candidate start) hearing
        (λ c t e. sound_hearing c t start (and_true (is_candidate start c) (is_loud c.request) e).0) cs s
    sound_by false = each_change IsSound (is_candidate start) hearing (λ c t e. sound_hearing c t start e) cs s
sound_more before (Came bytes) cs s = sound_finish (completes before (Came bytes))
  where
    sound_finish : (o : Option Heard) → Each IsSound (finish o cs)
    sound_finish None = each_change IsSound hears_it hears_no_more (λ c t e. sound_hushed c t) cs s
    sound_finish (Some m) = each_change IsSound hears_it (with_answer m) (λ c t e. sound_answer c t m) cs s
sound_more before Lost cs s = each_change IsSound hears_it hears_no_more (λ c t e. sound_hushed c t) cs s
