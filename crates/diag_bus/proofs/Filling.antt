-- Where the testers' lists have frames, and what a line writes that draws one.
use Rattle.std.proofs.Common.{◌≡◌, ◌≢◌, ◌≤◌, ◌<◌, min, ℕ, zero, suc, ◌+◌, ◌-◌, Bool, true, false, Option, None, Some, List, [], ◌∷◌, ◌++◌, length, map, get_or, refl, ap, ap₂, sym, subst, ◌∙◌, arith, inl, inr}
use Rattle.std.proofs.Math.Seq.{map-set_same}
use Rattle.std.proofs.lemmas.Bool.{eqb-true}
use Rattle.std.proofs.lemmas.List.{append-nil, get_or-map, length-map, length-set, map-set}
use Rattle.std.specs.Prelude.{◌==◌, IfSome, if◌then◌else◌, slice_get, slice_set}
use Rattle.std.specs.List.{flat_map}
use Rattle.std.specs.List.Sorted.{IsNonDecreasingBy}
use Rattle.std.specs.Option.{option_map}
use Rattle.std.proofs.lemmas.Option.{none-some, slice_get-map}
use Rattle.diag_can.specs.Event.{Event}
use Rattle.diag_tp.specs.SentFrames.{SentList}
use Rattle.diag_tp.specs.declared.sent.Sent.{Sent}
use Rattle.diag_setup.specs.Rows.{in_order}
use Rattle.diag_setup.specs.declared.raw.RawSetup.{RawSetup}
use Rattle.diag_desk.specs.declared.entry.Entry.{Entry}
use Rattle.diag_port.specs.declared.port.Port.{Port}
use Rattle.diag_port.specs.Port.{PortState, port_of, port_quiet}
use Rattle.diag_world.specs.Server.{ServerState, ServerView, Settled, quiet_of, server_of}
use Rattle.diag_world.proofs.Worlds.{set_cases}
use Rattle.diag_bus.specs.Node.{IsRest, SameShape, lists_of}
use Rattle.diag_bus.specs.declared.node.Node.{Node}
use Rattle.diag_bus.specs.Filled.{AreFilled, filled_at}
use Rattle.diag_bus.specs.Text.{drawn_for, drawn_text, gathered, line_of, own_text, time_of}
use Rattle.diag_bus.specs.declared.clock.Start.{Start}
use Rattle.diag_bus.specs.declared.filled.Filled.{Filled}
use Rattle.diag_bus.specs.declared.filled.Filled.TheVariants.{Nowhere, At, Anywhere}
use Rattle.diag_bus.specs.Drawn.{Drawn}
use Rattle.diag_bus.proofs.Order.{in_order_is}

-- frames were added to one list
filled_more : (filled : Filled) (lists : List (List Sent)) (i : ℕ) (frames : List Sent) → i < length lists → AreFilled filled lists
    → AreFilled (filled_at filled i) (slice_set lists i frames)
filled_more Nowhere lists i frames within h = (
  omega (arith, within, length-set lists i frames),
  λ j fs apart at. elim (set_cases lists i j frames fs at) [ inl p ↦ absurd (apart p.0) | inr p ↦ h j fs p.1 ],
)
filled_more (At other) lists i frames within h = pick (other == i) refl
  where
    pick : (b : Bool) → (other == i) ≡ b → AreFilled (if b then At other else Anywhere) (slice_set lists i frames)
    pick true e = (
      omega (arith, h.0, length-set lists i frames),
      λ j fs apart at. elim (set_cases lists i j frames fs at) [ inl p ↦ absurd (apart (p.0 ∙ sym (eqb-true other i e))) | inr p ↦ h.1 j fs apart p.1 ],
    )
    pick false e = tt
filled_more Anywhere lists i frames within h = tt

-- a list is empty as before
filled_none : (filled : Filled) (lists : List (List Sent)) (i : ℕ) (frames : List Sent) → frames ≡ [] → AreFilled filled lists
    → AreFilled filled (slice_set lists i frames)
filled_none Nowhere lists i frames none h = λ j fs at. elim (set_cases lists i j frames fs at) [ inl p ↦ p.1 ∙ none | inr p ↦ h j fs p.1 ]
filled_none (At other) lists i frames none h = (
  omega (arith, h.0, length-set lists i frames),
  λ j fs apart at. elim (set_cases lists i j frames fs at) [ inl p ↦ p.1 ∙ none | inr p ↦ h.1 j fs apart p.1 ],
)
filled_none Anywhere lists i frames none h = tt

pub filled_after : (filled new : Filled) (lists new_lists : List (List Sent)) (i : ℕ) (frames : List Sent) (is_empty : Bool) → i < length lists
    → new_lists ≡ slice_set lists i frames
    → new ≡ (if is_empty then filled else filled_at filled i) → (is_empty ≡ true → frames ≡ []) → AreFilled filled lists → AreFilled new new_lists
filled_after filled new lists new_lists i frames true within set is none h =
    subst (λ (f : Filled). AreFilled f new_lists) (sym is) (subst (AreFilled filled) (sym set) (filled_none filled lists i frames (none refl) h))
filled_after filled new lists new_lists i frames false within set is none h =
    subst (λ (f : Filled). AreFilled f new_lists) (sym is) (subst (AreFilled (filled_at filled i)) (sym set) (filled_more filled lists i frames within h))

-- ---- one tester's list in a line

pub ports_moved : (old new : ServerView) (who : ℕ) (e : Event) (asked : Option Entry) (more : List Sent)
    → Settled (server_of old) (server_of new) who e asked more → length new.ports ≡ length old.ports
ports_moved old new who e asked more settled =
    sym (length-map new.ports port_of) ∙ (ap length settled.moved.set
    ∙ (length-set (map port_of old.ports) (who - 1) settled.moved.after ∙ length-map old.ports port_of))

pub ports_same : (old new : ServerView) → server_of new ≡ server_of old → length new.ports ≡ length old.ports
ports_same old new same =
    sym (length-map new.ports port_of) ∙ (ap (λ (s : ServerState). length s.ports) same ∙ length-map old.ports port_of)

-- ---- how long no port does anything

pub rest_stays : (old new : ServerView) (rest : ℕ) → server_of new ≡ server_of old → IsRest old rest → IsRest new rest
rest_stays old new rest same known = subst (λ (s : ServerState). rest ≤ quiet_of s.ports) (sym same) known

quiet_set : (ports : List PortState) (i : ℕ) (port : PortState) → min (quiet_of ports) (port_quiet port) ≤ quiet_of (slice_set ports i port)
quiet_set [] i port = omega arith
quiet_set (first ∷ ports) zero port = omega arith
quiet_set (first ∷ ports) (suc i) port = omega (arith, quiet_set ports i port)

get_set : (ports : List PortState) (i : ℕ) (port before : PortState) → slice_get ports i ≡ Some before → slice_get (slice_set ports i port) i ≡ Some port
get_set [] i port before at = absurd (none-some before at)
get_set (first ∷ ports) zero port before at = refl
get_set (first ∷ ports) (suc i) port before at = get_set ports i port before at

quiet_found : (o : Option Port) (port : PortState) (q : ℕ) → option_map port_of o ≡ Some port
    → IfSome o (λ (p : Port). q ≡ port_quiet (port_of p)) → q ≡ port_quiet port
quiet_found None port q found is = cc
quiet_found (Some p) port q found is = let same : port_of p ≡ port = cc in rw (sym same) is

-- a port that took an event may do something sooner
pub rest_after : (old new : ServerView) (who : ℕ) (e : Event) (asked : Option Entry) (more : List Sent) (rest q rest' : ℕ)
    → Settled (server_of old) (server_of new) who e asked more
    → IfSome (slice_get new.ports (who - 1)) (λ (p : Port). q ≡ port_quiet (port_of p)) → rest' ≡ min rest q → IsRest old rest → IsRest new rest'
rest_after old new who e asked more rest q rest' settled is least known =
    let moved = settled.moved in
    let before = map port_of old.ports in
    let found : option_map port_of (slice_get new.ports (who - 1)) ≡ Some moved.after =
    sym (slice_get-map port_of new.ports (who - 1)) ∙ (ap (λ ls. slice_get ls (who - 1)) moved.set
    ∙ get_set before (who - 1) moved.after moved.before moved.found) in
    let here = quiet_found (slice_get new.ports (who - 1)) moved.after q found is in
    let most = quiet_set before (who - 1) moved.after in
    let now : quiet_of (map port_of new.ports) ≡ quiet_of (slice_set before (who - 1) moved.after) = ap quiet_of moved.set in
    omega (arith, least, known, here, most, now)

-- frames were added to the list at this index
pub shape_after : (old new : Node) (i : ℕ) (list : SentList) (is_empty : Bool) → length new.server.ports ≡ length old.server.ports
    → i < length old.drawn.lists.items
    → new.drawn.lists.items ≡ slice_set old.drawn.lists.items i list
    → new.drawn.filled ≡ (if is_empty then old.drawn.filled else filled_at old.drawn.filled i) → (is_empty ≡ true → list.items ≡ [])
    → (IsRest old.server old.rest → IsRest new.server new.rest) → SameShape old new
shape_after old new i list is_empty ports within set filled none rest =
    let items = λ (f : SentList). f.items in
    let lists : lists_of new.drawn ≡ slice_set (lists_of old.drawn) i list.items = ap (map items) set ∙ map-set items old.drawn.lists.items i list in
    record {
      ports = ports;
      lists = ap length set ∙ length-set old.drawn.lists.items i list;
      filled = filled_after old.drawn.filled new.drawn.filled (lists_of old.drawn) (lists_of new.drawn) i list.items is_empty
          (omega (arith, within, length-map old.drawn.lists.items items)) lists filled none;
      rest = rest;
    }

-- the list at this index is as it was
pub shape_same : (old new : Node) (i : ℕ) (list before : SentList) → length new.server.ports ≡ length old.server.ports
    → new.drawn.lists.items ≡ slice_set old.drawn.lists.items i list
    → before ≡ get_or old.drawn.lists.items i before → list.items ≡ before.items → new.drawn.filled ≡ old.drawn.filled
    → (IsRest old.server old.rest → IsRest new.server new.rest) → SameShape old new
shape_same old new i list before ports set was same filled rest =
    let items = λ (f : SentList). f.items in
    let lists : lists_of new.drawn ≡ lists_of old.drawn = ap (map items) set ∙ map-set_same items old.drawn.lists.items i list before (same ∙ ap items was) in
    record {
      ports = ports;
      lists = ap length set ∙ length-set old.drawn.lists.items i list;
      filled = λ known. subst (λ (f : Filled). AreFilled f (lists_of new.drawn)) (sym filled) (subst (AreFilled old.drawn.filled) (sym lists) known);
      rest = rest;
    }

-- ---- what is written

none_gathered : (n : ℕ) (lists : List (List Sent)) → ((i : ℕ) (frames : List Sent) → slice_get lists i ≡ Some frames → frames ≡ []) → gathered n lists ≡ []
none_gathered n [] none = refl
none_gathered n (frames ∷ lists) none = ap₂ ◌++◌ (ap (map (drawn_for n)) (none 0 frames refl)) (none_gathered (n + 1) lists (λ i fs at. none (suc i) fs at))

one_gathered : (n i : ℕ) (lists : List (List Sent)) (frames : List Sent) → slice_get lists i ≡ Some frames
    → ((j : ℕ) (fs : List Sent) → j ≢ i → slice_get lists j ≡ Some fs → fs ≡ [])
    → gathered n lists ≡ map (drawn_for (n + i)) frames
one_gathered n i [] frames at others = absurd (none-some frames at)
one_gathered n zero (first ∷ lists) frames at others =
    let same : first ≡ frames = cc in
    let here : n ≡ n + zero = omega arith in
    ap₂ ◌++◌ (ap₂ (λ t fs. map (drawn_for t) fs) here same)
    (none_gathered (n + 1) lists (λ i fs there. others (suc i) fs (λ e. absurd (omega (arith, e))) there)) ∙ append-nil (map (drawn_for (n + zero)) frames)
one_gathered n (suc i) (first ∷ lists) frames at others =
    let place : n + 1 + i ≡ n + suc i = omega arith in
    ap₂ ◌++◌ (ap (map (drawn_for n)) (others 0 first (λ e. absurd (omega (arith, e))) refl))
    (one_gathered (n + 1) i lists frames at (λ j fs apart there. others (suc j) fs (λ e. apart (omega (arith, e))) there)
    ∙ ap (λ t. map (drawn_for t) frames) place)

-- a line that draws nothing writes nothing
pub none_written : (setup : RawSetup) (start : Option Start) (lists : List (List Sent)) → AreFilled Nowhere lists → [] ≡ drawn_text setup start lists
none_written setup start lists none = ap (λ ds. flat_map (line_of setup start) (in_order time_of ds)) (sym (none_gathered 1 lists none))

up_drawn : (t : ℕ) (frames : List Sent) → IsNonDecreasingBy (λ f. f.at) frames → IsNonDecreasingBy time_of (map (drawn_for t) frames)
up_drawn t frames up = λ i j d le less.
    let within : j < length frames = omega (arith, less, length-map frames (drawn_for t)) in
    let first = ap time_of (get_or-map (drawn_for t) frames i d.sent d (omega (arith, le, within))) in
    let second = ap time_of (get_or-map (drawn_for t) frames j d.sent d within) in
    omega (arith, first, second, up i j d.sent le within)

lines_drawn : (f : Drawn → List ℕ) (t : ℕ) (frames : List Sent) → flat_map (λ s. f (drawn_for t s)) frames ≡ flat_map f (map (drawn_for t) frames)
lines_drawn f t [] = refl
lines_drawn f t (sent ∷ frames) = ap (λ w. f (drawn_for t sent) ++ w) (lines_drawn f t frames)

-- and one that draws frames of one tester, none earlier than the one before it, writes their lines as they stand
pub own_written : (setup : RawSetup) (start : Option Start) (i : ℕ) (drawn : List SentList) (list : SentList)
    → slice_get drawn i ≡ Some list → IsNonDecreasingBy (λ f. f.at) list.items → AreFilled (At i) (map (λ f. f.items) drawn)
    → own_text setup start i list.items ≡ drawn_text setup start (map (λ f. f.items) drawn)
own_written setup start i drawn list at up filled =
    let items = λ (f : SentList). f.items in
    let place : 1 + i ≡ i + 1 = omega arith in
    let own = map (drawn_for (i + 1)) list.items in
    let one : gathered 1 (map items drawn) ≡ own =
    one_gathered 1 i (map items drawn) list.items (slice_get-map items drawn i ∙ ap (option_map items) at) filled.1
    ∙ ap (λ t. map (drawn_for t) list.items) place in
    lines_drawn (line_of setup start) (i + 1) list.items
    ∙ (ap (flat_map (line_of setup start)) (in_order_is time_of own (up_drawn (i + 1) list.items up))
    ∙ ap (λ ds. flat_map (line_of setup start) (in_order time_of ds)) (sym one))
