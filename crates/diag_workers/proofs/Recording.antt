-- What one more event makes of a worker's record.
use Rattle.std.proofs.Common.{◌≡◌, ◌≤◌, ℕ, Option, Some, None, length, length-append, arith, List, [], ◌∷◌, ◌++◌, take, drop, refl, ap, ap₂, subst, sym, ◌∙◌, append_assoc}
use Rattle.std.specs.Option.{option_to_list}
use Rattle.std.proofs.lemmas.List.{append-nil, length-map, take-append-drop, map-append}
use Rattle.diag_can.specs.Event.{Event}
use Rattle.diag_pdu.specs.declared.setup.LinkSetup.{LinkSetup}
use Rattle.diag_pdu.specs.declared.step.Step.{Step}
use Rattle.diag_tp.specs.Gives.{gives, steps, steps_after}
use Rattle.diag_desk.specs.declared.entry.Entry.{Entry}
use Rattle.diag_desk.specs.Entries.{asked, asked_by}
use Rattle.diag_desk.specs.Timed.{Timed, entries_of}
use Rattle.diag_port.specs.declared.pace.Pace.{Pace}
use Rattle.diag_port.specs.Standing.{HasKept}
use Rattle.diag_world.specs.Channel.{ChannelState, ChannelTook, GoesOn}
use Rattle.diag_world.specs.Weaving.{all_by}
use Rattle.diag_workers.specs.Work.{AreBy, HasAsked, PlayedLog, WorkerStands, WorkerTook}
use Rattle.diag_world.proofs.Weaves.{steps_after-append}

-- where the first k events ask what a record has, all events ask that and what the others give
pub asks_first : (s : LinkSetup) (E : List Event) (k : ℕ) (K : List Entry) → asked K ≡ steps s (take k E)
    → steps s E ≡ asked K ++ steps_after s (take k E) (drop k E)
asks_first s E k K asks =
    ap (steps s) (sym (take-append-drop k E))
    ∙ (steps_after-append s [] (take k E) (drop k E) ∙ ap (λ w. w ++ steps_after s (take k E) (drop k E)) (sym asks))

-- the same, each step beside the tester
pub asks_first_by : (s : LinkSetup) (who : ℕ) (E : List Event) (k : ℕ) (K : List Entry) → AreBy who K → asked K ≡ steps s (take k E)
    → all_by who (steps s E) ≡ asked_by K ++ all_by who (steps_after s (take k E) (drop k E))
asks_first_by s who E k K mine asks =
    let rest = steps_after s (take k E) (drop k E) in
    ap (all_by who) (asks_first s E k K asks) ∙ (map-append (λ x. (who, x)) (asked K) rest ∙ ap (λ w. w ++ all_by who rest) (sym mine))

by_append : (who : ℕ) (xs ys : List Entry) → AreBy who xs → AreBy who ys → AreBy who (xs ++ ys)
by_append who xs ys h i =
    map-append (λ (e : Entry). (e.who, e.step)) xs ys
    ∙ (ap₂ (λ v w. v ++ w) h i
    ∙ (sym (map-append (λ x. (who, x)) (asked xs) (asked ys)) ∙ ap (all_by who) (sym (map-append (λ (e : Entry). e.step) xs ys))))

first_step : Step → List (ℕ × Step) → Step
first_step d [] = d
first_step d (p ∷ ps) = p.1

-- entries of one tester ask the steps
pub asks_of : (who : ℕ) (K : List Entry) (xs : List Step) → asked_by K ≡ all_by who xs → asked K ≡ xs
unfolding first_step
asks_of who [] [] h = refl
asks_of who [] (x ∷ xs) h = absurd (clash h)
  where
    clash : [] ≡ (who, x) ∷ all_by who xs → ⊥
    clash h = cc
asks_of who (k ∷ ks) [] h = absurd (clash h)
  where
    clash : (k.who, k.step) ∷ asked_by ks ≡ [] → ⊥
    clash h = cc
asks_of who (k ∷ ks) (x ∷ xs) h =
    let here : k.step ≡ x = ap (first_step x) h in
    let rest : asked_by ks ≡ all_by who xs = cc in
    ap₂ (λ y ys. y ∷ ys) here (asks_of who ks xs rest)

at_most_one : {X : Type 0} (o : Option X) → length (option_to_list o) ≤ 1
at_most_one None = omega arith
at_most_one (Some x) = omega arith

-- an event more
pub worker_more : (s : LinkSetup) (pace : Pace) (who tester : ℕ) (channel channel' : ChannelState) (E : List Event) (e : Event)
    (before given given' : List Timed) (P P' : List Entry → Type 0)
    → length E ≤ 1000000 → WorkerStands s pace who channel E before given P → tester ≡ who → WorkerTook tester channel channel' e given given' P P'
    → WorkerStands s pace who channel' (E ++ e ∷ []) before given' P'
worker_more s pace who tester channel channel' E e before given given' P P' few old is took' =
    let took = subst (λ t. WorkerTook t channel channel' e given given' P P') is took' in
    let more = took.entries in
    let step = option_to_list (gives s E e) in
    let next = took.goes_on s pace E old.entries old.stands (omega (arith, few, old.short)) in
    let asks = asks_of who (entries_of more) step next.0 in
    let mine : AreBy who (entries_of more) = next.0 ∙ ap (all_by who) (sym asks) in
    let one : length more ≤ 1 = omega (
      arith,
      ap length asks,
      length-map (entries_of more) (λ (k : Entry). k.step),
      length-map more (λ (x : Timed). x.entry),
      at_most_one (gives s E e),
    ) in
    let both : entries_of (old.entries ++ more) ≡ entries_of old.entries ++ entries_of more = map-append (λ (x : Timed). x.entry) old.entries more in
    record {
      entries = old.entries ++ more;
      stands = next.1;
      given = took.given ∙ (ap (λ l. l ++ more) old.given ∙ append_assoc before old.entries more);
      mine = rw both (by_append who (entries_of old.entries) (entries_of more) old.mine mine);
      short = omega (arith, old.short, one, length-append old.entries more, length-append E (e ∷ []));
      kept = rw both (took.kept (entries_of old.entries) old.kept);
    }

-- all events were taken
pub worker_done : (s : LinkSetup) (pace : Pace) (who : ℕ) (channel : ChannelState) (E : List Event) (before given : List Timed) (P : List Entry → Type 0)
    → WorkerStands s pace who channel E before given P → PlayedLog s pace who E before given channel.sent P
worker_done s pace who channel E before given P w = record {
  entries = w.entries;
  given = w.given;
  asked = w.mine ∙ ap (all_by who) w.stands.stands.asks;
  sent = w.stands.all_sent;
  kept = w.kept;
}

-- ---- who asks a door, and keeps what it is asked

abbrev Asks : {K D A : Type 0} → (K → List Entry → Type 0) → (D → List Timed) → (A → K) → (A → D) → A → ℕ → Timed → A → Type 0
Asks keeps given entries door a now x b = HasAsked keeps (given (door a)) (given (door b)) (entries a) (entries b) x

-- a worker took an event as its channel did, with who asks its door
pub worker_took : {K D A : Type 0} (keeps : K → List Entry → Type 0) (given : D → List Timed) (entries : A → K) (door : A → D) (a b : A) (who t : ℕ)
    (old new : ChannelState) (e : Event) → who ≡ t
    → ChannelTook (Asks keeps given entries door) old new a b who e
    → WorkerTook t old new e (given (door a)) (given (door b)) (keeps (entries a)) (keeps (entries b))
worker_took keeps given entries door a b who t old new e is took = record {
  entries = option_to_list took.asked;
  given = gave took.asked took.kept;
  goes_on = subst (λ t. GoesOn t old new e (option_to_list took.asked)) is took.goes_on;
  kept = keeps_more took.asked took.kept;
}
  where
    gave : (asked : Option Timed) → HasKept (Asks keeps given entries door) a b old.port.link.now asked
        → given (door b) ≡ given (door a) ++ option_to_list asked
    gave None same = ap (λ x. given (door x)) same ∙ sym (append-nil _)
    gave (Some x) h = h.0

    keeps_more : (asked : Option Timed) → HasKept (Asks keeps given entries door) a b old.port.link.now asked
        → (kept : List Entry) → keeps (entries a) kept → keeps (entries b) (kept ++ entries_of (option_to_list asked))
    keeps_more None same = λ kept h. rw (append-nil kept) (subst (λ x. keeps (entries x) kept) (sym same) h)
    keeps_more (Some x) h = h.1
