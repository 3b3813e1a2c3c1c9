-- Each step of the gate keeps its rule.
use Rattle.std.proofs.Common.{◌≡◌, ◌≢◌, ◌⊎◌, inl, inr, ⊎_elim, ℕ, zero, suc, ◌+◌, ◌<◌, eqb, Bool, true, false, cond, List, [], ◌∷◌, ◌++◌, length, get_or, set, refl, sym, ap, ◌∙◌, subst, arith, append-nil, length-set, get_or-set_same, get_or-set_other, eq-eqb, ne_eqb, Option, Some, None}
use Rattle.std.proofs.lemmas.Grind.{get_or-set_at}
use mathlib.Core.Logic.{dite}
use mathlib.Core.Option.{some, none, some-injective, some-ne-none}
use native.Mathlib.Decide.{ℕ_discrete}
use prog.Atomic.{either}
use lib.ListN.{get_elem?}
use Rattle.atomic_table.specs.Table.{State as Board, Me, step, keeps, takes, gives, stepped, Allows, Splits, Joins, opening as table_opening, Seen}
use Rattle.atomic_table.proofs.Lists.{at_set, set_here, set_else, at_longer, at_snoc}
use Rattle.diag_ecu.specs.State.{State}
use Rattle.diag_desk.specs.Entries.{BeginsWith, own}
use Rattle.diag_desk.specs.Legal.{Legal, Run, after}
use Rattle.diag_desk.specs.Timed.{Timed}
use Rattle.diag_desk.specs.declared.entry.Entry.{Entry}
use Rattle.diag_gate.proofs.Owned.{owned}
use Rattle.diag_gate.specs.declared.view.View.{View}
use Rattle.diag_gate.specs.Views.{IsLegal, own_if, own_of, starting, holding, missing, letting_go, naming, listed, host_without, new_seat, host_with, spent}
use Rattle.diag_gate.specs.Rule.{run, Knows, AtHome, Out, Placed, Kept}
use Rattle.diag_gate.specs.Plays.{took, released, named, learned}
use Rattle.diag_gate.proofs.Begins.{set_there, read_set, begins_whole, begins_more, begins_shorter, longer_begins, shorter_begins, own-append, own_none, owns_read, owns_there}

-- Of all views after one was written

pub knows_set : (o : State) (journal : List Entry) (place : ℕ → ℕ) (views : List View) (id : ℕ) (w : View)
    → ((j : ℕ) (u : View) → j ≢ id → get_elem? views j ≡ some u → Knows o journal place j u) → Knows o journal place id w
    → (j : ℕ) (u : View) → get_elem? (set views id w) j ≡ some u → Knows o journal place j u
knows_set o journal place views id w others mine j u e =
    ⊎_elim
    (λ (x : (j ≡ id) × (w ≡ u)). subst (λ (y : ℕ × View). Knows o journal place y.0 y.1) (λ i. (sym x.0 i, x.1 i)) mine)
    (λ (x : (j ≢ id) × (get_elem? views j ≡ some u)). others j u x.0 x.1)
    (at_set views id j w u e)

-- who says that it holds the slot after one view was written: that one, or one that said so before
holds_set : (views : List View) (id : ℕ) (w : View) (C : ℕ → Type 0) → ((j : ℕ) (u : View) → get_elem? views j ≡ some u → u.holds ≡ true → C j)
    → (w.holds ≡ true → C id)
    → (j : ℕ) (u : View) → get_elem? (set views id w) j ≡ some u → u.holds ≡ true → C j
holds_set views id w C others mine j u e h =
    ⊎_elim
    (λ (x : (j ≡ id) × (w ≡ u)). subst C (sym x.0) (mine (ap (λ (v : View). v.holds) x.1 ∙ h)))
    (λ (x : (j ≢ id) × (get_elem? views j ≡ some u)). others j u x.1 h)
    (at_set views id j w u e)

word_set : (ws : List ℕ) (n : ℕ) → length ws ≡ 1 → get_or (set ws 0 n) 0 0 ≡ n
word_set ws n long = get_or-set_same ws 0 n 0 (omega arith)

apart : {b : Bool} → b ≡ false → b ≡ true → ⊥
apart p q = cc

home_set : (o : State) (journal : List Entry) (homes : List _) (views : List View) (id : ℕ) (w : View) → w.holds ≡ false
    → AtHome o journal homes views → AtHome o journal homes (set views id w)
home_set o journal homes views id w off h = record { desk = h.desk; free = holds_set views id w (λ _. ⊥) h.free (apart off) }

out_set : (journal : List Entry) (views : List View) (id : ℕ) (v w : View) → get_elem? views id ≡ some v → v.holds ≡ false → w.holds ≡ false
    → Out journal views → Out journal (set views id w)
out_set journal views id v w at was off h =
    let other : h.holder ≢ id = λ e. apart was
    (ap (λ (x : View). x.holds) (some-injective v h.view (sym at ∙ ap (λ j. get_elem? views j) (sym e) ∙ h.there)) ∙ h.holds) in record {
      holder = h.holder;
      view = h.view;
      there = set_else views id h.holder w other ∙ h.there;
      holds = h.holds;
      seen = h.seen;
      seat = h.seat;
      tester = h.tester;
      only = holds_set views id w (λ j. j ≡ h.holder) h.only (λ on. absurd (apart off on));
    }

-- the view that was written has each tester that was there
placed_set : (place : ℕ → ℕ) (views : List View) (id : ℕ) (v w : View) (t : ℕ) → get_elem? views id ≡ some v
    → ((l : List Timed) → own_of v t ≡ Some l → (m : List Timed) × (own_of w t ≡ Some m)) → Placed place views t → Placed place (set views id w) t
placed_set place views id v w t at like h = dite (ℕ_discrete (place t) id)
    (λ is.
    let same : h.view ≡ v = some-injective h.view v (sym h.there ∙ ap (λ j. get_elem? views j) is ∙ at) in
    let has = like h.own (ap (λ (x : View). own_of x t) (sym same) ∙ h.has) in
    record { view = w; own = has.0; there = ap (λ j. get_elem? (set views id w) j) is ∙ set_there views id w v at; has = has.1 })
    (λ not. record { view = h.view; own = h.own; there = set_else views id (place t) w not ∙ h.there; has = h.has })

-- a step of a view that does not hold the slot, which leaves the word and the slots
pub stays : (s : Board (Option Run) View) (k : Kept s) (id : ℕ) (v w : View) → get_elem? s.views id ≡ some v → v.holds ≡ false → w.holds ≡ false
    → ((o : State) (journal : List Entry) (place : ℕ → ℕ) → Knows o journal place id v → Knows o journal place id w)
    → ((t : ℕ) (l : List Timed) → own_of v t ≡ Some l → own_of w t ≡ Some l)
    → (n : ℕ) → n ≡ get_or s.words 0 0 → Kept record { words = set s.words 0 n; homes = s.homes; views = set s.views id w }
stays s k id v w at was off like has n is =
    let same : get_or (set s.words 0 n) 0 0 ≡ get_or s.words 0 0 = word_set s.words n k.one_word ∙ is in record {
      opening = k.opening;
      journal = k.journal;
      place = k.place;
      one_word = length-set s.words 0 n ∙ k.one_word;
      legal = k.legal;
      knows = knows_set k.opening k.journal k.place s.views id w (λ j u _ e. k.knows j u e) (like k.opening k.journal k.place (k.knows id v at));
      placed = λ t small. placed_set k.place s.views id v w t at (λ l e. (l, has t l e)) (k.placed t small);
      home = λ z. home_set k.opening k.journal s.homes s.views id w off (k.home (sym same ∙ z));
      out = λ nz. out_set k.journal s.views id v w at was off (k.out (λ z. nz (same ∙ z)));
    }

-- The steps

pub begins : (r : Run) → IsLegal r → Kept (table_opening (0 ∷ []) (Some r ∷ []) (starting r))
begins r legal = record {
  opening = r.opening;
  journal = r.journal;
  place = λ _. 0;
  one_word = refl;
  legal = legal;
  knows = one;
  placed = λ t small. record { view = starting r; own = owned r.opening (0 + t) r.journal; there = refl; has = owns_there 0 9 t r small };
  home = λ _. record { desk = refl; free = none_holds };
  out = λ nz. absurd (nz refl);
}
  where
    first : Knows r.opening r.journal (λ _. 0) 0 (starting r)
    first = record {
      opened = λ _. refl;
      seen = begins_whole r.journal;
      told = (r.journal, refl);
      owns =
          λ t l e. (refl, (let same : t ≡ 0 + t = omega arith in ap (λ (u : ℕ). owned r.opening u r.journal) same) ∙ owns_read 0 9 t r l e);
    }

    one : (by : ℕ) (v : View) → get_elem? (starting r ∷ []) by ≡ some v → Knows r.opening r.journal (λ _. 0) by v
    one zero v e = subst (Knows r.opening r.journal (λ _. 0) 0) (some-injective _ _ e) first
    one (suc by) v e = absurd (some-ne-none v (sym e))

    none_holds : (by : ℕ) (v : View) → get_elem? (starting r ∷ []) by ≡ some v → v.holds ≡ true → ⊥
    none_holds zero v e h = apart refl (ap (λ (x : View). x.holds) (some-injective _ _ e) ∙ h)
    none_holds (suc by) v e h = absurd (some-ne-none v (sym e))

-- a compare-exchange that found another number, or wrote the number that it found
unchanged : (x old new : ℕ) → x ≢ old → either (eqb x old) new x ≡ x
unchanged x old new miss = ap (λ b. either b new x) (ne_eqb x old miss)

pub takes_or_misses : (slots id : ℕ) (m : Me (Option Run) View) → m.0.live ≡ true → m.0.holds ≡ false → m.1 ≡ [] → m.0.is_seat ≡ true → m.0.who < 9
    → Allows Kept slots id m 0 (λ x. either (eqb x 0) 1 x) (took (step slots 0 0 1 none) m)
takes_or_misses slots id m live off empty seat tester s k wide at small =
    let x : ℕ = get_or s.words 0 0 in dite (ℕ_discrete x 0)
    (λ is.
    let h = k.home is in
    let known = k.knows id m.0 at in
    let desk = run k.opening k.journal in
    let w = holding m.0 k.journal in
    let a = takes 0 (Some desk) in
    let same : m.0.opening ≡ k.opening = known.opened live in
    let after : (w, (0, Some desk) ∷ m.1) ≡ (w, (0, Some (run m.0.opening k.journal)) ∷ []) = λ i. (w, (0, Some (run (sym same i) k.journal)) ∷ empty i) in
    let n : get_or (set s.words 0 1) 0 0 ≡ 1 = word_set s.words 1 k.one_word in
    let kept : Kept (stepped s 0 1 id m.1 w a) = record {
      opening = k.opening;
      journal = k.journal;
      place = k.place;
      one_word = length-set s.words 0 1 ∙ k.one_word;
      legal = k.legal;
      knows = knows_set k.opening k.journal k.place s.views id w (λ j u _ e. k.knows j u e)
          record { opened = known.opened; seen = begins_whole k.journal; told = known.told; owns = known.owns };
      placed = λ t small. placed_set k.place s.views id m.0 w t at (λ l e. (l, e)) (k.placed t small);
      home = λ z. absurd (omega arith);
      out = λ _. record {
        holder = id;
        view = w;
        there = set_there s.views id w m.0 at;
        holds = refl;
        seen = refl;
        seat = seat;
        tester = tester;
        only = holds_set s.views id w (λ j. j ≡ id) (λ j u e on. absurd (h.free j u e on)) (λ _. refl);
      };
    } in (
      w,
      a,
      h.desk,
      subst (λ b. Kept (stepped s 0 (either b 1 x) id m.1 w a)) (sym (eq-eqb x 0 is)) kept,
      (
        (λ _. record {
          journal = k.journal;
          after = after;
          legal = subst (λ o. Legal o k.journal) (sym same) k.legal;
          begins = known.seen;
          owns = λ t l e. ap (λ (o : State). owned o t k.journal) same ∙ (known.owns t l e).1;
        }),
        λ no. absurd (no is),
      ),
    ))
    (λ busy. (
      missing m.0,
      keeps,
      tt,
      stays s k id m.0 (missing m.0) at off off
          (λ o journal place known. record { opened = known.opened; seen = known.seen; told = known.told; owns = known.owns }) (λ t l e. e)
          (either (eqb x 0) 1 x) (unchanged x 0 1 busy),
      ((λ is. absurd (busy is)), λ _. refl),
    ))

own_of_host : (v : View) (t : ℕ) → v.is_seat ≡ false → own_of v t ≡ get_or v.owns t None
own_of_host v t host = ap (λ b. own_if b v.who v.own v.owns t) host

pub names_next : (slots id t : ℕ) (m : Me (Option Run) View) → m.0.is_seat ≡ false → m.0.holds ≡ false
    → Allows Kept slots id m 0 (λ x. either (eqb x t) t x) (named (step slots 0 t t none) m)
names_next slots id t m host off s k wide at small =
    let x : ℕ = get_or s.words 0 0 in
    let same : either (eqb x t) t x ≡ x = dite (ℕ_discrete x t) (λ is. ap (λ b. either b t x) (eq-eqb x t is) ∙ sym is) (λ not. unchanged x t t not) in
    let v = m.0 in (
      naming v t,
      keeps,
      tt,
      stays s k id v (naming v t) at off off
          (λ o journal place known. record {
            opened = known.opened;
            seen = known.seen;
            told = known.told;
            owns = λ u l e. known.owns u l (own_of_host v u host ∙ sym (own_of_host (naming v t) u host) ∙ e);
          })
          (λ u l e. own_of_host (naming v t) u host ∙ sym (own_of_host v u host) ∙ e)
          (either (eqb x t) t x) same,
      refl,
    )

pub learns : (slots id : ℕ) (m : Me (Option Run) View) → m.0.holds ≡ false → Allows Kept slots id m 0 (λ x. x) (learned (step slots 0 0 0 none) m)
learns slots id m off s k wide at small =
    let known = k.knows id m.0 at in (
      m.0,
      keeps,
      tt,
      stays s k id m.0 m.0 at off off (λ o journal place h. h) (λ t l e. e) (get_or s.words 0 0) refl,
      (refl, λ le. begins_shorter k.journal m.0.told m.0.seen known.told known.seen le),
    )

-- the entries that a step adds are the seat's alone
own_kept : (s : State) (t : ℕ) (journal next more : List Entry) → next ≡ journal ++ more → own more t ≡ [] → owned s t next ≡ owned s t journal
own_kept s t journal next more is none_of =
    ap (owned s t) is ∙ own-append s t journal more ∙ ap (λ l. owned s t journal ++ l) (own_none (after s journal) t more none_of)
    ∙ append-nil (owned s t journal)

own_if_mine : (t who : ℕ) (own l : List Timed) → own_if true who own [] t ≡ Some l → (t ≡ who) × (own ≡ l)
own_if_mine t who own l e = dite (ℕ_discrete t who)
    (λ is. (is, (let f : cond (eqb t who) (Some own) None ≡ Some l = e in let g = sym (ap (λ b. cond b (Some own) None) (eq-eqb t who is)) ∙ f in cc)))
    (λ not. let f : cond (eqb t who) (Some own) None ≡ Some l = e in let g = sym (ap (λ b. cond b (Some own) None) (ne_eqb t who not)) ∙ f in absurd (cc))

own_if_here : (who : ℕ) (own : List Timed) (owns : List (Option (List Timed))) → own_if true who own owns who ≡ Some own
own_if_here who own owns = ap (λ b. cond b (Some own) None) (eq-eqb who who refl)

pub own_of_seat : (v : View) → v.is_seat ≡ true → own_of v v.who ≡ Some v.own
own_of_seat v seat = ap (λ b. own_if b v.who v.own v.owns v.who) seat ∙ own_if_here v.who v.own v.owns

own_of_mine : (v : View) (t : ℕ) (l : List Timed) → v.is_seat ≡ true → own_of v t ≡ Some l → (t ≡ v.who) × (v.own ≡ l)
own_of_mine v t l seat e = own_if_mine t v.who v.own l (sym (ap (λ b. own_if b v.who v.own v.owns t) seat) ∙ e)

desk_in : Run → Option Run → Run
desk_in d (Some x) = x
desk_in d None = d

desk_of : Run → List (ℕ × Option Run) → Run
desk_of d [] = d
desk_of d (x ∷ xs) = desk_in d x.1

-- the seat carries one desk
pub carried_same : (d d' : Run) → ◌≡◌ {A = List (ℕ × Option Run)} ((0, Some d) ∷ []) ((0, Some d') ∷ []) → d ≡ d'
unfolding desk_of desk_in
carried_same d d' e = ap (desk_of d) e

module _ (id : ℕ) (v : View) (d : Run) (more : List Entry) (seat : v.is_seat ≡ true) (on : v.holds ≡ true) (same : d.opening ≡ v.opening)
    (live : v.live ≡ true) (legal : IsLegal d) (grown : d.journal ≡ v.seen ++ more) (mine : (t : ℕ) → t ≢ v.who → own more t ≡ []) where
  pub puts_back : (slots : ℕ) → slots ≡ 1 → Allows Kept slots id (v, (0, Some d) ∷ []) 0 (λ _. 0)
      (λ _. released (step slots 0 0 0 none) (v, (0, Some d) ∷ []) 0)
  puts_back slots one s k wide at small =
      let x : ℕ = get_or s.words 0 0 in
      let w = letting_go v d in
      let homes = set s.homes 0 (some (Some d)) in
      let out = k.out (λ z. (k.home z).free id v at on) in
      let held : out.holder ≡ id = sym (out.only id v at on) in
      let is_view : out.view ≡ v = some-injective out.view v (sym out.there ∙ ap (λ j. get_elem? s.views j) held ∙ at) in
      let seen : v.seen ≡ k.journal = ap (λ (u : View). u.seen) (sym is_view) ∙ out.seen in
      let grows : d.journal ≡ k.journal ++ more = grown ∙ ap (λ l. l ++ more) seen in
      let known = k.knows id v at in
      let here = (known.owns v.who v.own (own_of_seat v seat)).0 in
      let o : d.opening ≡ k.opening = same ∙ known.opened live in
      let deep : 0 < length s.homes = omega arith in
      let others : (j : ℕ) (u : View) → j ≢ id → get_elem? s.views j ≡ some u → Knows k.opening d.journal k.place j u = λ j u apart e.
      let h = k.knows j u e in record {
        opened = h.opened;
        seen = begins_more k.journal d.journal u.seen more grows h.seen;
        told = begins_more k.journal d.journal u.told more grows h.told;
        owns = λ t l f. let g = h.owns t l f in
            (g.0, own_kept k.opening t k.journal d.journal more grows (mine t (λ e'. apart (sym g.0 ∙ ap k.place e' ∙ here))) ∙ g.1);
      } in
      let w_knows : Knows k.opening d.journal k.place id w = record {
        opened = known.opened;
        seen = begins_whole d.journal;
        told = begins_more k.journal d.journal v.told more grows known.told;
        owns = λ t l f. let g = own_of_mine w t l seat f in
            (ap k.place g.0 ∙ here, ap (λ (u : ℕ). owned k.opening u d.journal) g.0 ∙ ap (λ (z : State). owned z v.who d.journal) (sym o) ∙ g.1);
      } in (
        w,
        gives,
        tt,
        record {
          opening = k.opening;
          journal = d.journal;
          place = k.place;
          one_word = length-set s.words 0 0 ∙ k.one_word;
          legal = subst (λ z. Legal z d.journal) o legal;
          knows = knows_set k.opening d.journal k.place s.views id w others w_knows;
          placed = λ t small. placed_set k.place s.views id v w t at
              (λ l f. (w.own, ap (λ (u : ℕ). own_of w u) (own_of_mine v t l seat f).0 ∙ own_of_seat w seat)) (k.placed t small);
          home = λ _. record {
            desk = set_here s.homes 0 (some (Some d)) deep ∙ ap (λ z. some (some (Some (run z d.journal)))) o;
            free = λ j u e h. ⊎_elim
                (λ (y : (j ≡ id) × (w ≡ u)). apart refl (ap (λ (z : View). z.holds) y.1 ∙ h))
                (λ (y : (j ≢ id) × (get_elem? s.views j ≡ some u)). y.0 (out.only j u y.1 h ∙ held))
                (at_set s.views id j w u e);
          };
          out = λ nz. absurd (nz (word_set s.words 0 k.one_word));
        },
        (λ d' e. ap (λ z. (letting_go v z, [])) (carried_same d d' e)),
      )

-- the same at a seat that is known to be so
pub puts_back_as : (slots id : ℕ) (m : Me (Option Run) View) (v : View) (d : Run) (more : List Entry) → m ≡ (v, (0, Some d) ∷ []) → v.is_seat ≡ true
    → v.holds ≡ true → d.opening ≡ v.opening → v.live ≡ true → IsLegal d → d.journal ≡ v.seen ++ more
    → ((t : ℕ) → t ≢ v.who → own more t ≡ []) → slots ≡ 1 → Allows Kept slots id m 0 (λ _. 0) (λ _. released (step slots 0 0 0 none) m 0)
puts_back_as slots id m v d more is seat on same live legal grown mine one =
    subst (λ x. Allows Kept slots id x 0 (λ _. 0) (λ _. released (step slots 0 0 0 none) x 0)) (sym is)
    (puts_back id v d more seat on same live legal grown mine slots one)

there_within : {A : Type 0} → (l : List A) (i : ℕ) (a : A) → get_elem? l i ≡ some a → i < length l
there_within [] i a e = absurd (some-ne-none a (sym e))
there_within (x ∷ xs) zero a e = omega arith
there_within (x ∷ xs) (suc i) a e = let h = there_within xs i a e in omega arith

-- the place of one tester is changed
moved : (ℕ → ℕ) → ℕ → ℕ → ℕ → ℕ
moved place who to t = cond (eqb t who) to (place t)

moved_here : (place : ℕ → ℕ) (who to t : ℕ) → t ≡ who → moved place who to t ≡ to
unfolding moved
moved_here place who to t is = ap (λ b. cond b to (place t)) (eq-eqb t who is)

moved_else : (place : ℕ → ℕ) (who to t : ℕ) → t ≢ who → moved place who to t ≡ place t
unfolding moved
moved_else place who to t not = ap (λ b. cond b to (place t)) (ne_eqb t who not)

placed_moved : (place : ℕ → ℕ) (who to t : ℕ) (views : List View) → t ≢ who → Placed place views t → Placed (moved place who to) views t
placed_moved place who to t views not h =
    record { view = h.view; own = h.own; there = ap (λ j. get_elem? views j) (moved_else place who to t not) ∙ h.there; has = h.has }

-- a host has each tester as before but the one that was given or taken in
own_else : (v : View) (who t : ℕ) (x : Option (List Timed)) → v.is_seat ≡ false → t ≢ who → own_if v.is_seat v.who v.own (set v.owns who x) t ≡ own_of v t
own_else v who t x host not = ap (λ b. own_if b v.who v.own (set v.owns who x) t) host ∙ get_or-set_other v.owns who t x None not ∙ sym (own_of_host v t host)

-- a view that has not the tester whose place is changed
knows_moved : (o : State) (journal : List Entry) (place : ℕ → ℕ) (who to by : ℕ) (u : View) → place who ≢ by → Knows o journal place by u
    → Knows o journal (moved place who to) by u
knows_moved o journal place who to by u away h = record {
  opened = h.opened;
  seen = h.seen;
  told = h.told;
  owns = λ t l f. let g = h.owns t l f in (moved_else place who to t (λ e. away (sym (ap place e) ∙ g.0)) ∙ g.0, g.1);
}

none_read : (owns : List (Option (List Timed))) (i : ℕ) (x : List Timed) → get_or (set owns i None) i None ≡ Some x → ⊥
none_read [] i x e = absurd (cc)
none_read (y ∷ ys) zero x e = absurd (cc)
none_read (y ∷ ys) (suc i) x e = none_read ys i x e

last_there : {A : Type 0} → (views : List A) (r : A) → get_elem? (views ++ r ∷ []) (length views) ≡ some r
last_there [] r = refl
last_there (x ∷ xs) r = last_there xs r

-- the last of all views: its place is the number of the others
place_snoc : {A : Type 0} → (views : List A) (r u : A) (j : ℕ) → get_elem? (views ++ r ∷ []) j ≡ some u
    → (get_elem? views j ≡ some u) ⊎ ((j ≡ length views) × (r ≡ u))
place_snoc [] r u zero e = inr (refl, some-injective r u e)
place_snoc [] r u (suc j) e = absurd (some-ne-none u (sym e))
place_snoc (x ∷ xs) r u zero e = inl e
place_snoc (x ∷ xs) r u (suc j) e = elim (place_snoc xs r u j e) [ inl t ↦ inl t | inr t ↦ inr (ap suc t.0, t.1) ]

snoc_knows : (o : State) (journal : List Entry) (place : ℕ → ℕ) (views : List View) (r : View) (new : ℕ) → length views ≡ new
    → ((j : ℕ) (u : View) → get_elem? views j ≡ some u → Knows o journal place j u) → Knows o journal place new r
    → (j : ℕ) (u : View) → get_elem? (views ++ r ∷ []) j ≡ some u → Knows o journal place j u
snoc_knows o journal place views r new long first last j u e =
    ⊎_elim
    (λ (y : get_elem? views j ≡ some u). first j u y)
    (λ (y : (j ≡ length views) × (r ≡ u)). subst (λ (z : ℕ × View). Knows o journal place z.0 z.1) (λ i. (sym (y.0 ∙ long) i, y.1 i)) last)
    (place_snoc views r u j e)

pub gives_seat : (id : ℕ) (v : View) (l : List Timed) → v.is_seat ≡ false → v.holds ≡ false → v.live ≡ true → own_of v v.who ≡ Some l
    → Splits Kept id v (host_without v) (new_seat v)
gives_seat id v l host off live has s k at =
    let w = host_without v in
    let r = new_seat v in
    let new : ℕ = length s.views in
    let known = k.knows id v at in
    let mine = known.owns v.who l has in
    let place = moved k.place v.who new in
    let within = there_within s.views id v at in
    let views = set s.views id w in
    let left_knows : Knows k.opening k.journal place id w = record {
      opened = known.opened;
      seen = known.seen;
      told = known.told;
      owns = λ t x f. ⊎_elim
          (λ (y : (t ≡ v.who) × (None ≡ Some x)). absurd (let z = y.1 in cc))
          (λ (y : get_or v.owns t None ≡ Some x). let g = known.owns t x (own_of_host v t host ∙ y) in dite (ℕ_discrete t v.who)
          (λ is. absurd (let z : get_or (set v.owns v.who None) v.who None ≡ Some x =
          sym (ap (λ (u : ℕ). get_or (set v.owns v.who None) u None) is) ∙ sym (own_of_host w t host) ∙ f in none_read v.owns v.who x z))
          (λ not. (moved_else k.place v.who new t not ∙ g.0, g.1)))
          (read_set v.owns v.who t None None (Some x) (sym (own_of_host w t host) ∙ f));
    } in
    let others : (j : ℕ) (u : View) → j ≢ id → get_elem? s.views j ≡ some u → Knows k.opening k.journal place j u = λ j u apart e.
    knows_moved k.opening k.journal k.place v.who new j u (λ z. apart (sym z ∙ mine.0)) (k.knows j u e) in
    let first = knows_set k.opening k.journal place s.views id w others left_knows in
    let long : length views ≡ new = length-set s.views id w in
    let right_knows : Knows k.opening k.journal place new r = record {
      opened = λ _. known.opened live;
      seen = known.seen;
      told = (k.journal, refl);
      owns = λ t x f. let g = own_if_mine t v.who (listed (own_of v v.who)) x f in
          (moved_here k.place v.who new t g.0, ap (λ (u : ℕ). owned k.opening u k.journal) g.0 ∙ mine.1 ∙ sym (ap listed has) ∙ g.1);
    } in record {
      opening = k.opening;
      journal = k.journal;
      place = place;
      one_word = k.one_word;
      legal = k.legal;
      knows = λ j u e. snoc_knows k.opening k.journal place views r new long first right_knows j u e;
      placed = λ t small. dite (ℕ_discrete t v.who)
          (λ is. record {
            view = r;
            own = r.own;
            there = ap (λ j. get_elem? (views ++ r ∷ []) j) (moved_here k.place v.who new t is ∙ sym long) ∙ last_there views r;
            has = ap (λ (u : ℕ). own_of r u) is ∙ own_of_seat r refl;
          })
          (λ not. let h = placed_set k.place s.views id v w t at (λ l e. (l, own_else v v.who t None host not ∙ e)) (k.placed t small) in
          placed_moved k.place v.who new t (views ++ r ∷ []) not record {
            view = h.view;
            own = h.own;
            there = at_longer views (r ∷ []) (k.place t) h.view h.there;
            has = h.has;
          });
      home = λ z. let h = home_set k.opening k.journal s.homes s.views id w off (k.home z) in record {
        desk = h.desk;
        free = λ j u e on. ⊎_elim (λ (y : get_elem? views j ≡ some u). h.free j u y on)
            (λ (y : r ≡ u). apart refl (ap (λ (z : View). z.holds) y ∙ on)) (at_snoc views r u j e);
      };
      out = λ nz. let h = out_set k.journal s.views id v w at off off (k.out nz) in record {
        holder = h.holder;
        view = h.view;
        there = at_longer views (r ∷ []) h.holder h.view h.there;
        holds = h.holds;
        seen = h.seen;
        seat = h.seat;
        tester = h.tester;
        only = λ j u e on. ⊎_elim (λ (y : get_elem? views j ≡ some u). h.only j u y on)
            (λ (y : r ≡ u). absurd (apart refl (ap (λ (z : View). z.holds) y ∙ on))) (at_snoc views r u j e);
      };
    }

pub takes_seat_in : (id : ℕ) (v : View) (other : ℕ) (w : View) → v.is_seat ≡ false → v.holds ≡ false → w.is_seat ≡ true → w.holds ≡ false
    → w.who < length v.owns → Joins Kept id v other w (host_with v w) spent
takes_seat_in id v other w host off seat w_off deep s k at distinct there =
    let b = host_with v w in
    let views = set s.views id b in
    let w_at = sym (set_else s.views id other b distinct) ∙ there in
    let known = k.knows id v at in
    let theirs = k.knows other w w_at in
    let mine = theirs.owns w.who w.own (own_of_seat w seat) in
    let place = moved k.place w.who id in
    let b_knows : Knows k.opening k.journal place id b = record {
      opened = known.opened;
      seen = longer_begins k.journal v.seen w.seen known.seen theirs.seen;
      told = shorter_begins k.journal v.seen w.seen known.seen theirs.seen;
      owns = λ t l f. ⊎_elim
          (λ (y : (t ≡ w.who) × (Some w.own ≡ Some l)).
          (moved_here k.place w.who id t y.0, ap (λ (u : ℕ). owned k.opening u k.journal) y.0 ∙ mine.1 ∙ (let z = y.1 in cc)))
          (λ (y : get_or v.owns t None ≡ Some l). let g = known.owns t l (own_of_host v t host ∙ y) in
          (dite (ℕ_discrete t w.who) (λ is. moved_here k.place w.who id t is) (λ not. moved_else k.place w.who id t not ∙ g.0), g.1))
          (read_set v.owns w.who t (Some w.own) None (Some l) (sym (own_of_host b t host) ∙ f));
    } in
    let spent_knows : Knows k.opening k.journal place other spent = record {
      opened = λ e. absurd (apart refl e);
      seen = (k.journal, refl);
      told = (k.journal, refl);
      owns = λ t l f. absurd (cc);
    } in record {
      opening = k.opening;
      journal = k.journal;
      place = place;
      one_word = k.one_word;
      legal = k.legal;
      knows = knows_set k.opening k.journal place views other spent
          (λ j u not_other e. ⊎_elim
          (λ (y : (j ≡ id) × (b ≡ u)). subst (λ (z : ℕ × View). Knows k.opening k.journal place z.0 z.1) (λ i. (sym y.0 i, y.1 i)) b_knows)
          (λ (y : (j ≢ id) × (get_elem? s.views j ≡ some u)). knows_moved k.opening k.journal k.place w.who id j u (λ z. not_other (sym z ∙ mine.0))
          (k.knows j u y.1))
          (at_set s.views id j b u e))
          spent_knows;
      placed = λ t small. dite (ℕ_discrete t w.who)
          (λ is. record {
            view = b;
            own = w.own;
            there = ap (λ j. get_elem? (set views other spent) j) (moved_here k.place w.who id t is)
                ∙ set_else views other id spent (λ e. distinct (sym e)) ∙ set_there s.views id b v at;
            has = own_of_host b t host ∙ get_or-set_at v.owns w.who t (Some w.own) None is deep;
          })
          (λ not. let h = placed_set k.place s.views id v b t at (λ l e. (l, own_else v w.who t (Some w.own) host not ∙ e)) (k.placed t small) in
          placed_moved k.place w.who id t (set views other spent) not
          (placed_set k.place views other w spent t there (λ l e. absurd (not (own_of_mine w t l seat e).0)) h));
      home = λ z. home_set k.opening k.journal s.homes views other spent refl (home_set k.opening k.journal s.homes s.views id b off (k.home z));
      out = λ nz. out_set k.journal views other w spent there w_off refl (out_set k.journal s.views id v b at off off (k.out nz));
    }

-- what the table shows at the end to the host, which has every tester
pub record Closes (v : View) (homes : List _) : Type 0 where
  pub journal : List Entry
  pub legal : Legal v.opening journal
  pub begins : BeginsWith journal v.seen
  pub owns : (t : ℕ) (l : List Timed) → own_of v t ≡ Some l → owned v.opening t journal ≡ l
  pub desk : get_elem? homes 0 ≡ some (some (Some (run v.opening journal)))

pub closes : (id : ℕ) (v : View) (s : Board (Option Run) View) → Seen Kept id v s → v.live ≡ true → v.holds ≡ false
    → ((t : ℕ) → t < 9 → (l : List Timed) × (own_of v t ≡ Some l)) → Closes v s.homes
closes id v s seen live off all =
    let k = seen.0 in
    let known = k.knows id v seen.1 in
    let same : v.opening ≡ k.opening = known.opened live in
    let home = dite (ℕ_discrete (get_or s.words 0 0) 0) k.home
    (λ nz. let out = k.out nz in let t = out.view.who in
    let here = (known.owns t (all t out.tester).0 (all t out.tester).1).0 in
    let there = ((k.knows out.holder out.view out.there).owns t out.view.own (own_of_seat out.view out.seat)).0 in
    let one : out.holder ≡ id = sym there ∙ here in
    absurd (apart off (ap (λ (x : View). x.holds) (some-injective v out.view (sym seen.1 ∙ ap (λ j. get_elem? s.views j) (sym one) ∙ out.there))
    ∙ out.holds))) in record {
      journal = k.journal;
      legal = subst (λ o. Legal o k.journal) (sym same) k.legal;
      begins = known.seen;
      owns = λ t l e. ap (λ (o : State). owned o t k.journal) same ∙ (known.owns t l e).1;
      desk = home.desk ∙ ap (λ o. some (some (Some (run o k.journal)))) (sym same);
    }
