-- What the host's steps leave of it.
use Rattle.std.proofs.Common.{◌≡◌, ℕ, ◌<◌, Bool, true, false, List, [], get_or, set, refl, sym, ap, ◌∙◌, subst, Option, Some, None, is_some}
use mathlib.Core.Option.{some, some-injective}
use lib.ListN.{get_elem?}
use Rattle.atomic_table.specs.Table.{Final, Seen}
use Rattle.atomic_table.specs.Seated.{TableId}
use Rattle.diag_desk.specs.Entries.{BeginsWith}
use Rattle.diag_desk.specs.Legal.{Legal, Run}
use Rattle.diag_desk.specs.Timed.{Timed}
use Rattle.diag_gate.specs.declared.view.View.{View}
use Rattle.diag_gate.specs.Views.{own_if, own_of, naming, listed, host_without, new_seat}
use Rattle.diag_gate.specs.Seats.{HostView, seat_as, of_host, was_given, AllHome, gave, fresh, Gave, Closed, IsHost}
use Rattle.diag_gate.specs.Rule.{run, Kept}
use Rattle.diag_gate.specs.Plays.{Sat}
use Rattle.diag_gate.proofs.Keeps.{closes}

-- what a contract sees of a host
abbrev pub seen_as : TableId → Sat → List Bool → HostView
seen_as z me given = record { gate = z; opening = me.0.opening; seen = me.0.seen; owns = me.0.owns; given = given }

pub some_of : {X : Type 0} (o : Option X) → is_some o ≡ true → (x : X) × (o ≡ Some x)
some_of (Some x) e = (x, refl)
some_of None e = absurd (cc)

-- a tester that was not given out is with the host
pub host_has : (me : Sat) (given home : List Bool) → IsHost me given home → (t : ℕ) → t < 9 → get_or given t false ≡ false
    → (l : List Timed) × (get_or me.0.owns t None ≡ Some l)
host_has me given home is t h not_yet = some_of (get_or me.0.owns t None) (sym (is.here t h) ∙ is.left t h not_yet)

-- the host names a tester and gives it out
module _ (me : Sat) (given home : List Bool) (is : IsHost me given home) (who named at : ℕ) (low : who < 9) (named_is : named ≡ who)
    (at_is : at ≡ who) (me1 me2 : Sat) (first : me1 ≡ (naming me.0 named, me.1)) (second : me2 ≡ (host_without me1.0, me1.1)) where
  v1_is : me1.0 ≡ naming me.0 named
  v1_is = ap (λ (m : Sat). m.0) first

  v2_is : me2.0 ≡ host_without (naming me.0 named)
  v2_is = ap (λ (m : Sat). m.0) second ∙ ap host_without v1_is

  owns_are : me2.0.owns ≡ set me.0.owns who None
  owns_are = ap (λ (v : View). v.owns) v2_is ∙ ap (λ (t : ℕ). set me.0.owns t None) named_is

  pub named_has : (l : List Timed) → get_or me.0.owns who None ≡ Some l → own_of me1.0 me1.0.who ≡ Some l
  named_has l e = ap (λ (v : View). own_of v v.who) v1_is ∙ ap (λ b. own_if b named me.0.own me.0.owns named) (ap (λ (m : Sat). m.0.is_seat) is.is)
      ∙ ap (λ (t : ℕ). get_or me.0.owns t None) named_is ∙ e

  pub gave_is : (h : HostView) (z z2 zs : TableId) (mine : Sat) → seen_as z me given ≡ h → get_or given at false ≡ false → mine ≡ (new_seat me1.0, [])
      → z2 ≡ z → zs ≡ z
      → Gave h (seen_as z2 me2 (set given at true)) who (seat_as zs who 0 mine)
  gave_is h z z2 zs mine e not_yet third same2 same_s =
      let not_given : get_or given who false ≡ false = sym (ap (λ (t : ℕ). get_or given t false) at_is) ∙ not_yet in
      let has = host_has me given home is who low not_given in
      let l = has.0 in
      let old = seen_as z me given in
      let m_is : mine.0 ≡ new_seat me1.0 = ap (λ (m : Sat). m.0) third in
      let own_is : mine.0.own ≡ l = ap (λ (v : View). v.own) m_is ∙ ap listed (named_has l has.1) in
      let opening_is : mine.0.opening ≡ me.0.opening = ap (λ (v : View). v.opening) m_is ∙ ap (λ (v : View). v.opening) v1_is in
      let seen_is : mine.0.seen ≡ me.0.seen = ap (λ (v : View). v.seen) m_is ∙ ap (λ (v : View). v.seen) v1_is in
      let missed_is : mine.0.missed ≡ 0 = ap (λ (v : View). v.missed) m_is in
      let s_is : seat_as zs who 0 mine ≡ fresh old who l =
      λ i. record { gate = same_s i; who = who; opening = opening_is i; own = own_is i; seen = seen_is i; delay = 0; missed = missed_is i } in
      let n_is : seen_as z2 me2 (set given at true) ≡ gave old who = λ i. record {
        gate = same2 i;
        opening = ap (λ (v : View). v.opening) v2_is i;
        seen = ap (λ (v : View). v.seen) v2_is i;
        owns = owns_are i;
        given = ap (λ (t : ℕ). set given t true) at_is i;
      } in record {
        mine = l;
        before = ap (λ (x : HostView). was_given x who) (sym e) ∙ not_given;
        had = ap (λ (x : HostView). of_host x who) (sym e) ∙ has.1;
        seat = s_is ∙ ap (λ (x : HostView). fresh x who l) e;
        host = n_is ∙ ap (λ (x : HostView). gave x who) e;
      }

-- the desk that was left in the slot
pub record Left (h : HostView) (desk : Option Run) : Type 0 where
  pub run_is : Run
  pub there : desk ≡ Some run_is
  pub closed : Closed h run_is

pub left_is : (h : HostView) (z : TableId) (id : ℕ) (me : Sat) (given home : List Bool) (words : List ℕ) (slots : List (Option Run))
    (desk : Option Run) → seen_as z me given ≡ h → IsHost me given home → AllHome h
    → Final (Seen Kept id me.0) words slots → get_elem? slots 0 ≡ some desk → Left h desk
left_is h z id me given home words slots desk e is all final taken =
    let host = ap (λ (m : Sat). m.0.is_seat) is.is in
    let has : (t : ℕ) → t < 9 → (l : List Timed) × (own_of me.0 t ≡ Some l) = λ t low. let o = some_of (of_host h t) (all t low) in
    (o.0, ap (λ b. own_if b me.0.who me.0.own me.0.owns t) host ∙ ap (λ (x : HostView). of_host x t) e ∙ o.1) in
    let at_end = closes id me.0 final.0 final.1 (ap (λ (m : Sat). m.0.live) is.is) (ap (λ (m : Sat). m.0.holds) is.is) has in
    let there : desk ≡ Some (run me.0.opening at_end.journal) = some-injective _ _ (sym taken ∙ final.4 0 _ at_end.desk) in record {
      run_is = run me.0.opening at_end.journal;
      there = there;
      closed = record {
        opening = ap (λ (x : HostView). x.opening) e;
        legal = subst (λ (x : HostView). Legal x.opening at_end.journal) e at_end.legal;
        begins = subst (λ (x : HostView). BeginsWith at_end.journal x.seen) e at_end.begins;
        owns = λ t l f. at_end.owns t l (ap (λ b. own_if b me.0.who me.0.own me.0.owns t) host ∙ ap (λ (x : HostView). of_host x t) e ∙ f);
      };
    }
