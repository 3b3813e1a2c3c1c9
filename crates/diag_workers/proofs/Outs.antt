-- One seat more given out.
use Rattle.std.proofs.Common.{◌≡◌, ◌≢◌, ◌⊎◌, inl, inr, ℕ, ◌+◌, ◌<◌, List, [], ◌∷◌, ◌++◌, length, get_or, set, sym, ap, ◌∙◌, arith, None, true, false, get_or-set_other, length-append, length-set}
use Rattle.std.proofs.Math.ListN.{get_or-append}
use Rattle.std.proofs.Math.Seq.{get_or-append_seam}
use mathlib.Core.Logic.{dite}
use native.Mathlib.Decide.{ℕ_discrete}
use Rattle.diag_gate.specs.Seats.{SeatView, HostView, of_host, fresh, Gave}
use Rattle.diag_workers.specs.Seating.{Out}

later : (t k : ℕ) → (t ≡ 0) ⊎ (k + 1 < t) → (t ≡ 0) ⊎ (k < t)
later t k (inl e) = inl e
later t k (inr lt) = inr (omega arith)

other : (t k : ℕ) → (t ≡ 0) ⊎ (k + 1 < t) → t ≢ k + 1
other t k (inl e) = λ f. omega arith
other t k (inr lt) = λ f. omega arith

pub out_more : (h n m : HostView) (k : ℕ) (seats : List SeatView) (s : SeatView) → Out h n k seats → Gave n m (k + 1) s → Out h m (k + 1) (seats ++ s ∷ [])
out_more h n m k seats s o g =
    let many = o.many in
    let owns : m.owns ≡ set n.owns (k + 1) None = ap (λ (x : HostView). x.owns) g.host in
    let given : m.given ≡ set n.given (k + 1) true = ap (λ (x : HostView). x.given) g.host in
    let at = o.rest (k + 1) (inr (let lt : k < k + 1 = omega arith in lt)) in
    let s_is : s ≡ fresh h (k + 1) g.mine = g.seat
    ∙ (λ i. record { gate = o.same.0 i; who = k + 1; opening = o.same.1 i; own = g.mine; seen = o.same.2 i; delay = 0; missed = 0 }) in record {
      same = (
        ap (λ (x : HostView). x.gate) g.host ∙ o.same.0,
        ap (λ (x : HostView). x.opening) g.host
            ∙ o.same.1,
        ap (λ (x : HostView). x.seen) g.host ∙ o.same.2,
      );
      wide = ap length owns ∙ length-set n.owns (k + 1) None ∙ o.wide;
      many = length-append seats (s ∷ []) ∙ ap (λ (x : ℕ). x + 1) many;
      each = λ j d low. dite (ℕ_discrete j k)
          (λ e. (
            g.mine,
            ap (λ (x : ℕ). of_host h (x + 1)) e ∙ sym at.0
                ∙ g.had,
            (ap (λ (x : ℕ). get_or (seats ++ s ∷ []) x d) (e ∙ sym many) ∙ get_or-append_seam seats s [] d) ∙ s_is
                ∙ ap (λ (x : ℕ). fresh h (x + 1) g.mine) (sym e),
          ))
          (λ not. let f = o.each j d (omega arith) in (f.0, f.1, get_or-append seats (s ∷ []) d j (omega arith) ∙ f.2));
      rest = λ t e. let r = o.rest t (later t k e) in (
        ap (λ l. get_or l t None) owns ∙ get_or-set_other n.owns (k + 1) t None None (other t k e) ∙ r.0,
        ap (λ l. get_or l t false) given ∙ get_or-set_other n.given (k + 1) t true false (other t k e) ∙ r.1,
      );
    }
