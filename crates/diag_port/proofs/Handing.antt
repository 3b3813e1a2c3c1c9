-- Frames that a link hands out one by one.
use Rattle.std.proofs.Common.{◌≡◌, ◌≤◌, ℕ, min, List, [], ◌∷◌, ◌++◌, refl, ap, subst, sym, ◌∙◌, append_assoc, arith}
use Rattle.std.proofs.lemmas.List.{append-nil}
use Rattle.diag_can.specs.Event.{Event}
use Rattle.diag_can.specs.declared.frame.Frame.{Frame}
use Rattle.diag_pdu.specs.declared.setup.LinkSetup.{LinkSetup}
use Rattle.diag_tp.specs.declared.sent.Sent.{Sent}
use Rattle.diag_tp.specs.Moments.{last_time}
use Rattle.diag_tp.specs.Wire.{Placed, wire}
use Rattle.diag_tp.specs.State.{LinkState}
use Rattle.diag_tp.specs.Link.{EachHistory, HandsOut, StandsFor, last_tick}
use Rattle.diag_port.specs.Port.{AreWithin, Grew, SentDue}
use Rattle.diag_port.proofs.Within.{within_none, within_append, within_one, within_wider}

-- these frames were handed out so far, all at this time
abbrev pub Handed : LinkState → LinkState → ℕ → List Sent → Type 0
Handed start link at more =
    AreWithin at at more
    × ((s : LinkSetup) (E : List Event) (A : List Placed) (Q : List Sent) → StandsFor s start E A Q → last_time E ≤ last_tick
    → StandsFor s link E A (Q ++ more) × (at ≡ last_time E))

pub handed_none : (link : LinkState) (at : ℕ) (out : List Sent) → EachHistory link (λ s E A Q. at ≡ min (last_time E) last_tick)
    → Grew out out (Handed link link at)
handed_none link at out told = record {
  more = [];
  grown = sym (append-nil out);
  holds = (
    within_none _ _,
    λ s E A Q h time. (
      subst (λ Q'. StandsFor s link E A Q') (sym (append-nil Q)) h,
      omega (arith, told s E A Q h, time),
    ),
  );
}

pub handed_one : (start link next : LinkState) (at : ℕ) (frame : Frame) (out out' out'' : List Sent) → Grew out out' (Handed start link at)
    → out'' ≡ out' ++ record { at = at; frame = frame } ∷ [] → HandsOut link next frame → Grew out out'' (Handed start next at)
handed_one start link next at frame out out' out'' grew is goes =
    let sent : Sent = record { at = at; frame = frame } in
    let more = grew.more in
    record {
      more = more ++ sent ∷ [];
      grown = is ∙ (ap (λ w. w ++ sent ∷ []) grew.grown ∙ append_assoc out more (sent ∷ []));
      holds = (
        within_append at at more (sent ∷ []) grew.holds.0 (within_one sent at refl),
        λ s E A Q h time.
            let old = grew.holds.1 s E A Q h time in
            let then = goes s E A (Q ++ more) old.0 in (
              subst (λ Q'. StandsFor s next E A Q') (append_assoc Q more (sent ∷ []))
                  (subst (λ t. StandsFor s next E A ((Q ++ more) ++ record { at = t; frame = frame } ∷ [])) (sym old.1) then),
              old.1,
            ),
      );
    }

-- and they are all
pub handed_all : (start link : LinkState) (at : ℕ) (out out' : List Sent) → Grew out out' (Handed start link at)
    → at ≡ start.now → link.now ≡ start.now → EachHistory link (λ s E A Q. Q ≡ wire s E A) → Grew out out' (SentDue start link)
handed_all start link at out out' grew here time all = record {
  more = grew.more;
  grown = grew.grown;
  holds = (
    within_wider at at start.now link.now grew.more grew.holds.0 (omega (arith, here)) (omega (arith, here, time)),
    λ s E A Q h early.
        let old = grew.holds.1 s E A Q h early in
        record { stands = old.0; all = all s E A (Q ++ grew.more) old.0 },
  );
}
