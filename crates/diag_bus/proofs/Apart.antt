-- What is kept of a tester's frames, with a frame more.
use Rattle.std.proofs.Common.{◌≡◌, ◌≢◌, ℕ, Bool, true, false, Option, Some, None, List, [], ◌∷◌, ◌++◌, drop, map, inl, inr, refl, ap, ap₂, subst, sym, ◌∙◌, append_assoc}
use Rattle.std.proofs.lemmas.List.{append-nil, map-append}
use Rattle.std.proofs.lemmas.Option.{none-some, same_Some}
use Rattle.std.proofs.lemmas.Slice.Eq.{bytes_eq-Decides}
use Rattle.std.specs.Prelude.{bytes_eq, is_some, if◌then◌else◌, slice_get}
use Rattle.diag_ecu.proofs.Unlocking.{bytes_same}
use Rattle.diag_bus.specs.Comparing.{Apart, OneIsEmpty, Part}
use Rattle.diag_bus.specs.Verdict.{bytes_of, difference}
use Rattle.diag_bus.specs.declared.comparing.Comparison.{Comparison}
use Rattle.diag_bus.specs.declared.verdict.Recorded.{Recorded}
use Rattle.diag_bus.specs.declared.verdict.Difference.{Difference}

pub bytes_self : (xs : List ℕ) → bytes_eq xs xs ≡ true
bytes_self xs = (bytes_eq-Decides xs xs).1 refl

pub none_is : {X : Type 0} (o : Option X) → is_some o ≡ false → o ≡ None
none_is None e = refl
none_is (Some x) e = cc

pub bytes_other : (a b : List ℕ) → a ≢ b → bytes_eq a b ≡ false
bytes_other a b other =
    (elim (bytes_eq a b) as (λ t. bytes_eq a b ≡ t → t ≡ false) [
      | true ↦ λ same. absurd (other (bytes_same a b same))
      | false ↦ λ same. refl
    ]) refl

-- a list by its first item
pub by_front : {X : Type 0} (xs : List X) (x : X) → slice_get xs 0 ≡ Some x → xs ≡ x ∷ drop 1 xs
by_front [] x there = absurd (none-some x there)
by_front (y ∷ xs) x there = ap (λ (z : _). z ∷ xs) (same_Some _ _ there)

-- a frame beside the bytes that are expected at its index
abbrev pub differs_by : Recorded → Option (List ℕ) → Difference
differs_by frame wanted = record { line = frame.line; sent = frame.bytes; expected = wanted }

-- what both have in front makes no difference
pub difference-both : (both frames : List Recorded) (others : List (List ℕ))
    → difference (both ++ frames) (map bytes_of both ++ others) ≡ difference frames others
difference-both [] frames others = refl
difference-both (f ∷ both) frames others =
    ap (λ (b : Bool). if b then difference (both ++ frames) (map bytes_of both ++ others) else Some (differs_by f (Some f.bytes))) (bytes_self f.bytes)
    ∙ difference-both both frames others

difference-other : (frame : Recorded) (bytes : List ℕ) (frames : List Recorded) (others : List (List ℕ)) → bytes_eq frame.bytes bytes ≡ false
    → difference (frame ∷ frames) (bytes ∷ others) ≡ Some (differs_by frame (Some bytes))
difference-other frame bytes frames others other =
    ap (λ (b : Bool). if b then difference frames others else Some (differs_by frame (Some bytes))) other

module _ (frame : Recorded) (bytes : List ℕ) (ahead : List Recorded) (behind : List (List ℕ)) (recorded : List Recorded) (expected : List (List ℕ))
    (part : Part (frame ∷ ahead) (bytes ∷ behind) recorded expected) where
  -- the two frames at one index are equal
  pub part_on : frame.bytes ≡ bytes → Part ahead behind recorded expected
  part_on same = record {
    both = part.both ++ frame ∷ [];
    front = part.front ∙ sym (append_assoc part.both (frame ∷ []) ahead);
    back =
        part.back
        ∙ (ap (λ (b : List ℕ). map bytes_of part.both ++ b ∷ behind) (sym same)
        ∙ (sym (append_assoc (map bytes_of part.both) (frame.bytes ∷ []) behind)
        ∙ ap (λ (w : List (List ℕ)). w ++ behind) (sym (map-append bytes_of part.both (frame ∷ [])))));
  }

  -- they are not, and nothing that follows changes that
  pub part_ends : bytes_eq frame.bytes bytes ≡ false → (frames : List Recorded) (others : List (List ℕ))
      → difference (recorded ++ frames) (expected ++ others) ≡ Some (differs_by frame (Some bytes))
  part_ends other frames others =
      ap₂ (λ (r : List Recorded) (e : List (List ℕ)). difference (r ++ frames) (e ++ others)) part.front part.back
      ∙ (ap₂ difference (append_assoc part.both (frame ∷ ahead) frames) (append_assoc (map bytes_of part.both) (bytes ∷ behind) others)
      ∙ (difference-both part.both (frame ∷ (ahead ++ frames)) (bytes ∷ (behind ++ others))
      ∙ difference-other frame bytes (ahead ++ frames) (behind ++ others) other))

-- ---- a frame that is compared with the first of those that are kept

module _ (kept : Comparison) (recorded : List Recorded) (expected : List (List ℕ)) (none : kept.difference ≡ None)
    (apart : Apart kept.difference kept.ahead.items kept.behind.items recorded expected) where
  gap : Part kept.ahead.items kept.behind.items recorded expected × OneIsEmpty kept.ahead.items kept.behind.items
  gap = subst (λ d. Apart d kept.ahead.items kept.behind.items recorded expected) none apart

  -- where some are kept of one, none are of the other
  other_behind : (frame : Recorded) (rest : List Recorded) → kept.ahead.items ≡ frame ∷ rest → kept.behind.items ≡ []
  other_behind frame rest some = elim gap.1 [
    | inl e ↦ cc
    | inr e ↦ e
  ]

  other_ahead : (bytes : List ℕ) (rest : List (List ℕ)) → kept.behind.items ≡ bytes ∷ rest → kept.ahead.items ≡ []
  other_ahead bytes rest some = elim gap.1 [
    | inl e ↦ e
    | inr e ↦ cc
  ]

  -- the server sends a frame that the recording has had
  pub expected_next : (frame : Recorded) (rest : List Recorded) (bytes : List ℕ) → kept.ahead.items ≡ frame ∷ rest
      → Part (frame ∷ rest) (bytes ∷ kept.behind.items) recorded (expected ++ bytes ∷ []) × OneIsEmpty rest kept.behind.items
  expected_next frame rest bytes some =
      let part = gap.0 in
      let empty = other_behind frame rest some in (
        record {
          both = part.both;
          front = part.front ∙ ap (λ (a : List Recorded). part.both ++ a) some;
          back =
              ap (λ (e : List (List ℕ)). e ++ bytes ∷ [])
              (part.back ∙ (ap (λ (b : List (List ℕ)). map bytes_of part.both ++ b) empty ∙ append-nil (map bytes_of part.both)))
              ∙ ap (λ (b : List (List ℕ)). map bytes_of part.both ++ bytes ∷ b) (sym empty);
        },
        inr empty,
      )

  -- the recording has a frame that the server has sent
  pub recorded_next : (bytes : List ℕ) (rest : List (List ℕ)) (frame : Recorded) → kept.behind.items ≡ bytes ∷ rest
      → Part (frame ∷ kept.ahead.items) (bytes ∷ rest) (recorded ++ frame ∷ []) expected × OneIsEmpty kept.ahead.items rest
  recorded_next bytes rest frame some =
      let part = gap.0 in
      let empty = other_ahead bytes rest some in (
        record {
          both = part.both;
          front =
              ap (λ (r : List Recorded). r ++ frame ∷ []) (part.front ∙ (ap (λ (a : List Recorded). part.both ++ a) empty ∙ append-nil part.both))
              ∙ ap (λ (a : List Recorded). part.both ++ frame ∷ a) (sym empty);
          back = part.back ∙ ap (λ (b : List (List ℕ)). map bytes_of part.both ++ b) some;
        },
        inl empty,
      )
