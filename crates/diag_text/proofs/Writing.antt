-- A text that goes out piece by piece.
use Rattle.std.proofs.Common.{◌≡◌, ℕ, ◌+◌, ◌-◌, List, ◌∷◌, ◌++◌, length, take, drop, Option, Result, Ok, Err, OnErr, sym, ap, ◌∙◌, append_assoc, take-append-drop}
use Rattle.std.proofs.lemmas.List.{take_rest}
use Rattle.std.proofs.Math.Seq.{take-add}
use Rattle.std.specs.Io.KnownBytes.{Appends, Keeps}
use Rattle.std.specs.List.{concat}
use Rattle.std.proofs.KnownBytes.{Appends-trans, Appends-kept}
use Rattle.diag_text.specs.Bytes.{AppendsFront}

module _ (a b c : Option (List ℕ)) (text : List ℕ) (at : ℕ) (before : Appends a b (take at text)) where
  -- nothing more went out
  pub AppendsFront-kept : Keeps b c → AppendsFront a c text
  AppendsFront-kept kept = (take at text, drop at text, sym (take-append-drop at text), Appends-kept a b c (take at text) before kept)

  -- n bytes of the rest of the text went out
  pub Appends-more : (n : ℕ) → Appends b c (take n (take (length text - at) (drop at text))) → Appends a c (take (at + n) text)
  Appends-more n more =
      rw (take-add at n text) (Appends-trans a b c (take at text) (take n (drop at text)) before (rw (take_rest text at) at more))

  pub AppendsFront-more : (n : ℕ) → Appends b c (take n (take (length text - at) (drop at text))) → AppendsFront a c text
  AppendsFront-more n more = (take (at + n) text, drop (at + n) text, sym (take-append-drop (at + n) text), Appends-more n more)

-- the parts before number i went out
pub record WroteParts (a b : Option (List ℕ)) (parts : List (List ℕ)) (i : ℕ) : Type 0 where
  pub done : List ℕ
  pub whole : done ++ concat (drop i parts) ≡ concat parts
  pub sent : Appends a b done

module _ (a b : Option (List ℕ)) (parts : List (List ℕ)) (i : ℕ) (before : WroteParts a b parts i) where
  module _ (c : Option (List ℕ)) (part : List ℕ) (next : drop i parts ≡ part ∷ drop (i + 1) parts) where
    -- a part more went out
    pub part_more : Appends b c part → WroteParts a c parts (i + 1)
    part_more more = record {
      done = before.done ++ part;
      whole = append_assoc before.done part (concat (drop (i + 1) parts)) ∙ rw next at before.whole;
      sent = Appends-trans a b c before.done part before.sent more;
    }

    -- a front of a part went out
    pub part_front : AppendsFront b c part → AppendsFront a c (concat parts)
    part_front more =
        let front = more.0 in
        let rest = more.1 in
        let after = concat (drop (i + 1) parts) in
        let whole : before.done ++ (part ++ after) ≡ concat parts = rw next at before.whole in
        let split : before.done ++ ((front ++ rest) ++ after) ≡ concat parts = rw more.2 at whole in (
          before.done ++ front,
          rest ++ after,
          sym split ∙ ap (λ xs. before.done ++ xs) (append_assoc front rest after) ∙ sym (append_assoc before.done front (rest ++ after)),
          Appends-trans a b c before.done front before.sent more.3,
        )

-- what holds anyhow holds after a fault
pub on_fault : {T E P : Type 0} (r : Result T E) → P → OnErr r P
on_fault (Ok x) p = tt
on_fault (Err e) p = p
