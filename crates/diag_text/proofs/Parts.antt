-- The reply lines of a part of what one tester was sent.
use Rattle.std.proofs.Common.{◌≡◌, ℕ, suc, zero, ◌+◌, ◌-◌, ◌<◌, ◌≤◌, List, [], ◌∷◌, ◌++◌, length, take, drop, Some, refl, sym, ap, ◌∙◌, append_assoc, append-nil, arith}
use Rattle.std.specs.Prelude.{slice_get}
use Rattle.std.proofs.lemmas.Grind.{flat_map-append}
use Rattle.std.proofs.lemmas.List.{drop_all, drop-drop, drop_more, take_all}
use Rattle.std.proofs.lemmas.Option.{get_or_from_slice_get, slice_get_within}
use Rattle.std.proofs.Math.Seq.{take-add}
use Rattle.diag_can.specs.Reply.{reply_line}
use Rattle.diag_can.specs.WriterView.{WriterView}
use Rattle.diag_tp.specs.declared.sent.Sent.{Sent}
use Rattle.diag_text.specs.Text.{lines_of}

abbrev pub line_of : WriterView → Sent → List ℕ
line_of w s = reply_line w.name w.flags s.at s.frame

module _ (w : WriterView) (sent : List Sent) where
  -- both halves are all
  pub halves_lines : (from mid end : ℕ) → from ≤ mid → mid ≤ end
      → lines_of w (take (mid - from) (drop from sent)) ++ lines_of w (take (end - mid) (drop mid sent)) ≡ lines_of w (take (end - from) (drop from sent))
  halves_lines from mid end low high =
      let rest = drop from sent in
      let all : end - from ≡ (mid - from) + (end - mid) = omega (arith, low, high) in
      let seam : from + (mid - from) ≡ mid = omega (arith, low) in
      sym (ap (λ n. lines_of w (take n rest)) all
      ∙ (ap (lines_of w) (take-add (mid - from) (end - mid) rest)
      ∙ (flat_map-append (line_of w) (take (mid - from) rest) (take (end - mid) (drop (mid - from) rest))
      ∙ ap (λ (l : List Sent). lines_of w (take (mid - from) rest) ++ lines_of w (take (end - mid) l))
      (drop-drop (mid - from) from sent ∙ ap (λ k. drop k sent) seam))))

  frame_here : (index : ℕ) (s : Sent) → slice_get sent index ≡ Some s → drop index sent ≡ s ∷ drop (index + 1) sent
  frame_here index s at =
      drop_more sent index s (slice_get_within sent index s at)
      ∙ ap (λ (x : Sent). x ∷ drop (index + 1) sent) (get_or_from_slice_get sent index s s at)

  -- a frame, and those behind it
  pub part_here : (index left : ℕ) (s : Sent) → 0 < left → slice_get sent index ≡ Some s
      → lines_of w (take left (drop index sent)) ≡ line_of w s ++ lines_of w (take (left - 1) (drop (index + 1) sent))
  part_here index left s some at =
      ap (λ (l : List Sent). lines_of w (take left l)) (frame_here index s at) ∙ step left some
    where
      step : (n : ℕ) → 0 < n → lines_of w (take n (s ∷ drop (index + 1) sent)) ≡ line_of w s ++ lines_of w (take (n - 1) (drop (index + 1) sent))
      step zero none = absurd (omega (arith, none))
      step (suc n) more =
          let e : suc n - 1 ≡ n = omega arith in
          rw e refl

  -- the frame at the index is written, and so many are left behind it
  pub part_more : (index left next : ℕ) (s : Sent) (own : WriterView) (text text' total : List ℕ) → left ≡ next + 1 → slice_get sent index ≡ Some s
      → own ≡ w → text' ≡ text ++ line_of own s → text ++ lines_of w (take left (drop index sent)) ≡ total
      → text' ++ lines_of w (take next (drop (index + 1) sent)) ≡ total
  part_more index left next s own text text' total count at same more was =
      let one : left - 1 ≡ next = omega (arith, count) in
      let some : 0 < left = omega (arith, count) in
      let rest = lines_of w (take next (drop (index + 1) sent)) in
      ap (λ (t : List ℕ). t ++ rest) (more ∙ ap (λ (x : WriterView). text ++ line_of x s) same)
      ∙ (append_assoc text (line_of w s) rest
      ∙ (ap (λ (t : List ℕ). text ++ t) (ap (λ n. line_of w s ++ lines_of w (take n (drop (index + 1) sent))) (sym one) ∙ sym (part_here index left s some at)) ∙ was))

  -- no frame is left
  pub part_done : (index left : ℕ) (text total : List ℕ) → left ≡ 0 → text ++ lines_of w (take left (drop index sent)) ≡ total → text ≡ total
  part_done index left text total none was =
      sym (append-nil text) ∙ (ap (λ n. text ++ lines_of w (take n (drop index sent))) (sym none) ∙ was)

  -- the frame at the index is written, and all behind it are left
  pub all_more : (index : ℕ) (s : Sent) (own : WriterView) (text text' total : List ℕ) → slice_get sent index ≡ Some s → own ≡ w
      → text' ≡ text ++ line_of own s → text ++ lines_of w (drop index sent) ≡ total → text' ++ lines_of w (drop (index + 1) sent) ≡ total
  all_more index s own text text' total at same more was =
      let rest = lines_of w (drop (index + 1) sent) in
      ap (λ (t : List ℕ). t ++ rest) (more ∙ ap (λ (x : WriterView). text ++ line_of x s) same)
      ∙ (append_assoc text (line_of w s) rest ∙ (ap (λ (l : List Sent). text ++ lines_of w l) (sym (frame_here index s at)) ∙ was))

  pub all_done : (index : ℕ) (text total : List ℕ) → length sent ≤ index → text ++ lines_of w (drop index sent) ≡ total → text ≡ total
  all_done index text total past was =
      sym (append-nil text) ∙ (ap (λ (l : List Sent). text ++ lines_of w l) (sym (drop_all index sent past)) ∙ was)

  -- a whole list is a part of itself
  pub whole_lines : (from end : ℕ) → from ≡ 0 → end ≡ length sent → lines_of w (take (end - from) (drop from sent)) ≡ lines_of w sent
  whole_lines from end first all =
      let whole : end - 0 ≡ end = omega arith in
      ap (λ k. lines_of w (take (end - k) (drop k sent))) first
      ∙ (ap (λ k. lines_of w (take k sent)) whole ∙ ap (lines_of w) (take_all end sent (omega (arith, all))))
