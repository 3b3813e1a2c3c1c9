-- What one more event makes of the messages of the replies.
use Rattle.std.proofs.Common.{◌≡◌, ◌+◌, Some, None, List, [], ◌∷◌, ◌++◌, length, map, refl, ap, ap₂, sym, ◌∙◌, append_assoc, arith}
use Rattle.std.proofs.lemmas.List.{length-map, append-nil, length-append}
use Rattle.std.proofs.lemmas.Grind.{flat_map-append}
use Rattle.std.specs.List.{flat_map, zip}
use Rattle.std.specs.Option.{option_to_list}
use Rattle.diag_can.specs.Event.{Event}
use Rattle.diag_pdu.specs.declared.step.Step.{Step}
use Rattle.diag_pdu.specs.declared.setup.LinkSetup.{LinkSetup}
use Rattle.diag_tp.specs.Gives.{gives, steps, steps_after}
use Rattle.diag_tp.specs.Moments.{last_moment, last_time}
use Rattle.diag_port.specs.declared.pace.Pace.{Pace}
use Rattle.diag_port.specs.Late.{asked_at, laters}
use Rattle.diag_desk.specs.Timed.{Timed}
use Rattle.diag_port.specs.Releasing.{Mark, late_at, lates, mark_of, marks, marks_after, sid_of}

-- of an event that gives a step, its mark
abbrev here : LinkSetup → List Event → Event → List Mark
here s p e = map (λ step. mark_of (p ++ e ∷ [])) (option_to_list (gives s p e))

marks_after-append : (s : LinkSetup) (p xs ys : List Event)
    → marks_after s p (xs ++ ys) ≡ marks_after s p xs ++ marks_after s (p ++ xs) ys
marks_after-append s p [] ys = ap (λ q. marks_after s q ys) (sym (append-nil p))
marks_after-append s p (x ∷ xs) ys =
    ap (λ w. here s p x ++ w) (marks_after-append s (p ++ x ∷ []) xs ys
    ∙ ap (λ q. marks_after s (p ++ x ∷ []) xs ++ marks_after s q ys) (append_assoc p (x ∷ []) xs))
    ∙ sym (append_assoc (here s p x) (marks_after s (p ++ x ∷ []) xs) (marks_after s (p ++ x ∷ xs) ys))

-- each step has its mark
pub length-marks : (s : LinkSetup) (p E : List Event) → length (marks_after s p E) ≡ length (steps_after s p E)
length-marks s p [] = refl
length-marks s p (e ∷ E) =
    let now = option_to_list (gives s p e) in
    length-append (here s p e) (marks_after s (p ++ e ∷ []) E)
    ∙ (ap₂ ◌+◌ (length-map now (λ step. mark_of (p ++ e ∷ []))) (length-marks s (p ++ e ∷ []) E)
    ∙ sym (length-append now (steps_after s (p ++ e ∷ []) E)))

zip-append : {A B : Type 0} (xs cs : List A) (bs ds : List B) → length xs ≡ length bs → zip (xs ++ cs) (bs ++ ds) ≡ zip xs bs ++ zip cs ds
zip-append [] cs [] ds h = refl
zip-append [] cs (b ∷ bs) ds h = absurd (omega (arith, h))
zip-append (a ∷ xs) cs [] ds h = absurd (omega (arith, h))
zip-append (a ∷ xs) cs (b ∷ bs) ds h = let shorter : length xs ≡ length bs = omega arith in ap (λ w. (a, b) ∷ w) (zip-append xs cs bs ds shorter)

marks_push : (s : LinkSetup) (E : List Event) (e : Event) → marks s (E ++ e ∷ []) ≡ marks s E ++ here s E e
marks_push s E e = marks_after-append s [] E (e ∷ []) ∙ ap (λ w. marks s E ++ w) (append-nil (here s E e))

-- an event that gives nothing asks for no message
pub lates_quiet : (s : LinkSetup) (pace : Pace) (E : List Event) (e : Event) (T : List Timed) → gives s E e ≡ None
    → lates s pace (E ++ e ∷ []) T ≡ lates s pace E T
lates_quiet s pace E e T none =
    let same : marks s (E ++ e ∷ []) ≡ marks s E =
    marks_push s E e ∙ (ap (λ o. marks s E ++ map (λ step. mark_of (E ++ e ∷ [])) (option_to_list o)) none ∙ append-nil (marks s E)) in
    ap (λ m. flat_map (λ (p : Mark × Timed). late_at pace p.0 p.1) (zip m T)) same

-- an event that gives a step asks for the messages of its reply
pub lates_push : (s : LinkSetup) (pace : Pace) (E : List Event) (e : Event) (T : List Timed) (r : Timed) (x : Step)
    → length (steps s E) ≡ length T → gives s E e ≡ Some x
    → lates s pace (E ++ e ∷ []) (T ++ r ∷ [])
    ≡ lates s pace E T ++ asked_at (last_moment (E ++ e ∷ [])) (laters pace (last_time (E ++ e ∷ [])) r.after (sid_of r.entry.step) r.entry.reply)
lates_push s pace E e T r x same some =
    let at = λ (p : Mark × Timed). late_at pace p.0 p.1 in
    let m = mark_of (E ++ e ∷ []) in
    let grown : marks s (E ++ e ∷ []) ≡ marks s E ++ m ∷ [] =
    marks_push s E e ∙ ap (λ o. marks s E ++ map (λ step. mark_of (E ++ e ∷ [])) (option_to_list o)) some in
    ap (λ ms. flat_map at (zip ms (T ++ r ∷ []))) grown
    ∙ (ap (flat_map at) (zip-append (marks s E) (m ∷ []) T (r ∷ []) (length-marks s [] E ∙ same))
    ∙ (flat_map-append at (zip (marks s E) T) ((m, r) ∷ [])
    ∙ ap (λ w. lates s pace E T ++ w) (append-nil (late_at pace m r))))
