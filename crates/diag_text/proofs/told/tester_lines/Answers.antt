use Rattle.std.proofs.Common.{◌≡◌, ◌≤◌, ◌+◌, ◌++◌, ℕ, List, [], ◌∷◌, codes, decimal, length, ap, ap₂, sym, ◌∙◌, arith}
use Rattle.std.proofs.lemmas.Grind.{flat_map-append}
use Rattle.std.proofs.lemmas.List.{append-nil}
use Rattle.std.specs.List.{flat_map}
use Rattle.diag_pdu.specs.Cut.{counted_from}
use Rattle.diag_setup.specs.Setup.{name_of}
use Rattle.diag_bus.specs.Verdict.{agreed_line, recorded}
use Rattle.diag_world.proofs.Waiting.{counted_more}
use Rattle.diag_text.proofs.told.tester_lines.Goals as goal

line_more : (f : ℕ → List ℕ) (n : ℕ) → flat_map f (counted_from 1 (n + 1)) ≡ flat_map f (counted_from 1 n) ++ f (n + 1)
line_more f n =
    let next : 1 + n ≡ n + 1 = omega arith in
    ap (flat_map f) (counted_more 1 n)
    ∙ (flat_map-append f (counted_from 1 n) ((1 + n) ∷ [])
    ∙ (ap (λ w. flat_map f (counted_from 1 n) ++ w) (append-nil (f (1 + n))) ∙ ap (λ k. flat_map f (counted_from 1 n) ++ f k) next))

pub loop-index-preserved : goal.loop-index-preserved
loop-index-preserved c = λ lines h.
    let i = c.loop-index.index in
    let setup = c.args.setup.now in
    let who = c.who-who.ensures in
    let within : i + 1 ≤ length setup.testers = omega (arith, c.loop-index-test.true, c.testers-index-end.ensures.same) in
    let name : c.name.result.now ≡ name_of setup (i + 1) = c.name.ensures ∙ ap (name_of setup) who in
    let count : c.recorded.result ≡ length (recorded setup lines (i + 1)) =
    c.recorded.ensures setup lines h (omega (arith, who, within)) ∙ ap (λ t. length (recorded setup lines t)) who in
    let all = flat_map (agreed_line setup lines) (counted_from 1 i) in
    c.in_ok-add_agreement.ensures
    ∙ (ap (λ (w : List ℕ). w ++ (c.name.result.now ++ codes " " ++ decimal c.recorded.result ++ codes " frames agree\n")) (c.loop-index.invariant lines h)
    ∙ (ap₂ (λ (n : List ℕ) k. all ++ (n ++ codes " " ++ decimal k ++ codes " frames agree\n")) name count
    ∙ sym (line_more (agreed_line setup lines) i)))
