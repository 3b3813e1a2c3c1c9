use Rattle.std.proofs.Common.{◌≡◌, ◌<◌, ◌+◌, ◌++◌, Some, List, ℕ, suc, false, get_or, length, take, ap, sym, ◌∙◌, append_assoc, arith}
use Rattle.std.proofs.lemmas.Option.{slice_get-get_or}
use Rattle.std.specs.Prelude.{slice_get}
use Rattle.diag_setup.specs.Setup.{name_of}
use Rattle.diag_judge.specs.declared.tester.Counts.{Counts}
use Rattle.diag_comparing.specs.Keeping.{count_lines, count_text}
use Rattle.diag_comparing.proofs.Ends.{count_more}
use Rattle.diag_comparing.proofs.ending.add_counts.Goals as goal

pub loop-index-preserved : goal.loop-index-preserved
loop-index-preserved c =
    let i = c.loop-index.index in
    let setup = c.args.setup.now in
    let counts = c.args.counts.now in
    let old = c.args.text.now.items in
    let none : Counts = record { count = 0; differ = 0; compared = false } in
    let own : Counts = get_or counts i none in
    let within : i < length counts = omega (arith, c.loop-index-test.true) in
    let here : slice_get counts i ≡ Some own = slice_get-get_or counts i none within in
    let who = c.who-who.ensures in
    let place : c.who-who.result ≡ 1 + i = omega (arith, who) in
    let next : suc i ≡ i + 1 = omega arith in
    let names : c.name.result.now ≡ name_of setup (1 + i) = c.name.ensures ∙ ap (name_of setup) place in
    c.in_ok-add_count.ensures
    ∙ (ap (λ (n : List ℕ). c.loop-index.text.items ++ count_text n own) names
    ∙ (ap (λ w. w ++ count_text (name_of setup (1 + i)) own) c.loop-index.invariant
    ∙ (append_assoc old (count_lines setup 1 (take i counts)) (count_text (name_of setup (1 + i)) own)
    ∙ ap (λ w. old ++ w) (sym (count_more setup 1 counts i own here) ∙ ap (λ (k : ℕ). count_lines setup 1 (take k counts)) next))))
