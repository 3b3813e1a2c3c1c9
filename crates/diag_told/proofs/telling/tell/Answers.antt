use Rattle.std.proofs.Common.{◌≡◌, ◌++◌, List, ℕ, codes, decimal, ap, append_assoc, subst, sym, ◌∙◌}
use Rattle.diag_exchange.specs.Agreeing.{waited}
use Rattle.diag_told.specs.Told.{expected_text, pendings_told, time_text}
use Rattle.diag_told.proofs.telling.tell.Goals as goal

pub returns-clause-ok : goal.returns-clause-ok
returns-clause-ok c =
    let o = c.args.over.now in
    let expected : List ℕ = expected_text c.args.same o in
    let numbers : List ℕ = codes " " ++ time_text (waited o) ++ codes " " ++ decimal (pendings_told o) ++ codes "\n" in
    let before : c.replace-line.result.items ≡ c.args.text.now.items =
    subst (λ l. l.items ≡ c.args.text.now.items) (sym c.replace-line.ensures.value) c.reserve.ensures.items in
    c.add_numbers.ensures.items
    ∙ (ap (λ w. w ++ numbers) (c.add_expected.ensures.items ∙ ap (λ w. w ++ expected) (rw before at c.add_front.ensures.items))
    ∙ simp append_assoc)
