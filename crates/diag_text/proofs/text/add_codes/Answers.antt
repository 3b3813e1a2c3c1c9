use Rattle.std.proofs.Common.{ℕ, ◌+◌, ◌++◌, List, drop, sym, ap, ◌∙◌, append_assoc, rules}
use Rattle.diag_text.specs.Text.{code_line, code_lines}
use Rattle.diag_text.proofs.Codes.{code_here}
use Rattle.diag_text.proofs.text.add_codes.Goals as goal

pub loop-index-preserved : goal.loop-index-preserved
loop-index-preserved c =
    let here = code_here c.args.dtcs.now c.loop-index.index c.in-Some.code c.in-Some.status (search rules) in
    let added = c.in_ok-add_code.ensures in
    rw added (append_assoc c.loop-index.text.items (code_line c.in-Some.code c.in-Some.status) (code_lines (drop (c.loop-index.index + 1) c.args.dtcs.now))
    ∙ (ap (λ (rest : List ℕ). c.loop-index.text.items ++ rest) (sym here) ∙ c.loop-index.invariant))
