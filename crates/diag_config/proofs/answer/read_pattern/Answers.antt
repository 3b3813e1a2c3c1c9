use Rattle.std.proofs.Common.{◌≡◌, ◌==◌, ◌∙◌, true, false, length, refl, arith}
use Rattle.std.proofs.lemmas.Result.{err_from_is_err_and}
use Rattle.diag_config.specs.Answer.{pattern_with}
use Rattle.diag_config.proofs.Binds.{read_on, read_fails}
use Rattle.diag_config.proofs.answer.read_pattern.Goals as goal

pub returns-in_err-items : goal.returns-in_err-items
returns-in_err-items c =
    let p = err_from_is_err_and c.from_residual.result c.from_residual.ensures.1 in
    rw (p.1, p.2) (read_fails c.args.key.now (λ read. pattern_with read.0 read.1) _ c.in_err-items.field-0.0 c.in_err-items.ensures)

pub returns-then-len-eq0 : goal.returns-then-len-eq0
returns-then-len-eq0 c =
    let none : (length c.in_ok-items.items == 0) ≡ true = grind (arith, c.len.ensures, c.if-len-eq0.true) in
    read_on c.args.key.now (λ read. pattern_with read.0 read.1) _ _ c.in_ok-items.ensures ∙ rw none refl

pub returns-in-None : goal.returns-in-None
returns-in-None c =
    let some : (length c.in_ok-items.items == 0) ≡ false = grind (arith, c.len.ensures, c.if-len-eq0.false) in
    read_on c.args.key.now (λ read. pattern_with read.0 read.1) _ _ c.in_ok-items.ensures ∙ rw (some, c.in-None.is) refl

pub returns-in-Some-eq42 : goal.returns-in-Some-eq42
returns-in-Some-eq42 c =
    let some : (length c.in_ok-items.items == 0) ≡ false = grind (arith, c.len.ensures, c.if-len-eq0.false) in
    let star : (c.in-Some-eq42.field-0 == 42) ≡ true = grind (arith, c.in-Some-eq42.field-0-test) in
    read_on c.args.key.now (λ read. pattern_with read.0 read.1) _ _ c.in_ok-items.ensures ∙ rw (some, c.in-Some-eq42.is, star) refl

pub returns-in-Some : goal.returns-in-Some
returns-in-Some c =
    let some : (length c.in_ok-items.items == 0) ≡ false = grind (arith, c.len.ensures, c.if-len-eq0.false) in
    let other : (c.in-Some.field-0 == 42) ≡ false = grind (arith, c.in-Some.field-0-test) in
    read_on c.args.key.now (λ read. pattern_with read.0 read.1) _ _ c.in_ok-items.ensures ∙ rw (some, c.in-Some.is, other) refl
