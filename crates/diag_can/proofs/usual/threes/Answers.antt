use Rattle.std.proofs.Common.{◌≡◌, ℕ, ◌<◌, List, get_or, ap, subst, sym, ◌∙◌}
use Rattle.diag_can.specs.Usual.{three_at}
use Rattle.diag_can.proofs.Weighing.{are_small, are_threes, three_small}
use Rattle.diag_can.proofs.usual.threes.Goals as goal

pub dot4 : goal.dot4
dot4 c = (are_small c.args.line.now c.requires.long (λ k. (c.type_inv.line k).fits), tt)

all : (c : goal.After-from-4) → (c.from.result ≡ three_at c.args.line.now 2) × (c.from-2.result ≡ three_at c.args.line.now 5)
    × (c.from-3.result ≡ three_at c.args.line.now 8) × (c.from-4.result ≡ three_at c.args.line.now 12)
all c =
    let are = are_threes c.args.line.now c.requires.long (λ k. (c.type_inv.line k).fits) in (
      c.from.ensures ∙ ap (λ (t : List ℕ). get_or t 0 0) are,
      c.from-2.ensures ∙ ap (λ (t : List ℕ). get_or t 1 0) are,
      c.from-3.ensures ∙ ap (λ (t : List ℕ). get_or t 2 0) are,
      c.from-4.ensures ∙ ap (λ (t : List ℕ). get_or t 3 0) are,
    )

pub returns-clause-value : goal.returns-clause-value
returns-clause-value c = λ j. ((all c).0 j, (all c).1 j, (all c).2 j, (all c).3 j)

pub returns-clause-few : goal.returns-clause-few
returns-clause-few c =
    let few = three_small c.args.line.now c.requires.long (λ k. (c.type_inv.line k).fits) in
    let is = all c in (
      subst (λ (n : ℕ). n < 28306) (sym is.0) (few 2),
      subst (λ (n : ℕ). n < 28306) (sym is.1) (few 5),
      subst (λ (n : ℕ). n < 28306) (sym is.2) (few 8),
      subst (λ (n : ℕ). n < 28306) (sym is.3) (few 12),
    )
