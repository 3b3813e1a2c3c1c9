use Rattle.std.proofs.Common.{ℕ, refl, subst, sym}
use Rattle.diag_compare.specs.Expects.{expects}
use Rattle.diag_compare.specs.Meaning.{StatusMeans}
use Rattle.diag_compare.proofs.Statuses.{status_means}
use Rattle.diag_comparing.proofs.laws.compared_law.Goals as goal

pub returns : goal.returns
returns c = λ differences setup lines. record {
  text = refl;
  ended = refl;
  means = λ n is. subst (λ (status : ℕ). StatusMeans (expects setup) setup lines status) (sym is) (status_means (expects setup) setup lines);
}
