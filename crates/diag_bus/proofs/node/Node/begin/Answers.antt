use Rattle.std.proofs.Common.{refl, subst, sym}
use Rattle.diag_bus.specs.Filled.{AreFilled}
use Rattle.diag_bus.specs.Node.{lists_of}
use Rattle.diag_bus.specs.declared.filled.Filled.{Filled}
use Rattle.diag_bus.proofs.node.Node.begin.Goals as goal

pub returns-clause-shape : goal.returns-clause-shape
returns-clause-shape c = record {
  ports = refl;
  lists = c.clear.ensures.lists;
  filled = λ known. subst (λ (f : Filled). AreFilled f (lists_of c.clear.new.self)) (sym c.clear.ensures.filled) c.clear.ensures.empty;
  rest = λ known. known;
}
