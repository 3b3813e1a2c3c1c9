use Rattle.std.proofs.Common.{◌≡◌, ◌++◌, ◌∷◌, [], ap, subst, sym, ◌∙◌}
use Rattle.diag_can.specs.Event.{Ticks}
use Rattle.diag_tp.specs.Link.{StandsFor, pending}
use Rattle.diag_tp.proofs.Silence.{stands_later, still_drained}
use Rattle.diag_tp.proofs.link.Link.advance_quietly.Goals as goal

pub returns-clause-stands : goal.returns-clause-stands
returns-clause-stands c = λ s E A Q h.
    subst (λ v. StandsFor s v.state (E ++ Ticks c.args.count ∷ []) A Q) (sym c.pass_quietly.ensures)
    (stands_later s c.args.self.now.state E A Q c.args.count c.requires.drained c.requires.quiet h)

pub returns-clause-drained : goal.returns-clause-drained
returns-clause-drained c = ap (λ v. pending v.state) c.pass_quietly.ensures ∙ still_drained c.args.count c.args.self.now.state c.requires.drained
