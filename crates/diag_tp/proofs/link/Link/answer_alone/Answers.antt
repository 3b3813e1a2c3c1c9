use Rattle.std.proofs.Common.{ap, refl}
use Rattle.diag_tp.proofs.History.{stands_at_once}
use Rattle.diag_tp.proofs.link.Link.answer_alone.Goals as goal

pub returns-clause-next : goal.returns-clause-next
returns-clause-next c = λ s E A Q h. let is = c.in_ok-bytes.ensures.found.0 refl in
    stands_at_once s c.args.self.now.state E A Q c.args.message.now _ is.0 c.in_ok-bytes.ensures.some (ap (λ v. v.state.setup.ids.response) c.self.view_is) h
