use Rattle.std.proofs.Common.{None, ap, refl, sym, ◌∙◌}
use Rattle.diag_tp.specs.Link.{asked_of}
use Rattle.diag_port.specs.Port.{port_of}
use Rattle.diag_port.proofs.Standing.{frame_took}
use Rattle.diag_port.proofs.taking.take_silent.Goals as goal

pub returns-then-is_empty-clause-took : goal.returns-then-is_empty-clause-took
returns-then-is_empty-clause-took c = λ who.
    let got = c.receive_at_once.ensures.received 0 in
    record {
      more = got.more;
      grown = got.grown;
      holds = frame_took (port_of c.args.port.now) (port_of c.receive_at_once.new.port) who c.args.event.now None None 0 got.more c.requires.prepared.is.frame
          (λ s E A Q h. ap asked_of (sym c.requires.silent) ∙ c.requires.prepared.step s E A Q h) (λ none. refl)
          c.receive_at_once.ensures.time c.receive_at_once.ensures.pace got.holds;
    }

pub returns-else-is_empty-clause-took : goal.returns-else-is_empty-clause-took
returns-else-is_empty-clause-took c = λ who.
    let got = c.receive_held.ensures.received in
    record {
      more = got.more;
      grown = got.grown;
      holds = frame_took (port_of c.args.port.now) (port_of c.receive_held.new.port) who c.args.event.now None None 0 got.more c.requires.prepared.is.frame
          (λ s E A Q h. ap asked_of (sym c.requires.silent) ∙ c.requires.prepared.step s E A Q h) (λ none. refl)
          c.receive_held.ensures.time c.receive_held.ensures.pace got.holds;
    }
