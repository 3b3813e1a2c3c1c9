use Rattle.std.proofs.Common.{Err, ap, sym, ◌∙◌, arith, rules}
use Rattle.std.proofs.lemmas.List.{length-map}
use Rattle.std.proofs.lemmas.Result.{err_from_is_err_and}
use Rattle.diag_setup.specs.Setup.{link_of}
use Rattle.diag_port.specs.declared.port.Port.{Port}
use Rattle.diag_port.specs.Port.{port_of}
use Rattle.diag_world.proofs.Headlines.{too_many}
use Rattle.diag_run.specs.Playing.{IsReady}
use Rattle.diag_run.proofs.Written.{plays_more}
use Rattle.diag_run.proofs.playing.PlayingTakeEvents.take_event.Goals as goal

pub take-requires : goal.take-requires
take-requires c =
    let begun = c.requires.in_setup in
    let many = sym (length-map c.args.self.now.server.ports (λ (p : Port). port_of p)) ∙ begun.2.1.serves.testers in
    record { in_setup = (begun.3, omega (arith, many, begun.4)); ready = begun.2.0 }

pub returns-clause-took : goal.returns-clause-took
returns-clause-took c = λ terms M h.
    let ready : IsReady c.write_replies.new.self = search rules in (
      ready,
      plays_more c.args.self.now c.take.new.self c.write_replies.new.self c.args.who c.args.event.now c.requires.in_setup.3 c.in_ok-take.ensures.took
          c.take.ensures.lines c.write_replies.ensures.server c.write_replies.ensures.journal c.in_ok-write_replies.ensures.lines terms M h.1,
    )

pub returns-in_err-take-clause-full : goal.returns-in_err-take-clause-full
returns-in_err-take-clause-full c = λ is terms M h.
    let fault = err_from_is_err_and c.from_residual.result c.from_residual.ensures.1 in
    let full = c.in_err-take.ensures.full (ap (λ f. Err f) (sym fault.2) ∙ (sym fault.1 ∙ is)) in
    too_many (link_of terms.setup) h.1.entries M c.args.who c.args.event.now h.1.serves.run (sym h.1.journal.number ∙ full.0)
    (full.1 terms.setup M h.1.entries h.1.serves)
