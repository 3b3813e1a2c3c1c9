use Rattle.diag_run.proofs.capture.give.Goals as goal

pub take-requires : goal.take-requires
take-requires g c = (c.args.line.now, c.requires)
