use Rattle.std.proofs.Common.{map}
use Rattle.diag_workers.proofs.Asking.{all_well}
use Rattle.diag_workers.proofs.playing.play.Goals as goal

pub returns-in_err-play_logs-clause-memory : goal.returns-in_err-play_logs-clause-memory
returns-in_err-play_logs-clause-memory g c _ =
    all_well 1 c.args.setup.now c.args.timing (map (λ text. text.items) c.args.texts.now) (map (λ log. log.items) c.in_ok-logs.logs.items) c.in_ok-logs.ensures.reads.0
