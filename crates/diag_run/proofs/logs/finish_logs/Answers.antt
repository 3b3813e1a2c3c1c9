use Rattle.std.proofs.Common.{◌≡◌, ◌++◌, ◌∷◌, [], ℕ, List, length, sym, ap, subst, arith, length-append}
use Rattle.std.proofs.lemmas.Result.{err_from_is_err_and}
use Rattle.std.specs.Vec.Iter.{into_iter_items}
use Rattle.diag_pdu.proofs.Lists.{length-zero}
use Rattle.diag_run.specs.Files.{AreTaken}
use Rattle.diag_run.specs.Logs.{TookLog}
use Rattle.diag_run.proofs.Finishing.{Finished, all_finished, next_taken, one_at_fault, one_finished}
use Rattle.diag_run.proofs.logs.finish_logs.Goals as goal

pub loop-taker-preserved : goal.loop-taker-preserved
loop-taker-preserved c =
    let inv = c.loop-taker.invariant in
    let done = c.loop-taker.logs.items in
    let taker = c.in-Some.taker in
    let rest = into_iter_items c.next.new.self in
    let is : into_iter_items c.loop-taker.taker-iterator ≡ taker ∷ rest = c.in-Some.ensures.steps.0 in
    let log = c.in_ok-log.log in
    let pushed : c.push.new.self.items ≡ done ++ log ∷ [] = c.in-Ok.ensures.items in
    record {
      can = tt;
      ends = tt;
      many = omega (arith, ap length pushed, length-append done (log ∷ []), ap length is, inv.many);
      taken = (next_taken TookLog taker rest (subst (λ l. (texts : List (List ℕ)) × AreTaken TookLog l texts) is inv.taken)).1;
      finished = λ setup timing texts logs taken. subst (λ d. Finished setup timing texts d rest) (sym pushed)
          (one_finished setup timing texts done taker rest _ is (inv.finished setup timing texts logs taken) log
          (λ text took. (c.in_ok-log.ensures text took).0));
    }

pub returns-clause-read : goal.returns-clause-read
returns-clause-read c = λ setup timing texts logs taken.
    let rest = c.loop-taker.taker-iterator in
    all_finished setup timing texts c.loop-taker.logs.items (into_iter_items rest)
    (length-zero (into_iter_items rest) (omega (arith, c.in-None.ensures.steps.0, rest.rest.ok.0)))
    (c.loop-taker.invariant.finished setup timing texts logs taken)

pub returns-in_err-log-clause-fault : goal.returns-in_err-log-clause-fault
returns-in_err-log-clause-fault c =
    let p = err_from_is_err_and c.from_residual.result c.from_residual.ensures.1 in
    rw (p.1, p.2) (λ setup timing texts logs taken.
    one_at_fault setup timing texts c.loop-taker.logs.items c.in-Some.taker (into_iter_items c.next.new.self) _ c.in-Some.ensures.steps.0
    (c.loop-taker.invariant.finished setup timing texts logs taken) _ c.in_err-log.ensures)
