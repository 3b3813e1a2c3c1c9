use Rattle.std.proofs.Common.{◌≡◌, ◌++◌, ◌∷◌, [], length, sym, ap, subst, arith, length-append}
use Rattle.std.proofs.lemmas.List.Elements.{All-push}
use Rattle.std.specs.List.{All}
use Rattle.diag_text.specs.declared.taking.LineTaker.{LineTaker}
use Rattle.diag_run.specs.declared.logs.LogLines.{LogLines}
use Rattle.diag_run.specs.Logs.{AreLogs, TookLog}
use Rattle.diag_run.proofs.Finishing.{AreLogs-push, none_taken}
use Rattle.diag_run.proofs.logs.first_takers.Goals as goal

pub loop-index-preserved : goal.loop-index-preserved
loop-index-preserved c =
    let inv = c.loop-index.invariant in
    let setup = c.args.setup.now in
    let before = c.loop-index.takers.items in
    let lines : LogLines = record { who = c.who-who.result; ids = c.ids.result; timing = c.args.timing; log = c.new.result } in
    let taker : LineTaker LogLines = record { lines = lines; begun = c.new-in-loop-index.result } in
    let pushed : c.push.new.self.items ≡ before ++ taker ∷ [] = c.in_ok-push.ensures.items in
    record {
      many = omega (arith, ap length pushed, length-append before (taker ∷ []), inv.many);
      logs = subst (AreLogs 1 setup c.args.timing) (sym pushed)
          (AreLogs-push setup c.args.timing 1 before taker c.who-who.result
          (omega (arith, c.who-who.ensures, inv.many))
          (ap (λ ids. (c.who-who.result, ids, c.args.timing)) c.ids.ensures) inv.logs);
      none = subst (All (λ taker. TookLog taker [])) (sym pushed)
          (All-push (λ taker. TookLog taker []) before taker inv.none (none_taken taker (c.new.ensures c.ids.result c.args.timing) c.new-in-loop-index.ensures.items));
    }
