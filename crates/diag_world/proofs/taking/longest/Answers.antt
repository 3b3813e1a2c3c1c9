use Rattle.std.proofs.Common.{◌≡◌, ◌<◌, ◌+◌, max, ap, sym, ◌∙◌, length, take, map, arith, ◌++◌, ◌∷◌, []}
use Rattle.std.proofs.lemmas.List.{map-append, take_more}
use Rattle.diag_world.specs.Weaving.{longest}
use Rattle.diag_world.proofs.Rounds.{longest_push}
use Rattle.diag_world.proofs.taking.longest.Goals.{then-len-most, else-len-most}
use Rattle.diag_world.proofs.taking.longest.Goals as goal

pub loop-log-preserved : goal.loop-log-preserved
loop-log-preserved c =
    let logs = c.args.logs.now in
    let i = c.loop-log.log-index in
    let log = c.log-item.result in
    let within : i < length logs = c.loop-log-test.true in
    let before = map (λ l. l.items) (take i logs) in
    let grown = take_more logs i log within ∙ ap (λ x. take i logs ++ x ∷ []) (sym c.log-item.is) in
    let more : longest (map (λ l. l.items) (take (i + 1) logs)) ≡ max (longest before) (length log.items) =
    ap (λ xs. longest (map (λ l. l.items) xs)) grown ∙ (ap longest (map-append (λ l. l.items) (take i logs) (log ∷ [])) ∙ longest_push before log.items) in
    let inv : c.loop-log.most ≡ longest before = c.loop-log.invariant in
    let next : c.if-len-most.most ≡ longest (map (λ l. l.items) (take (i + 1) logs)) =
    elim c.if-len-most.branch [
      | then-len-most w ↦ omega (arith, more, inv, w.most-is, w.if-len-most.true, w.len-most.ensures.count, c.len.ensures.count)
      | else-len-most w ↦ omega (arith, more, inv, w.most-is, w.if-len-most.false, c.len.ensures.count)
    ] in
    next
