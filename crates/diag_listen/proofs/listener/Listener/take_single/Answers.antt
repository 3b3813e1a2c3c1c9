use Rattle.std.proofs.Common.{◌∷◌, [], ◌++◌, None, ap}
use Rattle.std.specs.Prelude.{is_some}
use Rattle.diag_exchange.specs.declared.happening.Happening.TheVariants.{Began, Came}
use Rattle.diag_exchange.specs.declared.exchanges.Exchanges.{Exchanges}
use Rattle.diag_listen.specs.Listening.{lost_if}
use Rattle.diag_listen.specs.declared.listener.Listener.{Listener}
use Rattle.diag_listen.proofs.Hearing.{both_ok, has_moved, took_both, took_one, took_silently}
use Rattle.diag_listen.proofs.listener.Listener.take_single.Goals as goal

pub returns-clause-moves : goal.returns-clause-moves
returns-clause-moves c =
    let old = c.args.self.now in
    let mid : Exchanges = c.lose.new.self.exchanges in
    let begun : Exchanges = c.begin.new.self in
    let last : Exchanges = c.come.new.self in
    let out = c.args.over.now.items in
    let handed = c.lose.new.over.items in
    let all = c.come.new.over.items in
    let start = c.args.start in
    let message = c.args.message in
    let new : Listener = record { setup = c.lose.new.self.setup; receiver = c.lose.new.self.receiver; exchanges = last } in
    both_ok c.come.result _ _ _ c.come.ensures.ok c.come.ensures.coming (λ came none hs s e.
    has_moved old.exchanges new out all (lost_if (is_some old.exchanges.coming) ++ Began start ∷ Came message ∷ [])
    (lost_if (is_some old.receiver.partial) ++ Began start ∷ Came message ∷ []) None
    (took_both old.exchanges mid last out handed all (lost_if (is_some old.exchanges.coming)) (Began start ∷ Came message ∷ [])
    c.in_ok-lose.ensures.took
    (took_both mid begun last handed handed all (Began start ∷ []) (Came message ∷ []) (took_silently mid begun handed (Began start) c.begin.ensures.took)
    (took_one begun last handed all (Came message) came)))
    (ap (λ b. lost_if b ++ Began start ∷ Came message ∷ []) e)
    c.lose.ensures.partial (ap is_some none) hs s)
