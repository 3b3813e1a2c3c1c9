use Rattle.std.proofs.Common.{◌≡◌, ◌≤◌, ◌+◌, suc, List, ◌++◌, drop, length, take, refl, ap, subst, sym, ◌∙◌, arith}
use Rattle.std.proofs.lemmas.List.{append-nil, nil_from_length, reverse-reverse, take_all}
use Rattle.std.specs.Prelude.{reverse}
use Rattle.diag_exchange.specs.Exchanges.{over_after}
use Rattle.diag_exchange.specs.declared.happening.Happening.{Happening}
use Rattle.diag_exchange.specs.declared.open.Open.{Open}
use Rattle.diag_expect.specs.Entered.{Entered}
use Rattle.diag_listen.specs.Listening.{Listens}
use Rattle.diag_judge.specs.Judging.{requests_happen}
use Rattle.diag_judge.proofs.Lines.{next_of, request_heard}
use Rattle.diag_judge.proofs.tester.hear_requests.Goals as goal

pub loop-turn-init : goal.loop-turn-init
loop-turn-init c = record {
  left = ap reverse c.reverse.ensures.items ∙ reverse-reverse c.args.entered.now.items;
  many = omega (arith, c.reverse.ensures.len);
  heard = λ E hs l. (subst (λ (w : List Happening). Listens c.args.listener.now E w) (sym (append-nil hs)) l, sym (append-nil c.args.over.now.items));
  link_setup = refl;
}

pub loop-turn-preserved : goal.loop-turn-preserved
loop-turn-preserved c =
    let inv = c.loop-turn.invariant in
    let old = c.args.entered.now.items in
    let n = c.loop-turn._turn in
    let one = c.take_last-one.result in
    let next = next_of n old c.loop-turn.entered.items c.take_last-one.new.self.items one inv.left c.take_last-one.ensures.items in
    let count : suc n ≡ n + 1 = omega arith in record {
      left = next.0 ∙ ap (λ k. drop k old) count;
      many = omega (arith, inv.many, c.take_last-one.ensures.len);
      heard = λ E hs l. subst
          (λ (es : List Entered). Listens c.ask.new.self E (hs ++ requests_happen c.args.setup.now c.args.at es)
          × (c.ask.new.over.items ≡ c.args.over.now.items ++ over_after hs (requests_happen c.args.setup.now c.args.at es)))
          (sym next.1 ∙ ap (λ k. take k old) count)
          (request_heard
          c.args.setup.now c.args.at c.loop-turn.listener c.ask.new.self c.args.over.now.items c.loop-turn.over.items c.ask.new.over.items (take n old) one
          c.in_ok-asked.asked.request E hs (ap (λ (e : Open). e.request) c.in_ok-asked.ensures.own) c.in_ok-ask.ensures.heard (inv.heard E hs l));
      link_setup = c.ask.ensures.setup ∙ inv.link_setup;
    }

pub returns-clause-heard : goal.returns-clause-heard
returns-clause-heard c = λ E hs l.
    let old = c.args.entered.now.items in
    let all : length old ≤ c.loop-turn._turn = omega (arith, c.loop-turn-test.false, c.len-turn-end.ensures, c.reverse.ensures.len, c.args.entered.now.ok) in
    subst
    (λ (es : List Entered). Listens c.loop-turn.listener E (hs ++ requests_happen c.args.setup.now c.args.at es)
    × (c.loop-turn.over.items ≡ c.args.over.now.items ++ over_after hs (requests_happen c.args.setup.now c.args.at es)))
    (take_all c.loop-turn._turn old all) (c.loop-turn.invariant.heard E hs l)

pub returns-clause-none : goal.returns-clause-none
returns-clause-none c = nil_from_length c.loop-turn.entered.items
    (omega (arith, c.loop-turn.invariant.many, c.loop-turn-test.false, c.len-turn-end.ensures, c.reverse.ensures.len, c.loop-turn.entered.ok))
