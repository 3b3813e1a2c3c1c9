use Rattle.std.proofs.Common.{◌≡◌, ◌<◌, ◌+◌, ◌++◌, ◌∷◌, [], Some, length, refl, ap, subst, sym, ◌∙◌, arith}
use Rattle.std.proofs.Math.ListN.{length-set}
use Rattle.std.proofs.lemmas.Option.{slice_get_read}
use Rattle.std.proofs.lemmas.Result.{on_err_weaker, on_ok_weaker}
use Rattle.std.specs.Prelude.{option_copied, slice_get}
use Rattle.diag_expect.specs.Entered.{Entered}
use Rattle.diag_judge.specs.declared.tester.Tester.{Tester}
use Rattle.diag_comparing.specs.Keeping.{IsTester}
use Rattle.diag_comparing.proofs.Entering.{none_entered, one_entered, one_same, own_tester, same_tester}
use Rattle.diag_comparing.proofs.Idle.{idle_wider}
use Rattle.diag_comparing.proofs.exchange_lines.ExchangeLines.enter.Goals as goal

pub returns-then-index-len-clause-taken : goal.returns-then-index-len-clause-taken
returns-then-index-len-clause-taken c = λ setup lines K ecu taken. record {
  count = taken.count;
  stamps = taken.stamps;
  many = taken.many;
  each = none_entered setup lines K c.args.who c.args.request.now (option_copied c.args.reply) c.args.self.now.testers.items c.index-index.result
      c.index-index.ensures.from_one (omega arith) taken.each;
}

pub returns-clause-taken : goal.returns-clause-taken
returns-clause-taken c =
    let testers = c.args.self.now.testers.items in
    let i = c.index-index.result in
    let own : Tester = c.index_mut.result.now in
    let within : i < length testers = omega arith in
    let here : slice_get testers i ≡ Some own = slice_get_read testers (length testers) i own refl within c.index_mut.ensures.value in
    let who = c.args.who in
    let request = c.args.request.now in
    let reply = option_copied c.args.reply in
    let new : Tester = c.enter.new.self in
    let is : who ≡ i + 1 = c.index-index.ensures.from_one in
    on_ok_weaker c.enter.result (λ entered. λ setup lines K ecu taken.
    let own_is = subst (λ t. IsTester setup lines K t own) (sym is) (taken.each i own here) in
    let asked = entered ∙ ap (λ (x : Entered). own.entered.items ++ x ∷ []) c.in_ok-entered.ensures.entered in
    let new_is = own_tester setup lines K who request reply own new c.args.ecu.now ecu own_is c.enter.ensures.listener c.enter.ensures.counts asked in
    record {
      count = taken.count;
      stamps = taken.stamps;
      many = length-set testers i new ∙ taken.many;
      each = one_entered setup lines K who request reply testers i new is taken.each new_is;
    }) c.enter.ensures.entered

pub returns-clause-idle : goal.returns-clause-idle
returns-clause-idle c = λ idle.
    idle_wider c.args.self.now.busy c.with-self.result c.args.self.now.testers.items c.index-index.result c.enter.new.self
    c.with-self.ensures.wider c.with-self.ensures.has idle

pub returns-clause-err : goal.returns-clause-err
returns-clause-err c =
    let testers = c.args.self.now.testers.items in
    let i = c.index-index.result in
    let own : Tester = c.index_mut.result.now in
    let within : i < length testers = omega arith in
    let here : slice_get testers i ≡ Some own = slice_get_read testers (length testers) i own refl within c.index_mut.ensures.value in
    let new : Tester = c.enter.new.self in
    on_err_weaker c.enter.result (λ entered. λ setup lines K taken. record {
      count = taken.count;
      stamps = taken.stamps;
      many = length-set testers i new ∙ taken.many;
      each = one_same setup lines K testers i new taken.each
          (same_tester setup lines K (i + 1) own new c.enter.ensures.listener c.enter.ensures.counts entered (taken.each i own here));
    }) c.enter.ensures.err
