use Rattle.std.proofs.Common.{◌≡◌, ◌≤◌, ◌+◌, true, false, length, ap, sym, ◌∙◌, arith}
use Rattle.std.proofs.lemmas.Bool.Decides.{nat_tests}
use Rattle.std.specs.List.{list_all}
use Rattle.std.specs.Prelude.{◌==◌}
use Rattle.diag_pdu.specs.Cut.{counted_from}
use Rattle.diag_bus.specs.Verdict.{recorded}
use Rattle.diag_text.specs.Agreed.{has_none}
use Rattle.diag_text.proofs.Nothing.{all_more, not_all}
use Rattle.diag_text.proofs.told.compares_nothing.Goals as goal

pub returns-then-recorded-gt0 : goal.returns-then-recorded-gt0
returns-then-recorded-gt0 c = λ lines h.
    let i = c.loop-index.index in
    let setup = c.args.setup.now in
    let who = c.who-who.ensures in
    let within : i + 1 ≤ length setup.testers = omega (arith, c.loop-index-test.true, c.testers-index-end.ensures.same) in
    let count : c.recorded.result ≡ length (recorded setup lines (i + 1)) =
    c.recorded.ensures setup lines h (omega (arith, who, within)) ∙ ap (λ t. length (recorded setup lines t)) who in
    let fails : has_none setup lines (i + 1) ≡ false = grind (arith, nat_tests, count, c.if-recorded-gt0.true) in
    sym (not_all (has_none setup lines) 1 (length setup.testers) (i + 1) (omega arith) (omega (arith, within)) fails)

pub loop-index-preserved : goal.loop-index-preserved
loop-index-preserved c = λ lines h.
    let i = c.loop-index.index in
    let setup = c.args.setup.now in
    let who = c.who-who.ensures in
    let within : i + 1 ≤ length setup.testers = omega (arith, c.loop-index-test.true, c.testers-index-end.ensures.same) in
    let count : c.recorded.result ≡ length (recorded setup lines (i + 1)) =
    c.recorded.ensures setup lines h (omega (arith, who, within)) ∙ ap (λ t. length (recorded setup lines t)) who in
    let none : length (recorded setup lines (i + 1)) ≡ 0 = omega (arith, count, c.if-recorded-gt0.false) in
    all_more (has_none setup lines) i (c.loop-index.invariant lines h) (ap (λ n. n == 0) none)

pub returns : goal.returns
returns c = λ lines h.
    let setup = c.args.setup.now in
    let all : c.loop-index.index ≡ length setup.testers =
    omega (arith, c.loop-index-test.false, c.loop-index.auto.index-end, c.testers-index-end.ensures.same) in
    sym (c.loop-index.invariant lines h) ∙ ap (λ n. list_all (has_none setup lines) (counted_from 1 n)) all
