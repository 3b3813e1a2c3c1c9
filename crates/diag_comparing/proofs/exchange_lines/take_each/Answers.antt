use Rattle.std.proofs.Common.{◌≡◌, ◌≤◌, ◌<◌, ◌+◌, ◌-◌, inl, inr, Option, Some, List, ℕ, length, refl, ap, subst, sym, ◌∙◌, arith}
use Rattle.std.proofs.Math.ListN.{length-set}
use Rattle.std.proofs.lemmas.List.{append-nil}
use Rattle.std.proofs.lemmas.Option.{slice_get_read}
use Rattle.std.specs.List.{flat_map}
use Rattle.std.specs.Prelude.{◌++◌, map, option_copied, slice_get, slice_set}
use Rattle.diag_setup.specs.Setup.{ids_of}
use Rattle.diag_bus.specs.Events.{frame_said}
use Rattle.diag_bus.specs.RequestIds.{IsWithin}
use Rattle.diag_judge.specs.Judging.{IsIdle, JudgesLine, bytes_in}
use Rattle.diag_judge.specs.declared.tester.Tester.{Tester}
use Rattle.diag_pdu.specs.Cut.{counted_from}
use Rattle.diag_compare.specs.Compare.{over_by}
use Rattle.diag_compare.specs.Expects.{expects}
use Rattle.diag_comparing.specs.Keeping.{bytes_with, judged_pair}
use Rattle.diag_exchange.specs.Over.{Over}
use Rattle.diag_comparing.specs.Idle.{IsOutside}
use Rattle.diag_comparing.proofs.Idle.{idle_set, left_one, over_first, over_last, read_set, taken_first, taken_last}
use Rattle.diag_comparing.proofs.Takings.{taken_one, tester_is, judged_is, judged_more}
use Rattle.diag_comparing.proofs.exchange_lines.take_each.Goals as goal

pub loop-index-init : goal.loop-index-init
loop-index-init c =
    let setup = c.args.setup.now in
    let range = c.args.range in
    let testers = c.args.testers.now.items in
    let first = c.min-first.result in
    let outside : (i : ℕ) → i < first → IsOutside range i = λ i less. inl (omega (arith, less, c.min-first.ensures)) in
    let most : first ≤ length testers = omega (arith, c.min-first.ensures, c.min-end.ensures, c.len.ensures) in
    record {
      many = refl;
      from = omega arith;
      taken = λ lines line K is old. (
        taken_first setup lines line K c.args.said.now c.args.span c.args.at is range (option_copied c.args.sent) c.requires.sent c.requires.none testers
            c.requires.many c.requires.idle first outside old,
        sym (append-nil c.args.judged.now.items) ∙ ap (λ (os : List (ℕ × Over)). c.args.judged.now.items ++ map judged_pair os)
            (sym (over_first setup lines line K c.args.said.now c.args.span c.args.at is range (option_copied c.args.sent) c.requires.sent c.requires.none testers
            c.requires.many c.requires.idle first most outside old)),
      );
      idle = c.requires.idle;
      left = λ i own is less outside_left. c.requires.idle i own is (outside i less);
    }

pub loop-index-preserved : goal.loop-index-preserved
loop-index-preserved c =
    let i = c.loop-index.index in
    let setup = c.args.setup.now in
    let said = c.args.said.now in
    let now = c.loop-index.testers.items in
    let own : Tester = c.index_mut.result.now in
    let new = c.take_line.new.self in
    let inside : IsOutside c.args.range i → ⊥ = λ outside. elim outside [ inl less ↦ omega (arith, less, c.loop-index.invariant.from, c.min-first.ensures, c.loop-index-test.true, c.min-end.ensures) | inr more ↦ omega (arith, more, c.loop-index-test.true, c.min-end.ensures) ] in
    let within : i < length now = omega (arith, c.loop-index-test.true, c.loop-index.invariant.many, c.min-end.ensures, c.len.ensures) in
    let here : slice_get now i ≡ Some own = slice_get_read now (length now) i own refl within c.index_mut.ensures.value in
    let who = c.who-who.ensures in
    let bytes : Option (List ℕ) = bytes_in (option_copied c.frame_to-frame.result) in
    let is_within : IsWithin (length setup.testers) c.who-who.result = (omega (arith, who), omega (arith, who, within, c.requires.many, c.loop-index.invariant.many)) in
    let frame : bytes ≡ bytes_with (ids_of setup (i + 1)).response (frame_said said) =
    c.frame_to-frame.ensures ∙ (c.requires.sent c.who-who.result is_within ∙ ap (λ t. bytes_with (ids_of setup t).response (frame_said said)) who) in
    let took : JudgesLine setup c.args.at (i + 1) own new c.loop-index.judged.items c.take_line.new.judged.items c.args.span bytes =
    subst (λ t. JudgesLine setup c.args.at t own new c.loop-index.judged.items c.take_line.new.judged.items c.args.span bytes) who c.in_ok-take_line.ensures.judges in
    let read : Tester = c.index.result.now in
    let there : i < length (slice_set now i new) = omega (arith, length-set now i new, within) in
    let same : read ≡ new = read_set now i new read (slice_get_read (slice_set now i new) (length (slice_set now i new)) i read refl there c.index.ensures) in
    record {
      many = length-set now i new ∙ c.loop-index.invariant.many;
      from = omega (arith, c.loop-index.invariant.from);
      idle = idle_set c.args.range now i new inside c.loop-index.invariant.idle;
      left = left_one c.loop-index.left c.left_with-left.result now i new c.left_with-left.ensures.wider
          (λ outside. subst (λ (x : Tester). IsIdle x) same (c.left_with-left.ensures.has outside)) c.loop-index.invariant.left;
      taken = λ lines line K is old.
          let before = c.loop-index.invariant.taken lines line K is old in
          let at_one = (before.0 i own here).1 (omega arith) in (
            taken_one setup lines line K now i new before.0
                (tester_is setup lines line K said c.args.span c.args.at is (i + 1) bytes frame own new c.loop-index.judged.items c.take_line.new.judged.items at_one took
                c.in_ok-take_line.ensures.link_setup c.in_ok-take_line.ensures.entered),
            judged_more setup lines line K c.args.judged.now.items c.loop-index.judged.items c.take_line.new.judged.items i before.1
                (judged_is setup lines line K said c.args.span c.args.at is (i + 1) bytes frame own new c.loop-index.judged.items c.take_line.new.judged.items at_one took
                c.in_ok-take_line.ensures.link_setup c.in_ok-take_line.ensures.entered),
          );
    }

pub returns-clause-each : goal.returns-clause-each
returns-clause-each c = λ lines line K is old.
    let setup = c.args.setup.now in
    let f = over_by (expects setup) setup lines line in
    let range = c.args.range in
    let testers = c.loop-index.testers.items in
    let i = c.loop-index.index in
    let many : length testers ≡ length setup.testers = c.loop-index.invariant.many ∙ c.requires.many in
    let taken = c.loop-index.invariant.taken lines line K is old in
    let outside : (j : ℕ) → i ≤ j → j < length testers → IsOutside range j = λ j from less. inr (omega (arith, from, less, c.loop-index-test.false, c.min-end.ensures, c.len.ensures, c.loop-index.invariant.many)) in
    let rest = length setup.testers - i in
    let all : i + rest ≡ length setup.testers = omega arith in (
      taken_last setup lines line K c.args.said.now c.args.span c.args.at is range (option_copied c.args.sent) c.requires.sent c.requires.none testers
          many c.loop-index.invariant.idle i outside taken.0,
      taken.1 ∙ ap (λ (os : List (ℕ × Over)). c.args.judged.now.items ++ map judged_pair os)
          (sym (over_last setup lines line K c.args.said.now c.args.span c.args.at is range (option_copied c.args.sent) c.requires.sent c.requires.none testers
          many c.loop-index.invariant.idle i rest (all ∙ sym many) outside taken.0) ∙ ap (λ n. flat_map f (counted_from 1 n)) all),
    )
