use Rattle.std.proofs.Common.{◌≤◌, get_or, arith}
use Rattle.diag_desk.proofs.UsualLemmas.{front_one, number-first, number-more}
use Rattle.diag_desk.proofs.usual.number_front.Goals as goal

pub loop-rest-init : goal.loop-rest-init
loop-rest-init c =
    let text = c.args.text.now in
    let digit = c.if-not-is_ascii_digit.ensures.cases in
    record {
      read = number-first text _ (get_or text 0 0) c.from-number.result (front_one text c.in-len1-up.len_at_least)
          (omega (arith, digit, c.if-first-eq48.false)) (omega (arith, digit)) (omega (arith, digit, c.from-number.ensures));
      some = omega (arith, digit, c.if-first-eq48.false, c.from-number.ensures);
      small = omega (arith, digit, c.from-number.ensures);
    }

pub loop-rest-preserved : goal.loop-rest-preserved
loop-rest-preserved c =
    let rest = c.loop-rest.rest.now in
    let l = c.loop-rest.invariant in
    let some = l.some in
    let few : c.loop-rest.number ≤ 6000 = omega (arith, c.if-from-number.false, c.from-in-len1-up-rest.ensures) in
    let digit = c.if-not-is_ascii_digit-2.ensures.cases in
    record {
      read = number-more c.args.text.now rest _ c.loop-rest.number (get_or rest 0 0) _ l.read (front_one rest c.in-len1-up-rest.len_at_least) some few
          (omega (arith, digit)) (omega (arith, digit)) (omega (arith, digit, c.from.ensures));
      some = omega arith;
      small = omega (arith, digit, c.from.ensures);
    }
