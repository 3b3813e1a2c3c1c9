use Rattle.std.proofs.Common.{◌≡◌, ◌≤◌, ◌+◌, suc, List, [], ◌∷◌, ◌++◌, drop, length, map, take, ap, ap₂, subst, sym, ◌∙◌, append_assoc, arith, Bool}
use Rattle.std.proofs.lemmas.List.{append-nil, map-append, reverse-reverse, take_all}
use Rattle.std.specs.Prelude.{reverse}
use Rattle.diag_exchange.specs.Over.{Over}
use Rattle.diag_judge.specs.Judging.{AreCounts, judged_for}
use Rattle.diag_judge.specs.declared.tester.Judged.{Judged}
use Rattle.diag_judge.proofs.Lines.{next_of}
use Rattle.diag_judge.proofs.tester.Counts.judge.Goals as goal

pub loop-turn-init : goal.loop-turn-init
loop-turn-init c = record {
  left = ap reverse c.reverse.ensures.items ∙ reverse-reverse c.args.over.now.items;
  many = omega (arith, c.reverse.ensures.len);
  room = omega (arith, c.reverse.ensures.len, c.len.ensures, c.in_ok-reserve.ensures.ok);
  judged = c.reserve.ensures.items ∙ sym (append-nil c.args.judged.now.items);
  counts = λ before h. subst (λ (os : List Over). AreCounts c.args.self.now os) (sym (append-nil before)) h;
}

pub loop-turn-preserved : goal.loop-turn-preserved
loop-turn-preserved c =
    let inv = c.loop-turn.invariant in
    let old = c.args.over.now.items in
    let n = c.loop-turn._turn in
    let one = c.take_last.result in
    let past = take n old in
    let tell = judged_for c.args.who in
    let before = c.args.judged.now.items in
    let next = next_of n old c.loop-turn.over.items c.take_last.new.self.items one inv.left c.take_last.ensures.items in
    let count : suc n ≡ n + 1 = omega arith in
    let last = c.as_slice.ensures.value ∙ c.take_last.ensures.items in
    let more : past ++ one ∷ [] ≡ take (n + 1) old = sym next.1 ∙ ap (λ k. take k old) count in
    let is : (before ++ map tell past) ++ tell one ∷ [] ≡ before ++ map tell (past ++ one ∷ []) =
    append_assoc before (map tell past) (tell one ∷ []) ∙ ap (λ w. before ++ w) (sym (map-append tell past (one ∷ []))) in record {
      left = next.0 ∙ ap (λ k. drop k old) count;
      many = omega (arith, inv.many, c.take_last.ensures.len);
      room = omega (arith, inv.room, c.take_last.ensures.len, c.push_reserved.ensures.len, c.push_reserved.ensures.capacity);
      judged = c.push_reserved.ensures.items ∙ (ap₂
          (λ (ts : List Judged) (b : Bool). ts ++ record { who = c.args.who; over = one; agrees = b } ∷ []) inv.judged (c.in_ok-agrees.ensures.agrees c.take_last.new.self.items one last) ∙ is)
          ∙ ap (λ (os : List Over). before ++ map tell os) more;
      counts = λ others h. subst
          (λ (w : List Over). AreCounts c.judge_last.new.self w) (append_assoc others past (one ∷ []) ∙ ap (λ (os : List Over). others ++ os) more)
          (c.in_ok-agrees.ensures.counts c.take_last.new.self.items one last (others ++ past) (inv.counts others h));
    }

pub returns-clause-judged : goal.returns-clause-judged
returns-clause-judged c =
    let old = c.args.over.now.items in
    let all : length old ≤ c.loop-turn._turn = omega (arith, c.loop-turn-test.false, c.len-turn-end.ensures, c.reverse.ensures.len, c.args.over.now.ok) in
    c.loop-turn.invariant.judged ∙ ap (λ (os : List Over). c.args.judged.now.items ++ map (judged_for c.args.who) os) (take_all c.loop-turn._turn old all)

pub returns-clause-counts : goal.returns-clause-counts
returns-clause-counts c = λ before h.
    let old = c.args.over.now.items in
    let all : length old ≤ c.loop-turn._turn = omega (arith, c.loop-turn-test.false, c.len-turn-end.ensures, c.reverse.ensures.len, c.args.over.now.ok) in
    subst (λ (os : List Over). AreCounts c.loop-turn.self (before ++ os)) (take_all c.loop-turn._turn old all) (c.loop-turn.invariant.counts before h)
