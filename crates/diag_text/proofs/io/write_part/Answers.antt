use Rattle.std.proofs.Common.{arith, length-take, length-drop}
use Rattle.diag_text.proofs.Writing.{AppendsFront-kept, AppendsFront-more, Appends-more}
use Rattle.diag_text.proofs.io.write_part.Goals as goal

pub loop-written-preserved : goal.loop-written-preserved
loop-written-preserved g c = record {
  sent = Appends-more _ _ _ c.args.text.now c.loop-written.written c.loop-written.invariant.sent c.in-Ok.count c.in-Ok.ensures.bytes;
  within = grind (arith, c.in-Ok.ensures.bound, length-take, length-drop);
  sound = λ sound. c.in-Ok.ensures.sound (c.loop-written.invariant.sound sound);
}

pub returns-in-Err-clause-front : goal.returns-in-Err-clause-front
returns-in-Err-clause-front g c = AppendsFront-kept _ _ _ c.args.text.now c.loop-written.written c.loop-written.invariant.sent c.in-Err.ensures.bytes

pub returns-then-count-eq0-clause-front : goal.returns-then-count-eq0-clause-front
returns-then-count-eq0-clause-front g c =
    AppendsFront-more _ _ _ c.args.text.now c.loop-written.written c.loop-written.invariant.sent c.in-Ok.count c.in-Ok.ensures.bytes
