use Rattle.std.proofs.Common.{map}
use Rattle.diag_text.proofs.Writing.{WroteParts}
use Rattle.diag_text.proofs.io.write_whole.Given as goal

abbrev pub invariant-loop-part : goal.invariant-loop-part
invariant-loop-part g l = record {
  wrote : WroteParts (g.W.Target.contents l.initial.out) (g.W.Target.contents l.out) (map (λ part. part.items) l.parts) l.part-index;
  sound : g.W.Target.sound l.initial.out → g.W.Target.sound l.out;
}
