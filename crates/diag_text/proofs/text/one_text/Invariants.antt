use Rattle.std.proofs.Common.{◌≡◌, ◌++◌, map, drop}
use Rattle.std.specs.List.{concat}
use Rattle.diag_text.proofs.text.one_text.Given as goal

abbrev pub invariant-loop-part : goal.invariant-loop-part
invariant-loop-part l =
    l.text.items ++ concat (map (λ part. part.items) (drop l.part-index l.parts)) ≡ concat (map (λ part. part.items) l.parts)
