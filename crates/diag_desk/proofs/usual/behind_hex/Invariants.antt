use Rattle.std.proofs.Common.{◌≡◌, ◌++◌, ℕ, List, length}
use Rattle.hex.specs.Hex.{encode_upper}
use Rattle.diag_desk.proofs.usual.behind_hex.Given as goal

-- what begins with the hex of what is left, begins with that of all
abbrev pub invariant-loop-eight : goal.invariant-loop-eight
invariant-loop-eight l = (tail : List ℕ) → l.rest ≡ encode_upper l.left ++ tail → l.text ≡ encode_upper l.bytes ++ tail

abbrev pub decreases-loop-eight : goal.decreases-loop-eight
decreases-loop-eight l = length l.left
