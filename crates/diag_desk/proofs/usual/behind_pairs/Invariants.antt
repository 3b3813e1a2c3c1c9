use Rattle.std.proofs.Common.{◌≡◌, ◌*◌, ◌++◌, take, drop}
use Rattle.hex.specs.Hex.{encode_upper}
use Rattle.diag_desk.proofs.usual.behind_pairs.Given as goal

-- the text begins with the hex of the bytes so far
abbrev pub invariant-loop-i : goal.invariant-loop-i
invariant-loop-i l = l.text ≡ encode_upper (take l.i l.bytes) ++ drop (2 * l.i) l.text
