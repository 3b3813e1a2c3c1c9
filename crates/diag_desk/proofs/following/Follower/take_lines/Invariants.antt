use Rattle.std.proofs.Common.{◌≡◌, ◌++◌, ℕ, List, length}
use Rattle.diag_desk.specs.Following.{HasFollowed}
use Rattle.diag_desk.proofs.following.Follower.take_lines.Given as goal

-- a front of the text was followed
abbrev pub invariant-loop-alloc : goal.invariant-loop-alloc
invariant-loop-alloc l = (front : List ℕ)
    × (l.fn.text ≡ front ++ l.rest)
    × ((seen : List ℕ) → HasFollowed l.setup l.initial.self seen → HasFollowed l.setup l.self (seen ++ front))

abbrev pub decreases-loop-alloc : goal.decreases-loop-alloc
decreases-loop-alloc l = length l.rest
