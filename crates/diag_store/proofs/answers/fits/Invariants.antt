use Rattle.std.proofs.Common.{◌≡◌, drop}
use Rattle.diag_store.specs.Answers.{fits}
use Rattle.diag_store.proofs.answers.fits.Given as goal

-- the items so far are those of the request
abbrev pub invariant-loop-index : goal.invariant-loop-index
invariant-loop-index l = fits l.items l.more l.p ≡ fits (drop l.index l.items) l.more (drop l.index l.p)
