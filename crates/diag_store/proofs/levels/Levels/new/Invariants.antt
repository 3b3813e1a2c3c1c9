use Rattle.std.proofs.Common.{◌≡◌, take}
use Rattle.std.specs.Prelude.{map}
use Rattle.std.specs.List.{All}
use Rattle.diag_setup.specs.Fits.{LevelFits}
use Rattle.diag_store.specs.Opening.{level_row}
use Rattle.diag_store.proofs.levels.Levels.new.Given as goal

-- the rows of those so far
abbrev pub invariant-loop-level : goal.invariant-loop-level
invariant-loop-level l = record {
  rows : l.rows.items ≡ map level_row (take l.level-index l.levels);
  fit : All LevelFits l.levels;
}
