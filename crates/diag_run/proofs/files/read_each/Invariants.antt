use Rattle.std.proofs.Common.{ℕ, List, [], None, ◌≡◌, ◌≤◌, length, map, take, drop}
use Rattle.std.specs.List.{All}
use Rattle.diag_run.specs.Devices.{TellsFrom}
use Rattle.diag_run.specs.Files.{AreTaken, ReadEach}
use Rattle.diag_run.proofs.files.read_each.Given as goal

-- the files before this one were read whole, each by its taker, and the takers from this one on have taken nothing
abbrev pub invariant-loop-index : goal.invariant-loop-index
invariant-loop-index g l = record {
  same : length l.files ≡ length l.initial.files;
  takers : length l.takers ≡ length l.initial.files;
  rest : drop l.index l.files ≡ drop l.index l.initial.files;
  texts : List (List ℕ);
  each : ReadEach g.R.Source.remaining (take l.index l.initial.files) (take l.index l.files) texts;
  within : All (λ text. length text ≤ l.limit) texts;
  taken : AreTaken g.P.TakePieces.took (take l.index l.takers) texts;
  begun : All (λ taker. g.P.TakePieces.took taker []) (drop l.index l.takers);
  tells : TellsFrom g.R.Source.failed g.R.Source.sound 1 (take l.index l.initial.files) (take l.index l.files) None;
  aims : map g.P.TakePieces.aim l.takers ≡ map g.P.TakePieces.aim l.initial.takers;
}
