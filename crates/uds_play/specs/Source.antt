-- What a run still has to read.
use Rattle.std.specs.Prelude.{ℕ, List, Option, None}
use Rattle.uds_play.specs.declared.source.Source.{Source}
use Rattle.uds_play.specs.declared.source.Source.TheVariants.{Opened, Watched, Unopened, Standard}

-- the bytes that reads will give, where they are known; a file that could not be opened gives none, and no end
abbrev pub left : {F I : Type 0} → (F → Option (List ℕ)) → (I → Option (List ℕ)) → Source F I → Option (List ℕ)
left file input (Opened opened) = file opened
left file input (Watched opened progress) = file opened
left file input Unopened = None
left file input (Standard reader first) = input reader
