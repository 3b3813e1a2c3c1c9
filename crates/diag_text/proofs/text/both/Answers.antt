use Rattle.std.proofs.Common.{refl}
use Rattle.std.proofs.lemmas.List.{map-append}
use Rattle.std.proofs.lemmas.List.Folds.{concat-append}
use Rattle.diag_text.proofs.text.both.Goals as goal

pub returns : goal.returns
returns c = rw (c.in_ok-append.ensures.items, map-append, concat-append) refl
