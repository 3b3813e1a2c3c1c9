use Rattle.std.proofs.Common.{map}
use Rattle.std.proofs.lemmas.List.{map-append}
use Rattle.diag_text.proofs.Lines.{concat_more}
use Rattle.diag_text.proofs.text.add_part.Goals as goal

pub returns : goal.returns
returns c = rw (c.in_ok-push.ensures.items, map-append) (concat_more (map (λ part. part.items) c.args.parts.now.items) c.args.part.items)
