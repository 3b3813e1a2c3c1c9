use Rattle.std.proofs.Common.{◌≡◌, ◌<◌, arith, get_or, length, refl, subst, sym}
use Rattle.std.proofs.lemmas.Bool.{leb-false}
use Rattle.std.proofs.lemmas.Option.{slice_get_read}
use Rattle.diag_bus.specs.declared.request_ids.Owner.{Owner}
use Rattle.diag_bus.proofs.request_ids.RequestIds.owner.Goals as goal

pub returns : goal.returns
returns c =
    let owners = c.args.self.now.owners.items in
    let owner : Owner = c.index.result.now in
    let low = leb-false 2048 c.args.id (sym c.if-is_extended.ensures) in
    let within : c.args.id < length owners = omega (arith, low, c.requires.many) in
    let read : owner ≡ get_or owners c.args.id owner = subst (λ i. owner ≡ get_or owners i owner) c.rank.ensures.value c.index.ensures in
    c.requires.each c.args.id owner (slice_get_read owners (length owners) c.args.id owner refl within read)
