use Rattle.std.proofs.Common.{◌≡◌, ◌<◌, ℕ, Option, arith, get_or, length, refl, subst, sym}
use Rattle.std.proofs.lemmas.Bool.{leb-false}
use Rattle.std.proofs.lemmas.Option.{slice_get_read}
use Rattle.diag_bus.proofs.response_ids.ResponseIds.responder.Goals as goal

pub returns : goal.returns
returns c =
    let testers = c.args.self.now.testers.items in
    let found : Option ℕ = c.index.result.now in
    let low = leb-false 2048 c.args.id (sym c.if-is_extended.ensures) in
    let within : c.args.id < length testers = omega (arith, low, c.requires.many) in
    let read : found ≡ get_or testers c.args.id found = subst (λ i. found ≡ get_or testers i found) c.rank.ensures.value c.index.ensures in
    c.requires.each c.args.id found (slice_get_read testers (length testers) c.args.id found refl within read)
