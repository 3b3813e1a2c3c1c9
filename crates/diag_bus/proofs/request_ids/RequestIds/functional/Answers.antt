use Rattle.std.proofs.Common.{◌<◌, ℕ, ap, arith, length, refl, sym, ◌∙◌}
use Rattle.std.proofs.lemmas.Option.{slice_get_read}
use Rattle.diag_setup.specs.Setup.{ids_of}
use Rattle.diag_bus.proofs.request_ids.RequestIds.functional.Goals as goal

pub returns : goal.returns
returns c =
    let setup = c.args.setup.now in
    let ids = c.args.self.now.functional.items in
    let index = c.index.result in
    let id = c.index-2.result.now in
    let known = c.requires.ids.functional in
    let within : index < length ids = omega (arith, known.many, c.requires.known, c.index.ensures.from_one) in
    known.each index id (slice_get_read ids (length ids) index id refl within c.index-2.ensures)
    ∙ ap (λ (t : ℕ). (ids_of setup t).functional) (sym c.index.ensures.from_one)
