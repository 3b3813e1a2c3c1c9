use Rattle.std.proofs.Common.{◌≡◌, ◌<◌, ℕ, Option, Some, length, refl, subst, sym, arith}
use Rattle.std.proofs.lemmas.Option.{slice_get_read}
use Rattle.std.proofs.lemmas.Result.{on_ok_weaker}
use Rattle.std.specs.Prelude.{IfSome, slice_get, slice_set}
use Rattle.diag_port.proofs.Within.{none_of}
use Rattle.diag_bus.specs.Comparing.{EachRecords}
use Rattle.diag_bus.specs.RequestIds.{IsWithin}
use Rattle.diag_bus.specs.declared.comparing.Comparison.{Comparison}
use Rattle.diag_bus.proofs.Recordings.{nobody_records, own_records}
use Rattle.diag_bus.proofs.comparing.record.Goals as goal

pub returns-in_default-clause-ok : goal.returns-in_default-clause-ok
returns-in_default-clause-ok c = λ setup h.
    nobody_records setup c.args.line c.args.frame.now c.args.responder c.args.testers.now.items h (none_of c.args.responder c.in_default.not-Some)

pub returns-clause-ok : goal.returns-clause-ok
returns-clause-ok c =
    let testers = c.args.testers.now.items in
    let who = c.in-Some.who in
    let index = c.index.result in
    let own : Comparison = c.index_mut.result.now in
    let new : Comparison = c.record_frame.new.self in
    let frame = c.args.frame.now in
    let one : IsWithin (length testers) who = subst (λ (r : Option ℕ). IfSome r (IsWithin (length testers))) c.in-Some.is c.requires in
    let within : index < length testers = omega (arith, one.0, one.1, c.index.ensures.from_one) in
    let here : slice_get testers index ≡ Some own = slice_get_read testers (length testers) index own refl within c.index_mut.ensures.value in
    on_ok_weaker c.record_frame.result (λ took setup h.
    subst (λ k. EachRecords setup c.args.line (Some frame) testers (slice_set testers k new)) (sym c.index.ensures.same)
    (own_records setup c.args.line frame c.args.responder testers h who own new c.in-Some.is
    (subst (λ k. slice_get testers k ≡ Some own) c.index.ensures.same here) took))
    c.record_frame.ensures
