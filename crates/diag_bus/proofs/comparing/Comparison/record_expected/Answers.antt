use Rattle.std.proofs.Common.{◌≡◌, ◌∙◌, ℕ, List, Some, length, ap, refl}
use Rattle.std.proofs.lemmas.Option.{slice_get_read}
use Rattle.std.specs.Prelude.{slice_get}
use Rattle.diag_bus.specs.Verdict.{at_line}
use Rattle.diag_bus.proofs.comparing.Comparison.record_expected.Goals as goal

pub returns : goal.returns
returns c =
    let bytes : List ℕ = c.in-Some.expected.now in
    let behind = c.args.self.now.behind.items in
    let there : slice_get behind 0 ≡ Some bytes = slice_get_read behind (length behind) 0 bytes refl c.in-Some.ensures.item.3.0 c.in-Some.ensures.lookup in
    c.meet.ensures (at_line c.args.line c.args.bytes.now) (there ∙ ap Some (c.is.ensures.0 c.if-not-is.false))
