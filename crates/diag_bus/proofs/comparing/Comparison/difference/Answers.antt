use Rattle.std.proofs.Common.{◌≡◌, Some, length, ap, refl, sym, ◌∙◌, arith}
use Rattle.std.proofs.lemmas.List.{nil_from_length}
use Rattle.std.proofs.lemmas.Option.{slice_get_read}
use Rattle.std.specs.Prelude.{slice_get}
use Rattle.diag_port.proofs.Within.{none_of}
use Rattle.diag_bus.proofs.Ends.{ahead_is, none_ahead, settled_is}
use Rattle.diag_bus.proofs.comparing.Comparison.difference.Goals as goal

pub returns-in-Some : goal.returns-in-Some
returns-in-Some c = λ recorded expected h.
    ap Some c.lent.ensures ∙ sym (settled_is c.args.self.now recorded expected h c.in-Some.settled c.in-Some.is)

pub returns-in-Some-front : goal.returns-in-Some-front
returns-in-Some-front c = λ recorded expected h.
    let kept = c.args.self.now in
    let ahead = kept.ahead.items in
    let none = none_of kept.difference c.in_default.not-Some in
    let there : slice_get ahead 0 ≡ Some c.in-Some-front.frame.now =
    slice_get_read ahead (length ahead) 0 c.in-Some-front.frame.now refl c.in-Some-front.ensures.item.3.0 c.in-Some-front.ensures.lookup in
    sym (ahead_is kept recorded expected h none c.in-Some-front.frame.now there)

pub returns-in-None : goal.returns-in-None
returns-in-None c = λ recorded expected h.
    let kept = c.args.self.now in
    let none = none_of kept.difference c.in_default.not-Some in
    sym (none_ahead kept recorded expected h none (nil_from_length kept.ahead.items (omega (arith, c.in-None.ensures.item.3))))
