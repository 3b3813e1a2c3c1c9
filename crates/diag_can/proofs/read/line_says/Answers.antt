use Rattle.std.proofs.Common.{◌≡◌, ◌-◌, length, take, drop, length-drop, subst, sym, ◌∙◌, arith}
use Rattle.std.proofs.lemmas.List.{take_all}
use Rattle.diag_can.specs.Line.{stamped, text_frame}
use Rattle.diag_can.specs.MomentText.{usual_moment}
use Rattle.diag_can.specs.Usual.{IsFramed}
use Rattle.diag_can.proofs.UsualLines.{framed_line}
use Rattle.diag_can.proofs.read.line_says.Goals as goal

pub returns-in-Some : goal.returns-in-Some
returns-in-Some c =
    let line = c.args.line.now in
    let place = c.in-Some.place in
    let begins = c.in-Some.ensures in
    let framed = subst (λ l. IsFramed l place) (take_all (length line) line (omega arith)) (begins.framed (length line) (omega (arith, begins.long, begins.before)) (omega arith)) in
    let whole : take (length line - place) (drop place line) ≡ drop place line =
    take_all (length line - place) (drop place line) (omega (arith, length-drop place line)) in
    let says : c.framed_says.result ≡ stamped c.usual.result (text_frame c.args.known.now (take (length line - place) (drop place line))) = c.framed_says.ensures in
    (rw (c.usual.ensures, whole) at says)
    ∙ sym (framed_line c.args.known.now line (drop place line) (usual_moment line) (omega (arith, framed.long)) framed.is_frame framed.stamped)
