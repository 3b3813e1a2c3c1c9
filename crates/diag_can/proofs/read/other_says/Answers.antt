use Rattle.std.proofs.Common.{◌≡◌, ◌<◌, ℕ, Bool, false, List, length, Some, sym, ◌∙◌, arith, rules}
use Rattle.std.specs.Prelude.{◌==◌}
use Rattle.std.proofs.lemmas.Bool.Decides.{nat_tests}
use Rattle.diag_can.specs.Line.{is_time, stamped, stamped_frame, text_frame}
use Rattle.diag_can.proofs.UsualLines.{framed_line}
use Rattle.diag_can.proofs.read.other_says.Goals as goal

not_empty : {empty : Bool} (line : List ℕ) → empty ≡ (length line == 0) → empty ≡ false → 0 < length line
not_empty line is tested = grind (arith, nat_tests)

pub returns-in-Some-stamped_frame : goal.returns-in-Some-stamped_frame
returns-in-Some-stamped_frame c =
    let line = c.args.line.now in
    let some : 0 < length line = not_empty line c.is_empty.ensures c.if-is_empty.false in
    let plain : is_time line ≡ false = search rules in
    let stamp : stamped_frame line ≡ Some (c.in-Some-stamped_frame.moment, c.in-Some-stamped_frame.text.now) = search rules in
    let says : c.framed_says.result ≡ stamped c.read.result (text_frame c.args.known.now c.in-Some-stamped_frame.text.now) = c.framed_says.ensures in
    (rw c.read.ensures at says) ∙ sym (framed_line c.args.known.now line _ _ some plain stamp)
