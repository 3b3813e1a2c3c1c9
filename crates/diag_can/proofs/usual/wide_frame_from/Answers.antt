use Rattle.std.proofs.Common.{◌≡◌, ◌+◌, ◌-◌, true, false, refl, Some, drop, take, sym, ◌∙◌, arith, rules}
use Rattle.diag_can.specs.Line.{is_among, wide_id_of}
use Rattle.diag_can.proofs.UsualLines.{among}
use Rattle.diag_can.proofs.usual.wide_frame_from.Goals.{in_default-via-in-Some+else-is_among, in_default-via-in_default}
use Rattle.diag_can.proofs.usual.wide_frame_from.Goals as goal

pub returns-in-Some : goal.returns-in-Some
returns-in-Some c =
    let line = c.args.line.now in
    let place = c.args.place in
    let known = c.args.known.now in
    let behind : place + 8 + 1 ≡ place + 9 = omega arith in
    let eight : place + 8 - place ≡ 8 = omega arith in
    let id : wide_id_of (take 8 (drop place line)) ≡ Some c.in-Some.id = sym (rw eight at c.wide_id_of.ensures) ∙ c.in-Some.is in
    let read : is_among known c.in-Some.id ≡ true = search rules in
    let frame = c.frame_from.ensures in
    rw (frame, ← behind) (among line place 8 c.requires known c.in-Some.id id read)

pub returns-in_default : goal.returns-in_default
returns-in_default c =
    let eight : c.args.place + 8 - c.args.place ≡ 8 = omega arith in
    let is = rw eight at c.wide_id_of.ensures in
    rw (← is) (elim c.in_default.branch [
      | in_default-via-in-Some+else-is_among w ↦
          let id = w.in-Some.is in
          let read : is_among c.args.known.now w.in-Some.id ≡ false = search rules in
          rw (id, read) refl
      | in_default-via-in_default w ↦ let none = w.in_default.is in rw none refl
    ])
