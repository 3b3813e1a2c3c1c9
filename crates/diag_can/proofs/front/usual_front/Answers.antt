use Rattle.std.proofs.Common.{◌-◌, ◌∙◌, ap, arith, drop, length, refl, sym, take}
use Rattle.diag_can.proofs.Fronts.{id_digits, id_mark, is_usual, said_line, same_digits, shorter}
use Rattle.diag_can.specs.Line.{id_of}
use Rattle.diag_can.proofs.front.usual_front.Goals as goal

pub said_from-requires-clause-usual : goal.said_from-requires-clause-usual
said_from-requires-clause-usual c =
    let text = c.args.text.now in
    let place = c.in_ok-place.place in
    let part = take (length text - place) (drop place text) in
    let id = c.in_ok-id.ensures in
    is_usual text c.in_ok-line.line.now c.in_ok-line.after.now place 3 c.in_ok-place.ensures c.in_ok-line.ensures
    (id_digits text part _ place 3 refl id.count id.rest) (id_mark text part _ place 3 refl id.count id.rest)

pub said_from-requires-clause-id : goal.said_from-requires-clause-id
said_from-requires-clause-id c =
    let text = c.args.text.now in
    let place = c.in_ok-place.place in
    let part = take (length text - place) (drop place text) in
    ap id_of (sym (same_digits text c.in_ok-line.line.now c.in_ok-line.after.now place 3 c.in_ok-place.ensures c.in_ok-line.ensures part refl))
    ∙ c.in_ok-id.ensures.id

pub told-requires : goal.told-requires
told-requires c = shorter c.args.text.now c.in_ok-line.line.now c.in_ok-line.after.now c.in_ok-place.place 3 c.in_ok-place.ensures c.in_ok-line.ensures

pub returns : goal.returns
returns c =
    let text = c.args.text.now in
    let place = c.in_ok-place.place in
    let part = take (length text - place) (drop place text) in
    let id = c.in_ok-id.ensures in
    let first = c.told.ensures in
    rw (first.line, first.after, first.said)
    (said_line text c.in_ok-line.line.now c.in_ok-line.after.now place 3 c.in_ok-place.ensures c.in_ok-line.ensures
    (id_digits text part _ place 3 refl id.count id.rest) (id_mark text part _ place 3 refl id.count id.rest)
    c.args.known.now c.said_from.result (omega arith) (c.said_from.ensures c.args.known.now))
