use Rattle.std.proofs.Common.{◌≡◌, ◌+◌, ◌-◌, ◌∷◌, [], ◌++◌, List, ℕ, length, take, drop, arith, length-drop, sym, subst, append_assoc, ◌∙◌}
use Rattle.std.proofs.lemmas.List.{append-nil, take_all}
use Rattle.std.proofs.lemmas.Result.{IfErr-weaker, err_from_is_err_and, on_ok_weaker}
use Rattle.diag_text.proofs.Pieces.{no_feed, split_at_feed}
use Rattle.diag_live.specs.Hearing.{Refuses}
use Rattle.diag_live.proofs.Hearings.{keep_refuses, line_more, so_far_hears, so_far_refuses}
use Rattle.diag_live.proofs.hearing.Hearing.take_piece.Goals as goal

pub loop-end-preserved : goal.loop-end-preserved
loop-end-preserved c =
    let rest = c.loop-end.rest.now in
    let end = c.in-Some.end in
    let after = drop (end + 1) rest in
    let all : take (length rest - (end + 1)) after ≡ after = take_all (length rest - (end + 1)) after (omega (arith, length-drop (end + 1) rest)) in
    rw all (line_more c.args.known.now _ _ _ _ c.args.piece.now rest c.loop-end.invariant c.take_line.new.self c.take_line.new.text.items (take end rest) after
    (split_at_feed rest end c.in-Some.ensures) c.in_ok-take_line.ensures.ok)

pub returns-in_err-take_line-clause-err : goal.returns-in_err-take_line-clause-err
returns-in_err-take_line-clause-err c =
    let p = err_from_is_err_and c.from_residual.result c.from_residual.ensures.1 in
    let rest = c.loop-end.rest.now in
    let end = c.in-Some.end in
    let split = split_at_feed rest end c.in-Some.ensures in
    rw (p.1, p.2)
    (so_far_refuses c.args.known.now _ _ _ _ c.args.piece.now rest c.loop-end.invariant (take end rest ++ 10 ∷ []) (drop (end + 1) rest) c.take_line.new.text.items
    c.in_err-take_line.field-0.0 (split ∙ sym (append_assoc (take end rest) (10 ∷ []) (drop (end + 1) rest))) c.in_err-take_line.ensures.err)

pub returns-clause-ok : goal.returns-clause-ok
returns-clause-ok c =
    let rest = c.loop-end.rest.now in
    let plain = no_feed rest c.in_default.ensures in
    on_ok_weaker c.keep.result (λ kept. so_far_hears c.args.known.now _ _ _ _ c.args.piece.now rest c.loop-end.invariant c.keep.new.self plain kept
    c.keep.ensures.lines) c.keep.ensures.ok

pub returns-clause-err : goal.returns-clause-err
returns-clause-err c =
    let rest = c.loop-end.rest.now in
    let text = c.loop-end.text.items in
    let plain = no_feed rest c.in_default.ensures in
    IfErr-weaker c.keep.result _ _
    (λ fault long. so_far_refuses c.args.known.now _ _ _ _ c.args.piece.now rest c.loop-end.invariant rest [] text fault (sym (append-nil rest))
    (subst (λ (b : List ℕ). Refuses c.args.known.now c.loop-end.self b text text fault) (append-nil rest) (keep_refuses c.args.known.now c.loop-end.self rest [] text fault plain long)))
    c.keep.ensures.err
