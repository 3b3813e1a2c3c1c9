use Rattle.std.proofs.Common.{◌∙◌, map}
use Rattle.std.proofs.lemmas.List.{length-map}
use Rattle.diag_run.proofs.Plays.{answers_woven, as_many_frames}
use Rattle.diag_run.proofs.answer.woven_text.Goals as goal

pub parts_beside-requires-after_bounds : goal.parts_beside-requires-after_bounds
parts_beside-requires-after_bounds g c κs within =
    let played = rw c.as_slice.ensures.value at c.in_ok-played.ensures.played in
    as_many_frames c.args.timing c.args.setup.now _ played.0 played.1 (λ sent. sent.items) c.in_ok-played.played.sent.items _
    c.in_ok-played.played.desk played.2
    (length-map c.args.texts.items (λ text. text.items) ∙ c.requires)

pub returns-clause-gives : goal.returns-clause-gives
returns-clause-gives g c =
    let played = rw c.as_slice.ensures.value at c.in_ok-played.ensures.played in
    answers_woven c.args.timing c.args.setup.now _ played.0 played.1 c.args.only_journal c.in_ok-played.played.desk
    (map (λ sent. sent.items) c.in_ok-played.played.sent.items) c.parts_beside.result played.2 c.parts_beside.ensures.ok c.parts_beside.ensures.err
