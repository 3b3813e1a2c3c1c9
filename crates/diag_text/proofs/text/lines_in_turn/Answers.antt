use Rattle.std.proofs.Common.{◌≡◌, ◌+◌, [], ◌++◌, map, drop, subst, arith, ap, refl, ◌∙◌}
use Rattle.std.proofs.lemmas.List.{drop_all, length-map}
use Rattle.std.specs.List.{concat}
use Rattle.diag_bus.specs.Writing.{writer_of}
use Rattle.diag_text.specs.Text.{lines_of}
use Rattle.diag_text.proofs.Lines.{lines_here, lines_done}
use Rattle.diag_text.proofs.Parts.{whole_lines}
use Rattle.diag_text.proofs.Items.{seen_at}
use Rattle.diag_text.proofs.text.lines_in_turn.Goals as goal

pub loop-index-preserved : goal.loop-index-preserved
loop-index-preserved c =
    let index = c.loop-index.index in
    let setup = c.args.setup.now in
    let frames = c.index-sent-index.result in
    let here = seen_at (λ frames. frames.items) c.args.sent.now index frames c.loop-index-test.true c.index-sent-index.is in
    let who = c.who-who.ensures in
    let before = concat (map (λ part. part.items) c.loop-index.parts.items) in
    let after = concat (map (λ part. part.items) c.add_part.new.parts.items) in
    let own = c.in_ok-lines.ensures ∙ whole_lines (writer_of setup c.who-who.result) frames.items 0 c.len.result refl c.len.ensures in
    let added : after ≡ before ++ lines_of (writer_of setup (index + 1)) frames.items =
    subst (λ n. after ≡ before ++ lines_of (writer_of setup n) frames.items) who (c.in_ok-add_part.ensures ∙ ap (λ t. before ++ t) own) in
    rw added (lines_here setup before (index + 1) frames.items _ _ (rw here at c.loop-index.invariant))

pub returns : goal.returns
returns c =
    let sent = map (λ frames. frames.items) c.args.sent.now in
    let text = concat (map (λ part. part.items) c.loop-index.parts.items) in
    let none : drop c.loop-index.index sent ≡ [] = drop_all c.loop-index.index sent (simp length-map (omega arith)) in
    lines_done c.args.setup.now text (c.loop-index.index + 1) _ (rw none at c.loop-index.invariant)
