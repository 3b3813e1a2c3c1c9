use Rattle.std.proofs.Common.{◌≡◌, ◌++◌, ◌∷◌, [], List, ℕ, ap, ◌∙◌}
use Rattle.diag_tp.specs.declared.sent.Sent.{Sent}
use Rattle.diag_bus.specs.Text.{drawn_for}
use Rattle.diag_bus.proofs.Texts.{frames_more}
use Rattle.diag_bus.proofs.writing.add_frames.Goals as goal

pub loop-index-preserved : goal.loop-index-preserved
loop-index-preserved c =
    let before = c.loop-index.batch.items in
    let inside = c.sent.inside in
    let kept : List ℕ → Sent = λ bytes. record { at = inside.at; frame = record { id = inside.id; bytes = bytes } } in
    let same : kept c.in_ok-bytes.bytes ≡ c.get-sent.result = ap kept c.in_ok-bytes.ensures.value ∙ c.sent.view_is in
    frames_more (drawn_for c.args.who) c.args.frames.now.items c.loop-index.index c.get-sent.result c.args.batch.now.items before c.push.new.self.items
    c.get-sent.ensures c.loop-index.invariant
    (c.in_ok-push.ensures.items ∙ ap (λ (s : Sent). before ++ drawn_for c.args.who s ∷ []) same)
