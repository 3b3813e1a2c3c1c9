use Rattle.std.proofs.Common.{length, nat_lt, ap, sym, ◌∙◌}
use Rattle.diag_can.specs.declared.frame.Frame.{Frame}
use Rattle.diag_can.proofs.FrameTexts.{count_is}
use Rattle.diag_can.proofs.frame_text.FrameText.is_long.Goals as goal

pub returns : goal.returns
returns c = ap (nat_lt 8) (sym (count_is c.self.invariant) ∙ ap (λ (frame : Frame). length frame.bytes) c.self.view_is)
