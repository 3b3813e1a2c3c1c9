use Rattle.std.proofs.Common.{length, ap, sym, ◌∙◌}
use Rattle.diag_can.specs.declared.frame.Frame.{Frame}
use Rattle.diag_can.proofs.FrameTexts.{count_is}
use Rattle.diag_can.proofs.frame_text.FrameText.len.Goals as goal

pub returns-clause-count : goal.returns-clause-count
returns-clause-count c = sym (count_is c.self.invariant) ∙ ap (λ (frame : Frame). length frame.bytes) c.self.view_is
