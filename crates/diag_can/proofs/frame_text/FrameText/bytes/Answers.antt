use Rattle.std.proofs.Common.{◌≤◌, length, ap, sym, ◌∙◌, arith}
use Rattle.diag_can.specs.FrameText.{bytes_or_none}
use Rattle.diag_can.specs.declared.frame.Frame.{Frame}
use Rattle.diag_can.proofs.FrameTexts.{count_is}
use Rattle.diag_can.proofs.frame_text.FrameText.bytes.Goals as goal

pub last_of-requires : goal.last_of-requires
last_of-requires c = omega (arith, count_is c.self.invariant, ap (λ (frame : Frame). length frame.bytes) c.self.view_is)

pub returns : goal.returns
returns c =
    let here = c.self.view_is in
    let few : c.self.inside.count ≤ 8 = omega (arith, count_is c.self.invariant, ap (λ (frame : Frame). length frame.bytes) here) in
    c.last_of.ensures ∙ ap bytes_or_none (sym (c.last_eight.ensures c.self.inside.count c.self.invariant few)) ∙ ap (λ (frame : Frame). frame.bytes) here
