use Rattle.std.proofs.Common.{rules, ℕ, List, refl, subst}
use Rattle.std.specs.Io.KnownBytes.{Appends}
use Rattle.diag_run.specs.Capturing.{GoesOn}
use Rattle.diag_run.specs.Wanted.{any_lines, replies_wanted}
use Rattle.diag_live.proofs.serving.Serving.deliver.Goals as goal

pub returns-in-Ok-clause-ok : goal.returns-in-Ok-clause-ok
returns-in-Ok-clause-ok g c =
    let text = c.args.self.now.text.items in
    let sends = c.in-Ok.ensures.ok in
    let on : GoesOn any_lines replies_wanted c.args.self.now.capture c.take_piece.new.self text sends.0 =
    subst (λ (b : List ℕ). GoesOn any_lines replies_wanted c.args.self.now.capture c.take_piece.new.self b sends.0) c.as_slice-2.ensures.value sends.2 in
    let noted : Appends (g.R.Target.contents c.args.recorder.now) (g.R.Target.contents c.write_text.new.out) text = search rules in
    (sends.0, sends.1, (text, noted, record { whole = refl; on = on; none = c.in-Ok.ensures.written }))
