use Rattle.std.proofs.Common.{◌≡◌, ◌≤◌, ◌<◌, Some, length, refl, arith}
use Rattle.std.proofs.lemmas.Option.{slice_get_read}
use Rattle.std.proofs.lemmas.Result.{on_ok_weaker}
use Rattle.std.specs.Prelude.{slice_get}
use Rattle.diag_run.proofs.Written.{wrote_one, wrote_past}
use Rattle.diag_run.proofs.replies.add_at.Goals as goal

pub returns-then-place-len : goal.returns-then-place-len
returns-then-place-len c =
    let past : length c.args.lines.now.items ≤ c.args.place = omega (arith, c.if-place-len.true, c.len.ensures) in
    wrote_past c.args.lines.now.items c.args.place c.args.sent.now.items past

pub returns : goal.returns
returns c =
    let lines = c.args.lines.now.items in
    let before = c.index_mut.result.now in
    let within : c.args.place < length lines = omega (arith, c.if-place-len.false, c.len.ensures, c.args.lines.now.ok.0) in
    let found : slice_get lines c.args.place ≡ Some before =
    slice_get_read lines (length lines) c.args.place before refl within c.index_mut.ensures.value in
    on_ok_weaker c.add.result (λ text. wrote_one lines c.args.place c.args.sent.now.items before c.add.new.self found c.add.ensures.writer text)
    c.add.ensures.text
