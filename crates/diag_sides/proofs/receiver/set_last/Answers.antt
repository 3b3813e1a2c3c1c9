use Rattle.std.proofs.Common.{◌≡◌, ◌-◌, ◌≤◌, ◌∙◌, ap, arith, false, length, take, List, ℕ}
use Rattle.std.proofs.lemmas.List.{length-take-le}
use Rattle.diag_pdu.specs.Request.{request_of}
use Rattle.diag_sides.specs.Receiver.{kept_bytes}
use Rattle.diag_sides.proofs.Parts.{set-over}
use Rattle.diag_sides.proofs.receiver.set_last.Goals as goal

pub returns-clause-staged : goal.returns-clause-staged
returns-clause-staged c =
    let len = c.args.len in
    let m = c.args.request.now.message in
    let part = c.args.part.now in
    let kept = kept_bytes c.args.rx_dl len c.args.count in
    let size : length m ≡ len = c.requires.whole.1 in
    let within : kept ≤ len = omega arith in
    let fits = c.requires.fits in
    let few : length (take (len - kept) part) ≡ len - kept = length-take-le (len - kept) part (omega arith) in
    let over = rw (c.kept_bytes.ensures, c.from.ensures, few, size) at c.set_end.ensures in
    rw c.requires.whole.0 (ap (λ (l : List ℕ). request_of false l) (over ∙ set-over len m part kept size within fits))
