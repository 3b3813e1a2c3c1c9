use Rattle.std.proofs.Common.{◌≡◌, Ok, arith}
use Rattle.diag_run.specs.Files.{config_of}
use Rattle.diag_run.proofs.Inputs.{miscounted}
use Rattle.diag_run.proofs.Reading.{AreKnown-length}
use Rattle.diag_run.proofs.file_run.read_counted.Goals as goal

pub returns-then-wanted-given-clause-fails : goal.returns-then-wanted-given-clause-fails
returns-then-wanted-given-clause-fails g c bytes known config_is files_are =
    let config : config_of bytes ≡ Ok c.in_ok-setup.setup = rw config_is at c.in_ok-setup.ensures.read in
    let count = AreKnown-length g.R.Source.remaining c.args.files.now known files_are in
    let told = c.wanted-wanted.ensures in
    rw (told, count) (miscounted c.args.job bytes known c.in_ok-setup.setup config (λ same. omega (arith, told, count, same, c.if-wanted-given.true)))
