use Rattle.std.proofs.Common.{◌≡◌, [], rules}
use Rattle.std.proofs.KnownBytes.{Consumes-whole}
use Rattle.diag_text.proofs.io.read_whole.Goals as goal

pub returns-clause-whole : goal.returns-clause-whole
returns-clause-whole g c =
    let read = c.in_ok-read_into.ensures.read in
    Consumes-whole _ _ read.0 (λ known. c.read_into.new.taker.items ≡ known) read.1 c.in_ok-read_into.ensures.end (read.2.1 [] (search rules))

pub returns-clause-within : goal.returns-clause-within
returns-clause-within g c =
    let read = c.in_ok-read_into.ensures.read in
    let same : c.read_into.new.taker.items ≡ read.0 = read.2.1 [] (search rules) in
    rw same read.2.0

pub returns-clause-read : goal.returns-clause-read
returns-clause-read g c =
    let read = c.in_ok-read_into.ensures.read in
    let same : c.read_into.new.taker.items ≡ read.0 = read.2.1 [] (search rules) in
    rw same read.1
