use Rattle.std.proofs.Common.{◌≡◌, ◌++◌, codes, decimal, rules}
use Rattle.diag_text.proofs.told.difference_text.Goals as goal

pub returns : goal.returns
returns c =
    let number : c.add_number.new.text.items ≡ codes "line " ++ decimal c.args.difference.now.line = search rules in
    search rules
