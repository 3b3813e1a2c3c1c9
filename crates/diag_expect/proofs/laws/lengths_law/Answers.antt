use Rattle.std.proofs.Common.{◌∙◌}
use Rattle.diag_expect.proofs.Lengths.{elapse_lengths, opening_lengths, request_lengths}
use Rattle.diag_expect.proofs.laws.lengths_law.Goals as goal

pub returns : goal.returns
returns c = record {
  opening = opening_lengths;
  request = λ setup s who p h id. request_lengths s who p id ∙ h id;
  time = λ setup s who n h id. elapse_lengths s who n id ∙ h id;
}
