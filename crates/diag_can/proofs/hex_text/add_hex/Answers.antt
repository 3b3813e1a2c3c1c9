use Rattle.std.proofs.Common.{ℕ, List, arith, ◌∙◌, ap, ◌++◌}
use Rattle.diag_can.proofs.Hex.{upper_eight}
use Rattle.diag_can.proofs.hex_text.add_hex.Goals as goal

pub loop-eight-preserved : goal.loop-eight-preserved
loop-eight-preserved c =
    let parts = c.in-Some.ensures.cases in
    let more = c.add.ensures.items ∙ ap (λ (digits : List ℕ). c.loop-eight.text.items ++ digits) c.digits_of_eight.ensures in
    record {
      written = upper_eight c.loop-eight.text.items c.add.new.text.items c.loop-eight.rest.now c.in-Some.eight.now c.in-Some.tail.now _
          c.loop-eight.invariant.written parts.0 parts.1 more;
      len = omega (arith, c.loop-eight.invariant.len, c.add.ensures.len, parts.2);
      capacity = c.add.ensures.capacity ∙ c.loop-eight.invariant.capacity;
    }
