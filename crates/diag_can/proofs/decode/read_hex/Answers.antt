use Rattle.std.proofs.Common.{◌∙◌, refl, arith}
use Rattle.diag_can.proofs.Pairs.{appended-none, appended-more, decodes-pair}
use Rattle.diag_can.proofs.decode.read_hex.Goals as goal

pub loop-count-init : goal.loop-count-init
loop-count-init c = record {
  read = appended-none c.args.text.now c.args.bytes.now.items;
  len = omega arith;
  capacity = refl;
}

pub byte-requires : goal.byte-requires
byte-requires c =
    decodes-pair c.args.text.now c.loop-count.count c.requires.hex (omega (arith, c.loop-count-test.true))

pub loop-count-preserved : goal.loop-count-preserved
loop-count-preserved c = record {
  read = appended-more c.args.text.now c.args.bytes.now.items c.loop-count.bytes.items c.push_reserved.new.self.items c.loop-count.count c.byte.result
      c.loop-count.invariant.read (omega (arith, c.loop-count-test.true)) c.byte.ensures c.push_reserved.ensures.items;
  len = omega (arith, c.loop-count.invariant.len, c.push_reserved.ensures.len);
  capacity = c.push_reserved.ensures.capacity ∙ c.loop-count.invariant.capacity;
}
