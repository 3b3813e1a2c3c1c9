use Rattle.std.proofs.Common.{arith}
use Rattle.diag_desk.proofs.LineText.{hex_decodes, hex_length}
use Rattle.diag_desk.proofs.flat.append_hex.Goals as goal

pub read_hex-requires : goal.read_hex-requires
read_hex-requires c = record {
  hex = hex_decodes c.args.text.now c.requires.hex;
  room = omega (arith, c.requires.room, hex_length c.args.text.now c.requires.hex);
}
