use Rattle.std.proofs.Common.{◌≡◌, rules}
use Rattle.hex.specs.Hex.{encode_upper}
use Rattle.diag_can.specs.Reply.{id_text, mark_text, stamp}
use Rattle.diag_can.proofs.Hex.{line_pieces}
use Rattle.diag_can.proofs.reply.write_line.Goals as goal

pub returns-clause-ok : goal.returns-clause-ok
returns-clause-ok c =
    let before : c.replace-line.result.items ≡ c.args.text.now.items = search rules in
    line_pieces c.args.text.now.items (stamp c.args.at) c.args.name.now (id_text c.args.id) (mark_text c.args.flags) (encode_upper c.args.bytes.now)
    c.replace-line.result.items c.add_stamp.new.text.items c.add.new.text.items c.add_id.new.text.items c.add_mark.new.text.items c.add_data.new.text.items
    before c.add_stamp.ensures.items c.add.ensures.items c.add_id.ensures.items c.add_mark.ensures.items c.add_data.ensures
