use Rattle.std.proofs.Common.{ap, arith}
use Rattle.diag_tp.proofs.Takings.{settles, settled-numbers}
use Rattle.diag_tp.proofs.Views.{reply_room, reply_room_made}
use Rattle.diag_tp.proofs.link.Link.settle.Goals as goal

pub returns : goal.returns
returns c =
    let done = c.finish.ensures in
    let old = c.args.self.now.state in
    let numbers = settled-numbers old c.args.taken c.requires.drained in
    record {
      stands = λ s E A Q h event is. rw done.state (settles s old E A Q event c.args.taken is c.requires.drained h);
      reply_room = λ h. reply_room_made c.finish.new.self (rw done.reply_room (reply_room c.args.self.now h));
      reply_rooms = rw done.reply_room (omega arith);
      unsent = rw done.state numbers.frames;
      due = rw done.state numbers.now;
      waiting = rw done.state numbers.replies;
      time = ap (λ l. l.now) done.state;
      setup = ap (λ l. l.setup) done.state;
    }
