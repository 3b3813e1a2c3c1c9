use Rattle.std.proofs.Common.{◌∷◌, [], ◌++◌, ◌∙◌, refl, sym, ap, arith, length-append}
use Rattle.diag_ecu.specs.Respond.{reply}
use Rattle.diag_pdu.specs.Request.{request_of}
use Rattle.diag_desk.specs.Entries.{asks}
use Rattle.diag_desk.specs.Entry.{IsEntry}
use Rattle.diag_desk.specs.Text.{line_after}
use Rattle.diag_desk.proofs.ClockLemmas.{tells_still}
use Rattle.diag_desk.proofs.EntryLemmas.{journal_more}
use Rattle.diag_desk.proofs.FollowLemmas.{plays_same}
use Rattle.diag_desk.proofs.UsualLemmas.{usual_line}
use Rattle.diag_desk.proofs.following.Follower.take_request.Goals as goal

pub returns-clause-some : goal.returns-clause-some
returns-clause-some c = λ past f.
    let who = c.args.who in
    let functional = c.args.functional in
    let rest = c.in-Some.rest.now in
    let old = c.args.self.now in
    let answered = c.in-Some.ensures.some in
    let said = reply old.play.ecu who functional answered.message in
    let e = asks who (request_of functional answered.message) said in
    let number = c.number-number.ensures in
    let is : IsEntry e = (omega (arith, number), omega (arith, number), (answered.is_message, answered.is_reply)) in
    let counted = f.count in
    let free = c.requires.usual.count in
    record {
      entry = e;
      line = usual_line functional who answered.message said _ c.args.text.now rest refl answered.is
          ∙ ap (λ b. line_after b past e ++ 10 ∷ rest) (sym c.requires.usual.version);
      follows = record {
        journal = journal_more past (past ++ e ∷ []) e f.journal is (λ full. absurd (omega arith)) refl;
        clocks = tells_still old.clocks.ticks past e refl f.clocks;
        count = omega (arith, length-append past (e ∷ []));
        play = plays_same c.args.setup.now old.play c.answers_front.new.self past e c.requires.usual.differs c.in-Some.ensures.differs
            c.requires.usual.tester refl answered.state f.play;
      };
    }
