use Rattle.std.proofs.Common.{◌≡◌, ◌+◌, ◌∷◌, [], ◌++◌, length, refl, arith, length-append}
use Rattle.diag_desk.specs.Line.{line_entry}
use Rattle.diag_desk.proofs.EntryLemmas.{journal_more}
use Rattle.diag_desk.proofs.ReadLemmas.{clocks_more}
use Rattle.diag_desk.proofs.following.Follower.take.Goals as goal

pub returns-clause-ok : goal.returns-clause-ok
returns-clause-ok c = λ past f.
    let entry = line_entry c.in-Some.entry in
    let count = f.count in
    let number : c.args.self.now.count + 1 ≡ length past + 1 = omega arith in
    record {
      entry = entry;
      is_entry = c.in-Some.ensures.entry;
      line = c.in-Some.ensures.some past f.clocks;
      follows = record {
        journal = journal_more past (past ++ entry ∷ []) entry f.journal c.in-Some.ensures.entry (λ full. absurd (omega arith)) refl;
        clocks = clocks_more past (past ++ entry ∷ []) entry c.args.self.now.clocks.ticks c.set.new.self.ticks c.clock_with-clock.result
            c.in-Some.ensures.entry f.clocks refl (c.clock_with-clock.ensures past f.clocks) c.set.ensures;
        count = omega (arith, length-append past (entry ∷ []));
        play = c.in-Ok.ensures.ok past number f.play;
      };
    }

pub returns-in-Err-clause-memory : goal.returns-in-Err-clause-memory
returns-in-Err-clause-memory c = λ e past f.
    let count = f.count in
    let asks = c.in-Err.ensures.memory in
    record {
      next = record {
        entry = line_entry c.in-Some.entry;
        is_entry = c.in-Some.ensures.entry;
        room = omega arith;
        line = c.in-Some.ensures.some past f.clocks;
      };
      run = (f.play.run asks.0).0;
      tester = asks.1;
      request = asks.2;
    }
