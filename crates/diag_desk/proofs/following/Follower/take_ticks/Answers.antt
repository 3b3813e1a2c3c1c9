use Rattle.std.proofs.Common.{◌∷◌, [], ◌++◌, ◌∙◌, None, refl, sym, ap, arith, length-append}
use Rattle.diag_pdu.specs.declared.step.Step.TheVariants.{Ticks}
use Rattle.diag_desk.specs.Entries.{entry}
use Rattle.diag_desk.specs.Entry.{IsEntry}
use Rattle.diag_desk.specs.Text.{line_after}
use Rattle.diag_desk.proofs.ClockLemmas.{sum_bound}
use Rattle.diag_desk.proofs.EntryLemmas.{journal_more}
use Rattle.diag_desk.proofs.FollowLemmas.{plays_same}
use Rattle.diag_desk.proofs.ReadLemmas.{clocks_more}
use Rattle.diag_desk.proofs.UsualLemmas.{ticks_line}
use Rattle.diag_desk.proofs.following.Follower.take_ticks.Goals as goal

pub overflow_add-clock : goal.overflow_add-clock
overflow_add-clock c =
    let past = c.requires.follows.0 in
    let f = c.requires.follows.1 in
    let number = c.number-number.ensures in
    let bound = sum_bound c.args.who past f.journal.0 in
    let told = f.clocks.each c.args.who (omega (arith, number)) in
    omega (arith, bound, told, f.journal.1, c.at.ensures.same, c.in-Some.ensures.count)

pub returns-clause-some : goal.returns-clause-some
returns-clause-some c = λ past f.
    let who = c.args.who in
    let count = c.in-Some.front.count in
    let rest = c.in-Some.front.rest.now in
    let old = c.args.self.now in
    let e = entry who (Ticks count) None in
    let number = c.number-number.ensures in
    let counts = c.in-Some.ensures.count in
    let is : IsEntry e = (omega (arith, number), omega (arith, number), (omega (arith, counts), omega (arith, counts), refl)) in
    let counted = f.count in
    let free = c.requires.usual.count in
    let told = f.clocks.each who (omega (arith, number)) in
    record {
      entry = e;
      line = ticks_line who count _ c.args.text.now rest refl c.in-Some.ensures.is ∙ ap (λ b. line_after b past e ++ 10 ∷ rest) (sym c.requires.usual.version);
      follows = record {
        journal = journal_more past (past ++ e ∷ []) e f.journal is (λ full. absurd (omega arith)) refl;
        clocks = clocks_more past (past ++ e ∷ []) e old.clocks.ticks c.set.new.self.ticks _ is f.clocks refl
            (omega (arith, c.at.ensures.same, told, c.from.ensures)) c.set.ensures;
        count = omega (arith, length-append past (e ∷ []));
        play = plays_same c.args.setup.now old.play _ past e c.requires.usual.differs refl c.requires.usual.tester refl c.ticks.ensures f.play;
      };
    }
