-- Replaying a journal's text as it is read: what one entry more makes of it.
use Rattle.std.proofs.Common.{◌≡◌, ℕ, ◌+◌, ◌-◌, ◌≤◌, List, [], ◌∷◌, ◌++◌, length, Some, None, refl, sym, ap, ◌∙◌, subst, arith, take, slice_get, length-append}
use Rattle.std.proofs.Math.Seq.{take-append_seam}
use Rattle.std.proofs.lemmas.List.{take-append-le}
use Rattle.std.proofs.lemmas.Option.{same_Some}
use Rattle.diag_setup.specs.declared.raw.RawSetup.{RawSetup}
use Rattle.diag_ecu.specs.State.{State, opening}
use Rattle.diag_desk.specs.declared.entry.Entry.{Entry}
use Rattle.diag_desk.specs.declared.following.Play.{Play}
use Rattle.diag_desk.specs.Following.{Plays}
use Rattle.diag_desk.specs.Legal.{after, after_step, reply_to}
use Rattle.diag_desk.specs.Replay.{DiffersAt, IsLegalFor}
use Rattle.diag_desk.proofs.Runs.{differs_at, keeps_legal, testers_more}

at_end : (past : List Entry) (e : Entry) → slice_get (past ++ e ∷ []) (length past) ≡ Some e
at_end [] e = refl
at_end (x ∷ xs) e = at_end xs e

run_on : (setup : RawSetup) (past : List Entry) (e : Entry) (now next : State) → IsLegalFor setup past → now ≡ after (opening setup) past
    → e.who ≤ length setup.testers → e.reply ≡ reply_to now e.who e.step → next ≡ after_step now e.who e.step
    → IsLegalFor setup (past ++ e ∷ []) × (next ≡ after (opening setup) (past ++ e ∷ []))
run_on setup past e now next run is who reply step =
    let kept = keeps_legal (opening setup) past (past ++ e ∷ []) e now next (run.1, is) refl reply step in
    ((testers_more (length setup.testers) past e run.0 who, kept.0), kept.1)

differs_here : (setup : RawSetup) (past : List Entry) (e : Entry) (now : State) → IsLegalFor setup past → now ≡ after (opening setup) past
    → (e.who ≤ length setup.testers → e.reply ≡ reply_to now e.who e.step → ⊥) → DiffersAt setup (past ++ e ∷ []) (length past + 1)
differs_here setup past e now run is other =
    let front : past ≡ take (length past) (past ++ e ∷ []) = sym (take-append_seam past (e ∷ [])) in
    differs_at setup (past ++ e ∷ []) (length past) e now (at_end past e) (subst (IsLegalFor setup) front run) (is ∙ ap (after (opening setup)) front) other

-- what differs goes on to do so
differs_on : (setup : RawSetup) (past more : List Entry) (n : ℕ) → DiffersAt setup past n → DiffersAt setup (past ++ more) n
differs_on setup past more n d =
    let one = d.some in
    let below = d.within in
    let short : take (n - 1) past ≡ take (n - 1) (past ++ more) = sym (take-append-le (n - 1) past more (omega arith)) in
    let long : take n (past ++ more) ≡ take n past = take-append-le n past more below in
    record {
      some = one;
      within = omega (arith, below, length-append past more);
      before = subst (IsLegalFor setup) short d.before;
      differs = λ h. d.differs (subst (IsLegalFor setup) long h);
    }

-- an entry behind one that differs
pub plays_behind : (setup : RawSetup) (play : Play) (past : List Entry) (e : Entry) → (play.differs ≡ None → ⊥) → Plays setup play past
    → Plays setup play (past ++ e ∷ [])
plays_behind setup play past e some h = record {
  run = λ none. absurd (some none);
  differs = λ n is. differs_on setup past (e ∷ []) n (h.differs n is);
}

-- an entry whose reply is the ECU's
pub plays_same : (setup : RawSetup) (play new : Play) (past : List Entry) (e : Entry) → play.differs ≡ None → new.differs ≡ play.differs
    → e.who ≤ length setup.testers
    → e.reply ≡ reply_to play.ecu e.who e.step → new.ecu ≡ after_step play.ecu e.who e.step → Plays setup play past → Plays setup new (past ++ e ∷ [])
plays_same setup play new past e none kept who reply step h =
    let so_far = h.run none in
    record {
      run = λ _. run_on setup past e play.ecu new.ecu so_far.0 so_far.1 who reply step;
      differs = λ n is. cc (sym none ∙ sym kept ∙ is);
    }

-- the first entry that differs
pub plays_other : (setup : RawSetup) (play new : Play) (past : List Entry) (e : Entry) (number : ℕ) → play.differs ≡ None → new.differs ≡ Some number
    → number ≡ length past + 1
    → (e.who ≤ length setup.testers → e.reply ≡ reply_to play.ecu e.who e.step → ⊥) → Plays setup play past → Plays setup new (past ++ e ∷ [])
plays_other setup play new past e number none is at other h =
    let so_far = h.run none in
    record {
      run = λ no. cc (sym is ∙ no);
      differs = λ n some.
          let same : number ≡ n = same_Some number n (sym is ∙ some) in
          subst (DiffersAt setup (past ++ e ∷ [])) (sym at ∙ same) (differs_here setup past e play.ecu so_far.0 so_far.1 other);
    }
