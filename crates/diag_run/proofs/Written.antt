-- How a play goes on that writes as it goes, and what it has written at its end.
use Rattle.std.proofs.Common.{◌≡◌, ◌≢◌, ◌≤◌, ◌<◌, ℕ, zero, suc, ◌+◌, ◌-◌, ◌*◌, Bool, true, false, Option, Some, None, List, [], ◌∷◌, ◌++◌, length, length-append, map, refl, ap, ap₂, subst, sym, ◌∙◌, arith, add-one, append_assoc, inl, inr}
use Rattle.std.proofs.lemmas.Grind.{flat_map-append}
use Rattle.std.proofs.lemmas.List.{append-nil, length-map, length-set, map-append}
use Rattle.std.proofs.lemmas.Option.{slice_get_within}
use Rattle.std.specs.Prelude.{◌⊎◌, if◌then◌else◌, slice_get, slice_set}
use Rattle.std.specs.Global.{Vec}
use Rattle.std.specs.List.{concat}
use Rattle.std.specs.Option.{option_to_list}
use Rattle.diag_can.specs.Event.{Event}
use Rattle.diag_can.specs.Reply.{reply_line}
use Rattle.diag_can.specs.WriterView.{WriterView}
use Rattle.diag_can.specs.declared.log.Timing.{Timing}
use Rattle.diag_can.specs.declared.log.Timing.TheVariants.{Lines, Stamps}
use Rattle.diag_setup.specs.declared.raw.RawSetup.{RawSetup}
use Rattle.diag_setup.specs.Setup.{link_of}
use Rattle.diag_pdu.proofs.CutFrames.{length-counted}
use Rattle.diag_pdu.proofs.Lists.{map-at}
use Rattle.diag_pdu.specs.Cut.{counted_from}
use Rattle.diag_tp.specs.declared.sent.Sent.{Sent}
use Rattle.diag_pdu.specs.declared.setup.LinkSetup.{LinkSetup}
use Rattle.diag_tp.specs.Wire.{grant, sendings, wire}
use Rattle.diag_ecu.specs.State.{State, opening}
use Rattle.diag_desk.specs.declared.entry.Entry.{Entry}
use Rattle.diag_desk.specs.Entry.{most_entries}
use Rattle.diag_desk.specs.Legal.{after}
use Rattle.diag_desk.specs.Text.{ended, entry_line, stamped_line, text_of, ticks_in}
use Rattle.diag_desk.proofs.ReadLemmas.{text_one}
use Rattle.diag_port.specs.declared.pace.Pace.{Pace}
use Rattle.diag_port.specs.Late.{pace_of}
use Rattle.diag_port.specs.Releasing.{drawn}
use Rattle.diag_port.specs.Port.{Grew, PortState}
use Rattle.diag_port.specs.Standing.{HasKept}
use Rattle.diag_world.specs.Server.{IsEarly, ServerState, ServerTook, ServerView, Serves, Settled, sent_to, server_of}
use Rattle.diag_world.specs.World.{Stands, WorldState}
use Rattle.diag_world.proofs.Worlds.{other_place, set_cases}
use Rattle.diag_bus.specs.Node.{IsBy}
use Rattle.diag_bus.proofs.Nodes.{clock_told}
use Rattle.diag_bus.specs.Writing.{writer_of}
use Rattle.diag_text.specs.Text.{end_text, journal_part, lines_from, lines_of}
use Rattle.diag_text.proofs.Lines.{concat_more}
use Rattle.diag_run.specs.Playing.{AreTexts, AreUnwritten, Enters, EntersMore, EntersOne, IsReady, Plays, Replies, Terms, Took, WroteTo, version_of, parts_text}
use Rattle.diag_run.specs.Run.{played_text}
use Rattle.diag_run.specs.declared.journal_lines.JournalLines.{JournalLines}
use Rattle.diag_run.specs.declared.replies.ReplyLines.{ReplyLines}
use Rattle.diag_run.specs.declared.playing.Playing.{Playing}

-- ---- the journal's text

-- an entry more
pub enters_more : (old new : JournalLines) (before : ℕ) (k : Entry) → new.version ≡ old.version → new.count ≡ old.count + 1
    → new.text.items ≡ old.text.items ++ ended (stamped_line old.version (before + ticks_in k.step) (entry_line k))
    → EntersMore old new before (Some k)
enters_more old new before k same count text = λ version K h told. record {
  same = same ∙ h.same;
  text = text ∙ (λ j. h.text j ++ ended (stamped_line (h.same j) (told j + ticks_in k.step) (entry_line k))) ∙ sym (text_one version K k);
  number = omega (arith, count, h.number, length-append K (k ∷ []));
}

-- what is kept of an event, with or without an entry
module _ (old new : JournalLines) (now : ℕ) where
  enters_asked : (asked : Option Entry) → HasKept EntersOne old new now asked → EntersMore old new now asked
  enters_asked None kept = λ version K h told.
      subst (Enters new version) (sym (append-nil K)) (subst (λ (l : JournalLines). Enters l version K) (sym kept) h)
  enters_asked (Some k) kept = kept.0

  pub count_asked : (asked : Option Entry) → HasKept EntersOne old new now asked → new.count ≡ old.count + length (option_to_list asked)
  count_asked None kept = omega (arith, ap (λ (l : JournalLines). l.count) kept)
  count_asked (Some k) kept = omega (arith, kept.1)

  pub few_asked : (asked : Option Entry) → HasKept EntersOne old new now asked → old.count ≤ most_entries → new.count ≤ most_entries
  few_asked None kept few = omega (arith, ap (λ (l : JournalLines). l.count) kept, few)
  few_asked (Some k) kept few = kept.2

-- ---- the clocks

-- an event goes on by no more than its entry gives
pub paced_more : (old new : ServerView) (who n m : ℕ) (e : Event) (asked : Option Entry) (more : List Sent)
    → Settled (server_of old) (server_of new) who e asked more → IsBy old (60000 * n) → m ≡ n + length (option_to_list asked)
    → IsBy new (60000 * m)
paced_more old new who n m e asked more settled by count = λ i port at.
    let moved = settled.moved in
    elim (set_cases (server_of old).ports (who - 1) i moved.after port (subst (λ ps. slice_get ps i ≡ Some port) moved.set at)) [
      | inl p ↦ (
          let same : port.link.now ≡ moved.after.link.now = ap (λ (q : PortState). q.link.now) p.1 in
          let low = by (who - 1) moved.before moved.found in
          omega (arith, same, moved.pace, low, count))
      | inr p ↦ (let low = by i port p.1 in omega (arith, low, count))
    ]

-- so no clock runs out
pub early_by : (server : ServerView) (n i : ℕ) → n ≤ most_entries → IsBy server (60000 * n) → IsEarly server i
early_by server n i few by = λ port found.
    let low = by i port found in
    omega (arith, low, few)

-- ---- an event

-- what an event drew into an empty list is all that is there
settled_out : (old new : ServerState) (who : ℕ) (e : Event) (asked : Option Entry) (before after : List Sent) → before ≡ []
    → Grew before after (λ more. Settled old new who e asked more)
    → Settled old new who e asked after
settled_out old new who e asked before after none grew =
    let all : after ≡ grew.more = grew.grown ∙ ap (λ fs. fs ++ grew.more) none in
    subst (λ fs. Settled old new who e asked fs) (sym all) grew.holds

-- what the server took and the journal's text keeps
pub took_more : (old new : Playing) (who : ℕ) (e : Event) → 1 ≤ who → old.out.items ≡ []
    → ServerTook (λ j _ before k j'. EntersOne j before k j') (server_of old.server) (server_of new.server) old.journal new.journal who e old.out.items new.out.items
    → Took old new who e
took_more old new who e some none took = λ setup version M K serves h.
    let moved = took.sent.holds.moved in
    let place : who ≡ (who - 1) + 1 = omega (arith, some) in
    record {
      asked = took.asked;
      served = (settled_out (server_of old.server) (server_of new.server) who e took.asked old.out.items new.out.items none took.sent).served setup M K serves;
      enters = enters_asked old.journal new.journal moved.before.link.now took.asked took.kept version K h
          (clock_told setup (server_of old.server) M K who (who - 1) moved.before took.asked serves place moved.found took.early took.by);
    }

same_or_not : (i j : ℕ) → (i ≡ j) ⊎ (i ≢ j)
same_or_not zero zero = inl refl
same_or_not zero (suc j) = inr (λ e. absurd (omega (arith, e)))
same_or_not (suc i) zero = inr (λ e. absurd (omega (arith, e)))
same_or_not (suc i) (suc j) = elim (same_or_not i j) [ inl e ↦ inl (ap suc e) | inr apart ↦ inr (λ e. apart (omega (arith, e))) ]

-- no frame was drawn
pub wrote_none : (lines : List ReplyLines) (place : ℕ) (frames : List Sent) → frames ≡ [] → WroteTo lines lines place frames
wrote_none lines place frames none = record {
  many = refl;
  each = λ i tester at.
      let same : tester.text.items ≡ tester.text.items ++ lines_of tester.writer frames =
      sym (append-nil tester.text.items) ∙ ap (λ fs. tester.text.items ++ lines_of tester.writer fs) (sym none) in
      let here : ((i ≡ place) × (tester.text.items ≡ tester.text.items ++ lines_of tester.writer frames))
      ⊎ ((i ≢ place) × (tester.text.items ≡ tester.text.items)) =
      elim (same_or_not i place) [ inl e ↦ inl (e, same) | inr apart ↦ inr (apart, refl) ] in
      (tester, at, refl, here);
}

-- no lines of the tester are wanted
pub wrote_past : (lines : List ReplyLines) (place : ℕ) (frames : List Sent) → length lines ≤ place → WroteTo lines lines place frames
wrote_past lines place frames past = record {
  many = refl;
  each = λ i tester at.
      let within = slice_get_within lines i tester at in
      (tester, at, refl, inr ((λ e. absurd (omega (arith, e, within, past))), refl));
}

-- the lines of the frames were added
pub wrote_one : (lines : List ReplyLines) (place : ℕ) (frames : List Sent) (before after : ReplyLines) → slice_get lines place ≡ Some before
    → after.writer ≡ before.writer → after.text.items ≡ before.text.items ++ lines_of before.writer frames
    → WroteTo lines (slice_set lines place after) place frames
wrote_one lines place frames before after found named text = record {
  many = length-set lines place after;
  each = λ i tester at. elim (set_cases lines place i after tester at) [
    | inl p ↦ (
      before,
      subst (λ k. slice_get lines k ≡ Some before) (sym p.0) found,
      ap (λ (t : ReplyLines). t.writer) p.1 ∙ named,
      inl (p.0, ap (λ (t : ReplyLines). t.text.items) p.1 ∙ text),
    )
    | inr p ↦ (tester, p.1, refl, inr (p.0, refl))
  ];
}

-- the lines of a tester who was sent further frames
pub replies_more : (name : WriterView) (before tester : ReplyLines) (sent more all : List Sent) → Replies name before sent
    → tester.writer ≡ before.writer → tester.text.items ≡ before.text.items ++ lines_of before.writer more → all ≡ sent ++ more
    → Replies name tester all
replies_more name before tester sent more all h named text grown = record {
  named = named ∙ h.named;
  text = text ∙ (λ j. h.text j ++ lines_of (h.named j) more) ∙ sym (flat_map-append (λ (s : Sent). reply_line name.name name.flags s.at s.frame) sent more) ∙ ap (lines_of name) (sym grown);
}

-- an event more, of which all is written
pub plays_more : (old mid new : Playing) (who : ℕ) (e : Event) → 1 ≤ who → Took old mid who e → mid.lines ≡ old.lines
    → new.server ≡ mid.server → new.journal ≡ mid.journal → WroteTo mid.lines.items new.lines.items (who - 1) mid.out.items
    → (terms : Terms) (M : List (ℕ × Event)) → Plays terms old M → Plays terms new (M ++ (who, e) ∷ [])
plays_more old mid new who e some took lines server journal wrote terms M h =
    let entered = took terms.setup (version_of terms.timing) M h.entries h.serves h.journal in
    let served = entered.served in
    let K' = h.entries ++ option_to_list entered.asked in
    let M' = M ++ (who, e) ∷ [] in
    let place : who ≡ (who - 1) + 1 = omega (arith, some) in
    record {
      entries = K';
      serves = subst (λ s. Serves terms.setup (server_of s) M' K') (sym server) served.serves;
      journal = subst (λ j. Enters j (version_of terms.timing) K') (sym journal) entered.enters;
      many = wrote.many ∙ (ap (λ ls. length ls.items) lines ∙ h.many);
      each = λ i tester at.
          let was = wrote.each i tester at in
          let before = was.0 in
          let replies = h.each i before (subst (λ ls. slice_get ls.items i ≡ Some before) lines was.1) in
          let name = writer_of terms.setup (i + 1) in
          let result : Replies name tester (sent_to terms.setup M' K' (i + 1)) = elim was.3 [
            | inl p ↦ (
                let here : who ≡ i + 1 = omega (arith, p.0, place) in
                replies_more name before tester _ mid.out.items _ replies was.2 p.1
                (subst (λ t. sent_to terms.setup M' K' t ≡ sent_to terms.setup M h.entries t ++ mid.out.items) here served.grown))
            | inr p ↦ record {
              named = was.2 ∙ replies.named;
              text = p.1 ∙ replies.text ∙ ap (lines_of name) (sym (served.others (i + 1) (other_place (who - 1) i who place p.0)));
            }
          ] in
          result;
    }

-- ---- the beginning

-- before the first event nothing is drawn
nothing_drawn : (s : LinkSetup) (pace : Pace) → drawn s pace [] [] ≡ []
unfolding wire grant sendings
nothing_drawn s pace = refl

pub plays_begin : (terms : Terms) (playing : Playing) → Serves terms.setup (server_of playing.server) [] []
    → Enters playing.journal (version_of terms.timing) []
    → AreUnwritten terms.setup playing.lines.items → length playing.lines.items ≡ (if terms.only_journal then 0 else length terms.setup.testers)
    → Plays terms playing []
plays_begin terms playing serves enters none many = record {
  entries = [];
  serves = serves;
  journal = enters;
  many = many;
  each = λ i tester at.
      let first = none i tester at in
      record { named = first.named; text = first.text ∙ ap (lines_of (writer_of terms.setup (i + 1))) (sym (nothing_drawn (link_of terms.setup (i + 1)) (pace_of terms.setup))) };
}

pub ready_begins : (setup : RawSetup) (playing : Playing) → Serves setup (server_of playing.server) [] [] → playing.journal.count ≡ 0 → playing.out.items ≡ []
    → IsReady playing
ready_begins setup playing serves none out = record {
  paced = record {
    few = omega (arith, none);
    clocks = λ i port at. omega (arith, (serves.ports i port at).stands.stands.now);
  };
  out = out;
}

-- ---- the end

-- the journal's text, as a run writes it
journal_said : (timing : Timing) (K : List Entry) → text_of (version_of timing) K ≡ journal_part timing K
journal_said Lines K = refl
journal_said Stamps K = refl

-- the testers' lines, one behind the other
lines_whole : (setup : RawSetup) (f : ℕ → List Sent) (n : ℕ) (lines : List ReplyLines)
    → ((i : ℕ) (tester : ReplyLines) → slice_get lines i ≡ Some tester → tester.text.items ≡ lines_of (writer_of setup (n + i)) (f (n + i)))
    → concat (map (λ tester. tester.text.items) lines) ≡ lines_from setup n (map f (counted_from n (length lines)))
unfolding lines_from
lines_whole setup f n [] h = refl
lines_whole setup f n (tester ∷ lines) h =
    let none : n + 0 ≡ n = omega arith in
    let own : tester.text.items ≡ lines_of (writer_of setup n) (f n) = h 0 tester refl ∙ ap (λ k. lines_of (writer_of setup k) (f k)) none in
    let others : (i : ℕ) (t : ReplyLines) → slice_get lines i ≡ Some t → t.text.items ≡ lines_of (writer_of setup ((n + 1) + i)) (f ((n + 1) + i)) =
    λ i t at. h (suc i) t at ∙ ap (λ k. lines_of (writer_of setup k) (f k)) (omega arith) in
    ap₂ ◌++◌ own (lines_whole setup f (n + 1) lines others
    ∙ ap (λ k. lines_from setup (n + 1) (map f (counted_from k (length lines)))) (add-one n))

no_lines : (setup : RawSetup) → lines_from setup 1 [] ≡ []
unfolding lines_from
no_lines setup = refl

-- the frames that the testers are sent
abbrev pub all_sent : Terms → List (ℕ × Event) → List Entry → List (List Sent)
all_sent terms M K = map (sent_to terms.setup M K) (counted_from 1 (length terms.setup.testers))

-- a play as a world that keeps its journal and its frames
abbrev pub world_at : Terms → Playing → List (ℕ × Event) → List Entry → WorldState
world_at terms playing M K = record {
  desk = record { opening = opening terms.setup; journal = K };
  server = server_of playing.server;
  sent = all_sent terms M K;
}

pub stands_at : (terms : Terms) (playing : Playing) (M : List (ℕ × Event)) (h : Plays terms playing M)
    → Stands terms.setup (world_at terms playing M h.entries) M
stands_at terms playing M h =
    let f = sent_to terms.setup M h.entries in
    let n = length terms.setup.testers in
    let many : length (map f (counted_from 1 n)) ≡ n = length-map (counted_from 1 n) f ∙ length-counted 1 n in
    record {
      opening = refl;
      serves = h.serves;
      testers = many;
      frames = λ i frames at.
          let within : i < n = omega (arith, slice_get_within (map f (counted_from 1 n)) i frames at, many) in
          let place : 1 + i ≡ i + 1 = omega arith in
          one_item frames (f (1 + i)) (sym at ∙ map-at f 1 n i within) ∙ ap f place;
    }
  where
    one_item : (x y : List Sent) → Some x ≡ Some y → x ≡ y
    one_item x y e = cc

-- the parts, where the journal is the last
pub joined_one : (lines : List ReplyLines) (texts parts : List (Vec ℕ)) (journal : Vec ℕ) → AreTexts lines texts → parts ≡ texts ++ journal ∷ []
    → concat (map (λ part. part.items) parts) ≡ concat (map (λ tester. tester.text.items) lines) ++ journal.items
joined_one lines texts parts journal own is =
    ap (λ ps. concat (map (λ (p : Vec ℕ). p.items) ps)) is
    ∙ (ap concat (map-append (λ (p : Vec ℕ). p.items) texts (journal ∷ []))
    ∙ (concat_more (map (λ (p : Vec ℕ). p.items) texts) journal.items ∙ ap (λ w. concat w ++ journal.items) own))

-- and with the end behind it
pub joined_two : (lines : List ReplyLines) (texts parts all : List (Vec ℕ)) (journal end : Vec ℕ) → AreTexts lines texts → parts ≡ texts ++ journal ∷ []
    → all ≡ parts ++ end ∷ []
    → concat (map (λ part. part.items) all) ≡ concat (map (λ tester. tester.text.items) lines) ++ (journal.items ++ end.items)
joined_two lines texts parts all journal end own is more =
    ap (λ ps. concat (map (λ (p : Vec ℕ). p.items) ps)) more
    ∙ (ap concat (map-append (λ (p : Vec ℕ). p.items) parts (end ∷ []))
    ∙ (concat_more (map (λ (p : Vec ℕ). p.items) parts) end.items
    ∙ (ap (λ w. w ++ end.items) (joined_one lines texts parts journal own is)
    ∙ append_assoc (concat (map (λ (t : ReplyLines). t.text.items) lines)) journal.items end.items)))

-- the parts of a text, whether the journal alone is wanted or all
parts_said : (only : Bool) (timing : Timing) (setup : RawSetup) (K : List Entry) (f : ℕ → List Sent) (lines : List ReplyLines) (journal : List ℕ) (ecu : State)
    → journal ≡ journal_part timing K → ecu ≡ after (opening setup) K
    → concat (map (λ tester. tester.text.items) lines) ≡ lines_from setup 1 (map f (counted_from 1 (length lines)))
    → length lines ≡ (if only then 0 else length setup.testers)
    → concat (map (λ tester. tester.text.items) lines) ++ (journal ++ (if only then [] else end_text setup ecu))
    ≡ played_text only timing setup (record { opening = opening setup; journal = K }) (map f (counted_from 1 (length setup.testers)))
parts_said true timing setup K f lines journal ecu said ends all none =
    ap (λ w. w ++ (journal ++ [])) (all ∙ ap (λ n. lines_from setup 1 (map f (counted_from 1 n))) none ∙ no_lines setup) ∙ (append-nil journal ∙ said)
parts_said false timing setup K f lines journal ecu said ends all many =
    ap₂ ◌++◌ (all ∙ ap (λ n. lines_from setup 1 (map f (counted_from 1 n))) many) (ap₂ ◌++◌ said (ap (end_text setup) ends))

-- what was written is the text of the play
pub parts_whole : (terms : Terms) (playing : Playing) (M : List (ℕ × Event)) (h : Plays terms playing M)
    → parts_text terms.setup terms.only_journal playing
    ≡ played_text terms.only_journal terms.timing terms.setup (record { opening = opening terms.setup; journal = h.entries }) (all_sent terms M h.entries)
parts_whole terms playing M h =
    let setup = terms.setup in
    let f = sent_to setup M h.entries in
    let lines = playing.lines.items in
    let all = lines_whole setup f 1 lines (λ i tester at.
    (h.each i tester at).text ∙ ap (λ k. lines_of (writer_of setup k) (f k)) (omega arith)) in
    parts_said terms.only_journal terms.timing setup h.entries f lines playing.journal.text.items playing.server.ecu
    (h.journal.text ∙ journal_said terms.timing h.entries) h.serves.ecu all h.many
