-- How a world goes on with one event more.
use Rattle.std.proofs.Common.{◌≡◌, ◌≤◌, ◌<◌, ℕ, get_or, set, ◌+◌, ◌*◌, Bool, true, false, cond, Option, Some, None, List, [], ◌∷◌, ◌++◌, length, map, refl, ap, ap₂, subst, sym, ◌∙◌, arith, inl, inr}
use Rattle.std.proofs.Math.Seq.{map-set_same}
use Rattle.std.proofs.lemmas.List.{append-nil, length-map, length-set, map-set}
use Rattle.std.proofs.lemmas.List.Filters.{length-filter_both}
use Rattle.std.proofs.lemmas.Option.{slice_get-map, slice_get_read}
use Rattle.std.specs.Prelude.{◌==◌, not, slice_get}
use Rattle.std.specs.Option.{option_map, option_to_list}
use Rattle.diag_can.specs.Event.{Event}
use Rattle.diag_tp.specs.declared.sent.Sent.{Sent}
use Rattle.diag_setup.specs.declared.raw.RawSetup.{RawSetup}
use Rattle.diag_setup.specs.Setup.{link_of}
use Rattle.diag_ecu.specs.State.{State, opening}
use Rattle.diag_desk.specs.declared.entry.Entry.{Entry}
use Rattle.diag_desk.specs.Entries.{own}
use Rattle.diag_desk.specs.Entry.{AreEntries, IsJournal}
use Rattle.diag_desk.specs.Legal.{Legal, Run, after, entered}
use Rattle.diag_desk.specs.Timed.{Timed, entries_of, own_timed, timed, timed_entry}
use Rattle.diag_desk.proofs.TimedLemmas.{own_timed_entries, timed_entries}
use Rattle.diag_desk.specs.Text.{ticks_in, ticks_of}
use Rattle.diag_desk.proofs.ClockLemmas.{ticks_bound}
use Rattle.diag_world.specs.declared.channel.Channel.{Channel}
use Rattle.diag_world.specs.Channel.{ChannelStands, ChannelState, ChannelTook, channel_of}
use Rattle.diag_port.specs.Late.{pace_of}
use Rattle.diag_port.specs.Port.{PortState}
use Rattle.diag_port.specs.Standing.{HasKept}
use Rattle.diag_world.specs.Server.{sent_to}
use Rattle.diag_world.specs.Weaving.{items_of}
use Rattle.diag_world.specs.World.{Stands, Took, WorldState, world_of}
use Rattle.diag_world.proofs.Serving.{own_more, sent_other, serves_more}
use Rattle.diag_world.proofs.Times.{ticks_of_run}
use Rattle.diag_world.proofs.Worlds.{items_mine, map_cases, other_place, set_cases}

-- a tester's ticks are at most 60000 for each of its entries
own_time : (K : List Entry) (t : ℕ) → AreEntries K → ticks_of t K ≤ 60000 * length (own K t)
own_time [] t all = omega arith
own_time (k ∷ K) t all = pick (k.who == t) (own_time K t all.1)
  where
    pick : (b : Bool) → ticks_of t K ≤ 60000 * length (own K t) → cond b (ticks_in k.step) 0 + ticks_of t K ≤ 60000 * length (cond b (k ∷ own K t) (own K t))
    pick true h = omega (arith, h, ticks_bound k all.0)
    pick false h = omega (arith, h)

-- a tester's entries with their delays are as many
own_many : (s : State) (K : List Entry) (t : ℕ) → length (own_timed (timed s K) t) ≡ length (own K t)
own_many s K t =
    sym (length-map (own_timed (timed s K) t) (λ (x : Timed). x.entry))
    ∙ (ap length (own_timed_entries (timed s K) t) ∙ ap (λ L. length (own L t)) (timed_entries s K))

abbrev port : ChannelState → PortState
port channel = channel.port

abbrev sent : ChannelState → List Sent
sent channel = channel.sent

-- the world in which nothing has happened
pub stands_begin : (setup : RawSetup) (channels : List ChannelState) → length channels ≡ length setup.testers
    → ((i : ℕ) (channel : ChannelState) → slice_get channels i ≡ Some channel → ChannelStands (link_of setup (i + 1)) (pace_of setup) channel [] [])
    → Stands setup (world_of (record { opening = opening setup; journal = [] }) channels) []
stands_begin setup channels many all = record {
  opening = refl;
  serves = record {
    legal = tt;
    ecu = refl;
    testers = length-map channels port ∙ many;
    run = refl;
    ports = λ i p at. let c = map_cases port channels i p at in rw c.2 (all i c.0 c.1).stands;
  };
  testers = length-map channels sent ∙ many;
  frames = λ i frames at. let c = map_cases sent channels i frames at in c.2 ∙ (all i c.0 c.1).all_sent;
}

-- how a desk takes a step, with the delay of its reply
abbrev pub DeskTakes : Run → ℕ → Timed → Run → Type 0
DeskTakes old now x new = (new ≡ entered old x.entry) × (x ≡ timed_entry (after old.opening old.journal) x.entry)

-- a desk that took the step of a channel's event has its entry more
pub desk_took : (old new : Run) (who : ℕ) (e : Event) (channel channel' : ChannelState)
    → ChannelTook DeskTakes channel channel' old new who e → Legal new.opening new.journal
    → Took old new who e channel channel'
desk_took old new who e channel channel' took legal =
    let both = grown took.asked took.kept in
    record {
      entries = option_to_list took.asked;
      delays = both.0;
      grown = both.1;
      legal = legal;
      goes_on = took.goes_on;
    }
  where
    grown : (asked : Option Timed) → HasKept DeskTakes old new channel.port.link.now asked
        → (option_to_list asked ≡ timed (after old.opening old.journal) (entries_of (option_to_list asked)))
        × (new ≡ record { opening = old.opening; journal = old.journal ++ entries_of (option_to_list asked) })
    grown None same = (refl, same ∙ sym (ap (λ J. record { opening = old.opening; journal = J }) (append-nil old.journal)))
    grown (Some x) is = (ap (λ y. y ∷ []) is.1, is.0)

-- a tester's channel, in a world
module _ (desk : Run) (items : List Channel) (i : ℕ) {w : WorldState} {who : ℕ} {channel : Channel} (seen : world_of desk (map channel_of items) ≡ w)
    (within : who ≤ length w.sent) (is : who ≡ i + 1) (read : channel ≡ get_or items i channel) where
  pub stored : slice_get items i ≡ Some channel
  stored =
      let low : i < length items = omega (
        arith,
        within,
        ap (λ x. length x.sent) seen,
        length-map (map channel_of items) sent,
        length-map items channel_of,
        is,
      ) in
      slice_get_read items (length items) i channel refl low read

  found : slice_get (map channel_of items) i ≡ Some (channel_of channel)
  found = slice_get-map channel_of items i ∙ ap (option_map channel_of) stored

  -- what it was sent
  pub frames_of : (setup : RawSetup) (M : List (ℕ × Event)) → Stands setup w M → (channel_of channel).sent ≡ sent_to setup M w.desk.journal who
  frames_of setup M h =
      let at = slice_get-map sent (map channel_of items) i ∙ ap (option_map sent) found in
      h.frames i _ (subst (λ x. slice_get x.sent i ≡ Some (channel_of channel).sent) seen at) ∙ ap (sent_to setup M w.desk.journal) (sym is)

  -- it stands for the tester's events and entries
  pub channel_stands : (setup : RawSetup) (M : List (ℕ × Event)) → IsJournal desk.journal → Stands setup w M
      → ChannelStands (link_of setup who) (pace_of setup) (channel_of channel) (items_of M who) (own_timed (timed (opening setup) desk.journal) who)
  channel_stands setup M journal h =
      let h0 = subst (λ x. Stands setup x M) (sym seen) h in
      let stands = h0.serves.ports i (channel_of channel).port (slice_get-map port (map channel_of items) i ∙ ap (option_map port) found) in
      record {
        stands = rw is stands;
        all_sent = frames_of setup M h ∙ ap (λ x. sent_to setup M x.desk.journal who) (sym seen);
        time = omega (
          arith,
          own_many (opening setup) desk.journal who,
          own_time desk.journal who journal.0,
          ticks_of_run (link_of setup) M desk.journal who h0.serves.run,
        );
      }

  -- an event more of the tester
  pub world_takes : (setup : RawSetup) (M : List (ℕ × Event)) (e : Event) (desk' : Run) (channel' : Channel) → IsJournal desk.journal
      → Took desk desk' who e (channel_of channel) (channel_of channel') → Stands setup w M
      → Stands setup (world_of desk' (map channel_of (set items i channel'))) (M ++ (who, e) ∷ [])
  world_takes setup M e desk' channel' journal took h =
      let J = desk.journal in
      let more = entries_of took.entries in
      let M' = M ++ (who, e) ∷ [] in
      let h0 = subst (λ x. Stands setup x M) (sym seen) h in
      let s = link_of setup who in
      let c' = channel_of channel' in
      let T = own_timed (timed (opening setup) J) who in
      let desk1 : Run = record { opening = desk.opening; journal = J ++ more } in
      let few : length T ≤ 1000000 =
      omega (arith, own_many (opening setup) J who, journal.1, length-filter_both (λ (k : Entry). k.who == who) (λ k. not (k.who == who)) (λ k. refl) J) in
      let went = took.goes_on s (pace_of setup) (items_of M who) T (channel_stands setup M journal h) few in
      let given = went.0 in
      let delays : took.entries ≡ timed (after (opening setup) J) more = took.delays ∙ ap (λ o. timed (after o J) more) h0.opening in
      let next : ChannelStands s (pace_of setup) c' (items_of M who ++ e ∷ []) (T ++ timed (after (opening setup) J) more) =
      subst (λ U. ChannelStands s (pace_of setup) c' (items_of M who ++ e ∷ []) (T ++ U)) delays went.1 in
      let written = map-set channel_of items i channel' in
      let new : List ChannelState = map channel_of (set items i channel') in
      let ports = ap (map port) written ∙ map-set port (map channel_of items) i c' in
      let sents = ap (map sent) written ∙ map-set sent (map channel_of items) i c' in
      subst (λ (d : Run). Legal d.opening d.journal → Stands setup (world_of d new) M') (sym took.grown)
      (λ legal. record {
        opening = h0.opening;
        serves = serves_more (opening setup) [] setup M J more who e given (world_of desk (map channel_of items)).server (world_of desk1 new).server i c'.port
            h0.serves is ports
            (subst (λ o. Legal o (J ++ more)) h0.opening legal) (ap (λ o. after o (J ++ more)) h0.opening) next.stands;
        testers = ap length sents ∙ (length-set (map sent (map channel_of items)) i c'.sent ∙ h0.testers);
        frames = λ j frames at. elim (set_cases (map sent (map channel_of items)) i j c'.sent frames (rw sents at at)) [
          | inl p ↦ (
              let place : j + 1 ≡ who = omega (arith, is, p.0) in
              rw (place, p.1, items_mine M who e, own_more (opening setup) [] setup M J more who e given) next.all_sent)
          | inr p ↦ h0.frames j frames p.1 ∙ sym (sent_other (opening setup) [] setup M J more who e given (j + 1) (other_place i j who is p.0))
        ];
      })
      took.legal

  -- an event that was refused
  pub world_same : (desk' : Run) (channel' : Channel) → desk' ≡ desk → channel_of channel' ≡ channel_of channel
      → world_of desk' (map channel_of (set items i channel')) ≡ w
  world_same desk' channel' same kept = ap₂ world_of same (map-set_same channel_of items i channel' channel (kept ∙ ap channel_of read)) ∙ seen
