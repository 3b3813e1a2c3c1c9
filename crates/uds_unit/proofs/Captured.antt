-- What a unit makes of moments and frames is what `bus` makes of lines that say them.
use Rattle.std.proofs.Common.{◌≡◌, ℕ, Option, Some, None, List, [], ◌∷◌, ◌++◌, length, drop, refl, ap, ap₂, subst, sym, ◌∙◌, append_assoc}
use Rattle.std.proofs.lemmas.Grind.{flat_map-append}
use Rattle.std.proofs.lemmas.List.{append-nil}
use Rattle.std.specs.List.{flat_map}
use Rattle.std.specs.Option.{option_to_list}
use Rattle.diag_can.specs.Line.{frame_for}
use Rattle.diag_pdu.specs.Cut.{counted_from}
use Rattle.diag_can.specs.Reading.{later}
use Rattle.diag_can.specs.declared.bus_line.BusLine.TheVariants.{Stamped}
use Rattle.diag_can.specs.Event.{Event}
use Rattle.diag_can.specs.declared.frame.Frame.{Frame}
use Rattle.diag_setup.specs.declared.raw.RawSetup.{RawSetup}
use Rattle.diag_ecu.specs.State.{State, opening}
use Rattle.diag_setup.specs.Setup.{ids_of, link_of}
use Rattle.diag_desk.specs.Timed.{Timed}
use Rattle.diag_world.specs.Server.{each_of}
use Rattle.diag_world.specs.Weaving.{all_by, steps_of}
use Rattle.diag_bus.specs.Events.{events_of, frame_to, gives_if_well, moment_said, reference, said_gives, time_said}
use Rattle.diag_bus.specs.Text.{answered, frames_by, line_of, line_text, start_after, start_said, text_after}
use Rattle.diag_bus.specs.Drawn.{Drawn}
use Rattle.diag_bus.proofs.Lines.{events_push, reference_more}
use Rattle.uds_unit.specs.AsBus.{AsBusLaw, Say, Says, calls_of}
use Rattle.uds_unit.specs.History.{History, history_after}
use Rattle.uds_unit.specs.Moments.{clock_at, reference_of}
use Rattle.uds_unit.specs.declared.clock.Clock.{Clock}

-- a history in which nothing was set
abbrev opened_at : RawSetup → List (ℕ × Event) → Option Clock → List Drawn → History
opened_at setup M clock sent = record { opened = opening setup; past = []; events = M; clock = clock; sent = sent }

-- lines and one line more
say_more : (setup : RawSetup) (past : List (List ℕ)) (behind : List (ℕ × Option Frame)) (line : List ℕ) (g : ℕ × Option Frame)
    → Say setup past behind → Says setup line g → Say setup (past ++ line ∷ []) (behind ++ g ∷ [])
say_more setup [] [] line g said one = (one, tt)
say_more setup [] (b ∷ behind) line g said one = absurd said
say_more setup (first ∷ past) [] line g said one = absurd said
say_more setup (first ∷ past) (b ∷ behind) line g said one = (said.0, say_more setup past behind line g said.1 one)

-- where the first of some lines is stamped, the bus's time begins with it
start_first : (setup : RawSetup) (line : List ℕ) (lines : List (List ℕ)) (g : ℕ × Option Frame) → Says setup line g
    → start_after setup 0 (line ∷ lines) ≡ Some (record { moment = g.0; before = 0 })
start_first setup line lines g one = ap (λ r. start_said 0 r (λ sum. start_after setup sum lines)) one.is

-- so it doesn't matter what comes behind
start_kept : (setup : RawSetup) (past : List (List ℕ)) (behind : List (ℕ × Option Frame)) (line : List ℕ) (g : ℕ × Option Frame) (lines : List (List ℕ))
    → Say setup past behind → Says setup line g
    → start_after setup 0 (past ++ line ∷ []) ≡ start_after setup 0 (past ++ line ∷ lines)
start_kept setup [] behind line g lines said one = start_first setup line [] g one ∙ sym (start_first setup line lines g one)
start_kept setup (first ∷ past) [] line g lines said one = absurd said
start_kept setup (first ∷ past) (b ∷ behind) line g lines said one =
    start_first setup first (past ++ line ∷ []) b said.0 ∙ sym (start_first setup first (past ++ line ∷ lines) b said.0)

-- two frames that are the same to each tester give the same
frames_same : (setup : RawSetup) (f f' : Option Frame) → ((t : ℕ) → frame_for (ids_of setup t) f ≡ frame_for (ids_of setup t) f') → (ts : List ℕ)
    → flat_map (frame_to setup f) ts ≡ flat_map (frame_to setup f') ts
frames_same setup f f' same [] = refl
frames_same setup f f' same (t ∷ ts) = ap₂ ◌++◌ (ap (λ e. all_by t (option_to_list e)) (same t)) (frames_same setup f f' same ts)

reference_later : (clock : Option Clock) (moment : ℕ) → reference_of (Some (clock_at clock moment)) ≡ later (reference_of clock) (Some moment)
reference_later None moment = refl
reference_later (Some clock) moment = refl

-- what a unit that stands for some lines makes of further ones
pub record GoesOn (setup : RawSetup) (past lines : List (List ℕ)) (sent : List Drawn) (h : History) : Type 0 where
  pub opened : h.opened ≡ opening setup
  pub none : h.past ≡ []
  pub events : h.events ≡ events_of setup (past ++ lines)
  pub text : flat_map (line_of setup (start_after setup 0 (past ++ lines))) h.sent
      ≡ flat_map (line_of setup (start_after setup 0 (past ++ lines))) sent ++ text_after setup past lines

goes_on : (setup : RawSetup) (past lines : List (List ℕ)) (behind given : List (ℕ × Option Frame)) (M : List (ℕ × Event)) (clock : Option Clock)
    (sent : List Drawn)
    → M ≡ events_of setup past → reference_of clock ≡ reference setup past → Say setup past behind → Say setup lines given
    → GoesOn setup past lines sent (history_after setup (opened_at setup M clock sent) (calls_of given))
goes_on setup past [] behind [] M clock sent events time before said = record {
  opened = refl;
  none = refl;
  events = events ∙ ap (events_of setup) (sym (append-nil past));
  text = sym (append-nil _);
}
goes_on setup past [] behind (g ∷ given) M clock sent events time before said = absurd said
goes_on setup past (line ∷ lines) behind [] M clock sent events time before said = absurd said
goes_on setup past (line ∷ lines) behind (g ∷ given) M clock sent events time before said =
    let one = said.0 in
    let past' = past ++ line ∷ [] in
    let before_it = events_of setup past in
    let now = reference setup past in
    let testers = counted_from 1 (length setup.testers) in
    let waits = flat_map (each_of (length setup.testers)) (time_said now (Stamped g.0 g.1)) in
    let M' = M ++ said_gives setup (reference_of clock) (Stamped g.0 g.1) in
    let M'_is : M' ≡ events_of setup past' =
    ap₂ (λ L r. L ++ said_gives setup r (Stamped g.0 g.1)) events time
    ∙ (ap (λ w. before_it ++ (waits ++ w)) (frames_same setup g.1 one.frame one.same testers)
    ∙ (ap (λ r. before_it ++ gives_if_well setup now r) (sym one.is) ∙ sym (events_push setup past line))) in
    let sent' = sent ++ frames_by setup M M' in
    let behind' = behind ++ g ∷ [] in
    let said' : Say setup past' behind' = say_more setup past behind line g before one in
    let clock' = Some (clock_at clock g.0) in
    let time' : reference_of clock' ≡ reference setup past' =
    reference_later clock g.0 ∙ (ap₂ later time (ap moment_said (sym one.is)) ∙ sym (reference_more setup past line)) in
    let rest = goes_on setup past' lines behind' given M' clock' sent' M'_is time' said' said.1 in
    let all : past' ++ lines ≡ past ++ line ∷ lines = append_assoc past (line ∷ []) lines in
    let start = start_after setup 0 (past ++ line ∷ lines) in
    let out = (history_after setup (opened_at setup M' clock' sent') (calls_of given)).sent in
    let here : flat_map (line_of setup start) (frames_by setup M M') ≡ line_text setup past line =
    ap₂ (λ s (ds : List Drawn). flat_map (line_of setup s) ds) (sym (start_kept setup past behind line g lines before one)) (ap₂ (frames_by setup) events M'_is) in
    record {
      opened = rest.opened;
      none = rest.none;
      events = rest.events ∙ ap (events_of setup) all;
      text = subst (λ ls. flat_map (line_of setup (start_after setup 0 ls)) out
          ≡ flat_map (line_of setup (start_after setup 0 ls)) sent' ++ text_after setup past' lines) all rest.text
          ∙ (ap (λ w. w ++ text_after setup past' lines) (flat_map-append (line_of setup start) sent (frames_by setup M M')
          ∙ ap (λ w. flat_map (line_of setup start) sent ++ w) here)
          ∙ append_assoc (flat_map (line_of setup start) sent) (line_text setup past line) (text_after setup past' lines));
    }

pub as_bus : AsBusLaw
as_bus setup lines given said =
    let made = history_after setup (opened_at setup [] None []) (calls_of given) in
    let on = goes_on setup [] lines [] given [] None [] refl refl tt said in
    record {
      events = on.events;
      journal = ap₂ (λ (s : State) (T : List Timed). answered s (drop (length T) (steps_of (link_of setup) made.events))) on.opened on.none
          ∙ ap (λ M. answered (opening setup) (steps_of (link_of setup) M)) on.events;
      text = on.text;
    }
