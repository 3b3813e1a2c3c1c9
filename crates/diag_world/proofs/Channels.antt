-- How a channel goes on with one event more.
use Rattle.std.proofs.Common.{◌≡◌, ◌≤◌, ℕ, ◌+◌, ◌*◌, ◌^◌, length, Option, Some, None, List, [], ◌∷◌, ◌++◌, refl, ap, sym, ◌∙◌, arith, length-append}
use Rattle.std.proofs.lemmas.List.{append-nil}
use Rattle.std.specs.Prelude.{IfSome, IsTrue, IsSome}
use Rattle.std.specs.Option.{option_map, option_to_list}
use Rattle.diag_can.specs.Event.{Event, Physical, Functional, Ticks}
use Rattle.diag_pdu.specs.declared.step.Step.{Step}
use Rattle.diag_tp.specs.Gives.{gives}
use Rattle.diag_tp.specs.Moments.{is_tick, last_time}
use Rattle.diag_tp.proofs.Moments.{last_time-frame}
use Rattle.diag_tp.specs.declared.sent.Sent.{Sent}
use Rattle.diag_desk.specs.declared.entry.Entry.{Entry}
use Rattle.diag_desk.specs.Entries.{asked_by}
use Rattle.diag_desk.specs.Timed.{Timed, entries_of}
use Rattle.diag_port.specs.Standing.{PortTook}
use Rattle.diag_world.specs.Channel.{ChannelState, GoesOn}
use Rattle.diag_world.specs.Weaving.{all_by}

-- what the entry asks is what the event gives
pub asked_gives : (who : ℕ) (o : Option Step) (asked : Option Entry) → option_map (λ k. k.step) asked ≡ o → IfSome asked (λ k. k.who ≡ who)
    → asked_by (option_to_list asked) ≡ all_by who (option_to_list o)
asked_gives who o None h same = ap (λ x. all_by who (option_to_list x)) h
asked_gives who o (Some k) h same = ap (λ w. (w, k.step) ∷ []) same ∙ ap (λ x. all_by who (option_to_list x)) h

-- the same with the delay
timed_gives : (who : ℕ) (o : Option Step) (asked : Option Timed) → option_map (λ x. x.entry.step) asked ≡ o → IfSome asked (λ x. x.entry.who ≡ who)
    → asked_by (entries_of (option_to_list asked)) ≡ all_by who (option_to_list o)
timed_gives who o None h same = ap (λ x. all_by who (option_to_list x)) h
timed_gives who o (Some x) h same = ap (λ w. (w, x.entry.step) ∷ []) same ∙ ap (λ y. all_by who (option_to_list y)) h

-- time goes on with the entries: an event that gives no step is a frame, and one that gives a step takes at most 60000
time_goes_on : (E : List Event) (T : List Timed) (e : Event) (asked : Option Timed) → (IsTrue (is_tick e) → IsSome asked)
    → last_time E ≤ 60000 * length T → last_time (E ++ e ∷ []) ≤ last_time E + 60000
    → last_time (E ++ e ∷ []) ≤ 60000 * length (T ++ option_to_list asked)
time_goes_on E T e (Some x) ticks time most = omega (arith, time, most, length-append T (x ∷ []))
time_goes_on E T (Physical bytes) None ticks time most = omega (arith, time, last_time-frame E (Physical bytes) refl, ap length (append-nil T))
time_goes_on E T (Functional bytes) None ticks time most = omega (arith, time, last_time-frame E (Functional bytes) refl, ap length (append-nil T))
time_goes_on E T (Ticks n) None ticks time most = absurd (clash (ticks refl))
  where
    clash : IsSome {T = Timed} None → ⊥
    clash h = cc

-- a channel goes on as its port took the event
pub channel_goes_on : (old new : ChannelState) (who : ℕ) (e : Event) (asked : Option Timed) (more : List Sent)
    → PortTook old.port new.port who e asked more → new.sent ≡ old.sent ++ more
    → GoesOn who old new e (option_to_list asked)
channel_goes_on old new who e asked more took grown = λ s pace E T h few.
    let early : last_time E ≤ 2 ^ 63 = omega (arith, h.time, few) in
    let done = took.stands s pace E T h.stands early in (
      timed_gives who (gives s E e) asked (took.step s E _ _ h.stands.stands.stands) took.by,
      record {
        stands = done.0;
        all_sent = grown ∙ (ap (λ w. w ++ more) h.all_sent ∙ sym done.1);
        time = time_goes_on E T e asked took.ticks h.time (took.short E);
      },
    )
