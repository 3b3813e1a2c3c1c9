-- How the testers' clocks go on in a line.
use Rattle.diag_setup.specs.declared.raw.RawSetup.{RawSetup}
use Rattle.std.proofs.Common.{◌≡◌, ◌≤◌, ℕ, ◌+◌, Option, Ok, Some, List, [], ◌++◌, subst, sym, ap, arith, inl, inr}
use Rattle.std.specs.Prelude.{slice_get, slice_set}
use Rattle.std.specs.List.{All}
use Rattle.std.proofs.lemmas.List.Elements.{All-append}
use Rattle.diag_can.specs.declared.bus_line.BusLine.{BusLine}
use Rattle.diag_can.specs.Event.{Event, Physical, Functional, Ticks}
use Rattle.diag_tp.specs.declared.sent.Sent.{Sent}
use Rattle.diag_desk.specs.declared.entry.Entry.{Entry}
use Rattle.diag_port.specs.Port.{AreWithin, PortState, time_after}
use Rattle.diag_world.specs.Server.{MovedOn, ServerState, ServerView, server_of}
use Rattle.diag_world.proofs.Worlds.{set_cases}
use Rattle.diag_bus.specs.Clock.{GoesOn}
use Rattle.diag_bus.specs.Node.{AreSentBy, HasTime, IsBy, Lasts, OneSentIn, OneWentOn, SentIn, TookTime, lists_of}
use Rattle.diag_bus.specs.declared.node.Node.{Node}
use Rattle.diag_bus.specs.Events.{span_said}
use Rattle.diag_bus.specs.declared.clock.Clock.{Clock}

-- ---- one tester

pub ticks_time : (n now : ℕ) → time_after now (Ticks n) ≤ now + n
ticks_time n now = omega arith

-- each event lets at most some time pass
pub lasts : (e : Event) → (span : ℕ) × Lasts e span
lasts (Physical bytes) = (0, λ now. omega arith)
lasts (Functional bytes) = (0, λ now. omega arith)
lasts (Ticks n) = (n, ticks_time n)

-- a server that took an event of the tester
pub went_on : (old new : ServerView) (index span : ℕ) (e : Event) (asked : Option Entry) (more : List Sent)
    → MovedOn (server_of old).ports (server_of new).ports index e asked more
    → ((now : ℕ) → time_after now e ≤ now + span) → OneWentOn old new index span
went_on old new index span e asked more moved most =
    λ i port at. elim (set_cases (server_of old).ports index i moved.after port (subst (λ ls. slice_get ls i ≡ Some port) moved.set at)) [
      | inl p ↦ (
          let same : port.link.now ≡ moved.after.link.now = ap (λ (p : PortState). p.link.now) p.1 in
          let fits : port.link.now ≤ moved.before.link.now + span = omega (arith, same, moved.time, most moved.before.link.now) in
          (moved.before, subst (λ k. slice_get (server_of old).ports k ≡ Some moved.before) (sym p.0) moved.found, inl (p.0, fits)))
      | inr p ↦ (let same : port.link.now ≤ port.link.now = omega arith in (port, p.1, inr same))
    ]

-- a server that is as it was
pub stays : (old new : ServerView) (index span : ℕ) → server_of new ≡ server_of old → OneWentOn old new index span
stays old new index span is = λ i port at.
    (let same : port.link.now ≤ port.link.now = omega arith in (port, subst (λ (s : ServerState). slice_get s.ports i ≡ Some port) is at, inr same))

-- ---- one tester behind the other

-- the clocks of so many testers went on by at most so much, and no others
abbrev pub SomeWentOn : ServerView → ServerView → ℕ → ℕ → Type 0
SomeWentOn old new count span = (time : ℕ) → IsBy old time → (i : ℕ) (port : PortState)
    → slice_get (server_of new).ports i ≡ Some port → (port.link.now ≤ time + span) × (count ≤ i → port.link.now ≤ time)

pub some_none : (a : ServerView) (span : ℕ) → SomeWentOn a a 0 span
some_none a span = λ time by i port at. (let low = by i port at in (omega (arith, low), λ above. low))

pub some_more : (a b c : ServerView) (n index span : ℕ) → index ≡ n → SomeWentOn a b n span → OneWentOn b c index span → SomeWentOn a c (n + 1) span
some_more a b c n index span is some one = λ time by i port at.
    let went = one i port at in
    let before = some time by i went.0 went.1 in
    elim went.2 [
      | inl p ↦ (
          let low = before.1 (omega (arith, is, p.0)) in
          (omega (arith, p.1, low), λ above. absurd (omega (arith, above, is, p.0))))
      | inr p ↦ (omega (arith, p, before.0), λ above. (let low = before.1 (omega (arith, above)) in omega (arith, p, low)))
    ]

pub some_all : (a b : ServerView) (n span : ℕ) → SomeWentOn a b n span → TookTime a b span
some_all a b n span some = λ time by i port at. (some time by i port at).0

-- ---- all testers

pub took_none : (a : ServerView) (span : ℕ) → TookTime a a span
took_none a span = λ time by i port at. (let low = by i port at in omega (arith, low))

pub took_more : (a b c : ServerView) (n m all : ℕ) → n + m ≤ all → TookTime a b n → TookTime b c m → TookTime a c all
took_more a b c n m all fits first second = λ time by i port at. (let low = second (time + n) (first time by) i port at in omega (arith, low, fits))

-- one tester's clock went on
pub took_one : (a b c : ServerView) (n index m all : ℕ) → n + m ≤ all → TookTime a b n → OneWentOn b c index m → TookTime a c all
took_one a b c n index m all fits first one = λ time by i port at.
    let went = one i port at in
    let before = first time by i went.0 went.1 in
    elim went.2 [ inl p ↦ omega (arith, p.1, before, fits) | inr p ↦ omega (arith, p, before, fits) ]

-- what is left of the time
pub has_left : (a b : ServerView) (all n m : ℕ) → n + m ≤ all → HasTime a all → TookTime a b n → HasTime b m
has_left a b all n m fits h took = record { time = h.time + n; by = took h.time h.by; early = omega (arith, h.early, fits) }

-- the bus's clock goes on by as much
pub line_paced : (setup : RawSetup) (old new : ServerView) (clock clock' : Clock) (said : BusLine) → GoesOn setup clock said clock' → IsBy old clock.time
    → TookTime old new (span_said clock.reference (Ok said)) → IsBy new clock'.time
line_paced setup old new clock clock' said on by took = λ i port at. (let low = took clock.time by i port at in omega (arith, low, on.time))

-- ---- frames

within_sent : (from to last : ℕ) (more : List Sent) → AreWithin from to more → to ≤ last → All (λ f. f.at ≤ last) more
within_sent from to last more h fits = λ k d less. (let one = h k d less in omega (arith, one.1, fits))

-- the tester's list has grown by frames that were sent up to what its clock tells
pub sent_one : (old new : Node) (index i span : ℕ) (e : Event) (asked : Option Entry) (frames more : List Sent)
    → MovedOn (server_of old.server).ports (server_of new.server).ports index e asked more
    → ((now : ℕ) → time_after now e ≤ now + span) → slice_get (lists_of old.drawn) i ≡ Some frames
    → lists_of new.drawn ≡ slice_set (lists_of old.drawn) i (frames ++ more) → OneSentIn old new index span
sent_one old new index i span e asked frames more moved most found lists = λ last early by j fs at.
    let told = early moved.before moved.found in
    let fits : moved.after.link.now ≤ last = omega (arith, moved.time, most moved.before.link.now, told) in
    elim (set_cases (lists_of old.drawn) i j (frames ++ more) fs (subst (λ ls. slice_get ls j ≡ Some fs) lists at)) [
      | inl p ↦ subst (λ (ss : List Sent). All (λ f. f.at ≤ last) ss) (sym p.1)
          (All-append (λ (f : Sent). f.at ≤ last) frames more (by i frames found) (within_sent moved.before.link.now moved.after.link.now last more moved.within fits))
      | inr p ↦ by j fs p.1
    ]

pub sent_none : (a : Node) (span : ℕ) → SentIn a a span
sent_none a span = λ time last by fits old. old

-- one tester more of those that go on by as much
pub sent_some : (a b c : Node) (n index span : ℕ) → index ≡ n → SomeWentOn a.server b.server n span → SentIn a b span → OneSentIn b c index span
    → SentIn a c span
sent_some a b c n index span is some sent one = λ time last by fits old.
    one last (λ port at. (let low = (some time by index port at).1 (omega (arith, is)) in omega (arith, low, fits))) (sent time last by fits old)

-- one tester more behind them
pub sent_then : (a b c : Node) (n index m all : ℕ) → n + m ≤ all → TookTime a.server b.server n → SentIn a b n → OneSentIn b c index m → SentIn a c all
sent_then a b c n index m all less took sent one = λ time last by fits old.
    one last (λ port at. (let low = took time by index port at in omega (arith, low, fits, less))) (sent time last by (omega (arith, fits, less)) old)

pub sent_more : (a b c : Node) (n m all : ℕ) → n + m ≤ all → TookTime a.server b.server n → SentIn a b n → SentIn b c m → SentIn a c all
sent_more a b c n m all less took first second = λ time last by fits old.
    second (time + n) last (took time by) (omega (arith, fits, less)) (first time last by (omega (arith, fits, less)) old)

-- lists without frames
pub sent_nothing : (lists : List (List Sent)) (last : ℕ) → ((i : ℕ) (frames : List Sent) → slice_get lists i ≡ Some frames → frames ≡ []) → AreSentBy lists last
sent_nothing lists last empty = λ i frames at. subst (λ (ss : List Sent). All (λ f. f.at ≤ last) ss) (sym (empty i frames at))
    (λ k d less. absurd (omega (arith, less)))
