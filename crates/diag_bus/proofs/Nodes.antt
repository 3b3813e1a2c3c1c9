-- How a node goes on.
use Rattle.std.proofs.lemmas.Bool.{cases_eq, eq-eqb}
use Rattle.std.proofs.lemmas.Bool.Decides.{nat_tests}
use Rattle.std.specs.Prelude.{if◌then◌else◌, ◌/◌, ◌%◌, ◌==◌, replicate, slice_get, slice_set, IfSome}
use Rattle.diag_can.specs.Log.{waited}
use Rattle.diag_can.specs.Event.{Ticks, Event}
use Rattle.std.proofs.Common.{◌≡◌, ◌≤◌, ◌<◌, min, None, Bool, ℕ, ◌+◌, false, zero, suc, Option, Some, List, [], ◌∷◌, ◌++◌, length, map, refl, ap, subst, sym, ◌∙◌, append_assoc, arith, inl, inr}
use Rattle.std.proofs.lemmas.List.{append-nil, length-map, length-set}
use Rattle.std.specs.Option.{option_to_list}
use Rattle.diag_tp.specs.declared.sent.Sent.{Sent}
use Rattle.diag_pdu.specs.Cut.{counted_from}
use Rattle.diag_tp.specs.Moments.{last_time}
use Rattle.diag_setup.specs.declared.raw.RawSetup.{RawSetup}
use Rattle.diag_desk.specs.declared.entry.Entry.{Entry}
use Rattle.diag_world.specs.Server.{ServerState, Serves, Settled, Waited, closing_time, each_of, entries_of_each, sent_to, server_of}
use Rattle.diag_world.proofs.Worlds.{set_cases, other_place}
use Rattle.diag_world.proofs.Waiting.{counted_more}
use Rattle.std.proofs.lemmas.Grind.{flat_map-append}
use Rattle.std.specs.List.{flat_map}
use Rattle.diag_can.specs.declared.frame.Frame.{Frame}
use Rattle.diag_bus.specs.Node.{Drew, Gave, SameShape, lists_of}
use Rattle.diag_bus.specs.Sink.{journal_of}
use Rattle.diag_bus.specs.declared.line_frames.LineFrames.{LineFrames}
use Rattle.diag_bus.specs.declared.node.Node.{Node}
use Rattle.diag_port.specs.Port.{PortState}
use Rattle.diag_port.specs.Standing.{entry_of_ticks}
use Rattle.diag_desk.specs.Text.{ticks_of}
use Rattle.diag_tp.specs.Link.{last_tick}
use Rattle.diag_world.specs.Weaving.{items_of}
use Rattle.diag_world.proofs.Times.{ticks_served}
use Rattle.diag_bus.specs.Events.{frame_to}
use Rattle.diag_bus.specs.RequestIds.{functional_to, functional_to_all}

-- one event more: the tester's list has grown by the frames, and the others are as they were; the sink took the entry
pub drew_more : {S : Type 0} (took : S → RawSetup → List (List ℕ) → List Entry → Type 0) (setup : RawSetup) (old new : Node) (sink sink' : S)
    (base : ℕ → List Sent) (past : List (List ℕ)) (M : List (ℕ × Event)) (who i : ℕ) (e : Event) (asked : Option Entry) (frames more : List Sent)
    → Settled (server_of old.server) (server_of new.server) who e asked more → who ≡ i + 1 → slice_get (lists_of old.drawn) i ≡ Some frames
    → lists_of new.drawn ≡ slice_set (lists_of old.drawn) i (frames ++ more)
    → ((J K : List Entry) → Serves setup (server_of old.server) M J → J ≡ journal_of setup past ++ K → took sink setup past K
    → took sink' setup past (K ++ option_to_list asked))
    → Drew took setup old sink base past M → Drew took setup new sink' base past (M ++ (who, e) ∷ [])
drew_more took setup old new sink sink' base past M who i e asked frames more settled is found lists enters h =
    let served = settled.served setup M h.journal h.serves in
    let K' = h.journal ++ option_to_list asked in
    let M' = M ++ (who, e) ∷ [] in
    record {
      journal = K';
      serves = served.serves;
      lists = sym (length-map new.drawn.lists.items (λ f. f.items))
          ∙ (ap length lists ∙ (length-set (lists_of old.drawn) i (frames ++ more) ∙ (length-map old.drawn.lists.items (λ f. f.items) ∙ h.lists)));
      frames = λ j fs at. elim (set_cases (lists_of old.drawn) i j (frames ++ more) fs (subst (λ ls. slice_get ls j ≡ Some fs) lists at)) [
        | inl p ↦ (
            let place : who ≡ j + 1 = omega (arith, is, p.0) in
            subst (λ t. sent_to setup M' K' t ≡ base t ++ fs) place
            (served.grown ∙ (ap (λ w. w ++ more) (subst (λ t. sent_to setup M h.journal t ≡ base t ++ frames) (sym is) (h.frames i frames found))
            ∙ (append_assoc (base who) frames more ∙ ap (λ w. base who ++ w) (sym p.1)))))
        | inr p ↦ served.others (j + 1) (other_place i j who is p.0) ∙ h.frames j fs p.1
      ];
      entries = h.entries ++ option_to_list asked;
      run = ap (λ w. w ++ option_to_list asked) h.run ∙ append_assoc (journal_of setup past) h.entries (option_to_list asked);
      entered = enters h.journal h.entries h.serves h.run h.entered;
    }

-- events and further events
module _ {S : Type 0} (took : S → RawSetup → List (List ℕ) → List Entry → Type 0) where
  pub gave_more : {a b c : Node} {x y z : S} {L M : List (ℕ × Event)} → Gave took a x b y L → Gave took b y c z M → Gave took a x c z (L ++ M)
  gave_more {a} {b} {c} {x} {y} {z} {L} {M} h k = λ setup base past N d.
      subst (λ w. Drew took setup c z base past w) (append_assoc N L M) (k setup base past (N ++ L) (h setup base past N d))

  pub gave_none : (a : Node) (x : S) → Gave took a x a x []
  gave_none a x = λ setup base past N d. subst (λ w. Drew took setup a x base past w) (sym (append-nil N)) d

  -- entries of ticks that make no difference
  skipped : ((sink : S) (setup : RawSetup) (lines : List (List ℕ)) (K : List Entry) (who count : ℕ) → took sink setup lines K
      → took sink setup lines (K ++ entry_of_ticks who count ∷ []))
      → (sink : S) (setup : RawSetup) (lines : List (List ℕ)) (K : List Entry) (count : ℕ) (ts : List ℕ) → took sink setup lines K
      → took sink setup lines (K ++ map (λ t. entry_of_ticks t count) ts)
  skipped skips sink setup lines K count [] h = subst (took sink setup lines) (sym (append-nil K)) h
  skipped skips sink setup lines K count (t ∷ ts) h =
      let k = entry_of_ticks t count in
      subst (took sink setup lines) (append_assoc K (k ∷ []) (map (λ u. entry_of_ticks u count) ts))
      (skipped skips sink setup lines (K ++ k ∷ []) count ts (skips sink setup lines K t count h))

  -- ticks of each tester, in which no port did anything, and of which the sink was not told
  pub gave_quiet : (old new : Node) (sink : S) (n count : ℕ)
      → ((sink : S) (setup : RawSetup) (lines : List (List ℕ)) (K : List Entry) (who count : ℕ) → took sink setup lines K
      → took sink setup lines (K ++ entry_of_ticks who count ∷ []))
      → Waited (server_of old.server) (server_of new.server) n count → new.drawn ≡ old.drawn
      → Gave took old sink new sink (each_of n (Ticks count))
  gave_quiet old new sink n count skips waited same = λ setup base past M d.
      let served = waited.served setup M d.journal d.serves in
      let more = entries_of_each n count in
      record {
        journal = d.journal ++ more;
        serves = served.0;
        lists = ap (λ (f : LineFrames). length f.lists.items) same ∙ d.lists;
        frames = λ i frames at. served.1 (i + 1) ∙ d.frames i frames (subst (λ (f : LineFrames). slice_get (lists_of f) i ≡ Some frames) same at);
        entries = d.entries ++ more;
        run = ap (λ w. w ++ more) d.run ∙ append_assoc (journal_of setup past) d.entries more;
        entered = skipped skips sink setup past d.entries count (counted_from 1 n) d.entered;
      }

pub same_more : (a b c : Node) → SameShape a b → SameShape b c → SameShape a c
same_more a b c h k = record { ports = k.ports ∙ h.ports; lists = k.lists ∙ h.lists; filled = λ known. k.filled (h.filled known); rest = λ known. k.rest (h.rest known) }

pub same_none : (a : Node) → SameShape a a
same_none a = record { ports = refl; lists = refl; filled = λ known. known; rest = λ known. known }

pub frames_more : (setup : RawSetup) (frame : Option Frame) (n who : ℕ) → who ≡ n + 1
    → flat_map (frame_to setup frame) (counted_from 1 (n + 1)) ≡ flat_map (frame_to setup frame) (counted_from 1 n) ++ frame_to setup frame who
frames_more setup frame n who is =
    ap (flat_map (frame_to setup frame)) (counted_more 1 n)
    ∙ (flat_map-append (frame_to setup frame) (counted_from 1 n) ((1 + n) ∷ [])
    ∙ (ap (λ w. flat_map (frame_to setup frame) (counted_from 1 n) ++ w) (append-nil (frame_to setup frame (1 + n)))
    ∙ ap (λ t. flat_map (frame_to setup frame) (counted_from 1 n) ++ frame_to setup frame t) (omega (arith, is))))

pub functional_more : (setup : RawSetup) (id : ℕ) (bytes : List ℕ) (n who : ℕ) → who ≡ n + 1
    → functional_to_all setup id (n + 1) bytes ≡ functional_to_all setup id n bytes ++ functional_to setup id bytes who
functional_more setup id bytes n who is =
    ap (flat_map (functional_to setup id bytes)) (counted_more 1 n)
    ∙ (flat_map-append (functional_to setup id bytes) (counted_from 1 n) ((1 + n) ∷ [])
    ∙ (ap (λ w. functional_to_all setup id n bytes ++ w) (append-nil (functional_to setup id bytes (1 + n)))
    ∙ ap (λ t. functional_to_all setup id n bytes ++ functional_to setup id bytes t) (omega (arith, is))))

-- a part of 60000 more
pub parts_more : (n k : ℕ) (e : Event) → flat_map (each_of n) (replicate (k + 1) e) ≡ flat_map (each_of n) (replicate k e) ++ each_of n e
parts_more n k e =
    let one : k + 1 ≡ suc k = omega arith in
    ap (flat_map (each_of n)) (ap (λ m. replicate m e) one ∙ replicate_last k e)
    ∙ (flat_map-append (each_of n) (replicate k e) (e ∷ []) ∙ ap (λ w. flat_map (each_of n) (replicate k e) ++ w) (append-nil (each_of n e)))
  where
    replicate_last : (k : ℕ) (e : Event) → replicate (suc k) e ≡ replicate k e ++ e ∷ []
    replicate_last zero e = refl
    replicate_last (suc k) e = ap (λ w. e ∷ w) (replicate_last k e)

pub waited_whole : (ms : ℕ) → ms % 60000 ≡ 0 → waited ms ≡ replicate (ms / 60000) (Ticks 60000)
waited_whole ms none =
    ap (λ (b : Bool). replicate (ms / 60000) (Ticks 60000) ++ (if b then [] else Ticks (ms % 60000) ∷ [])) (eq-eqb (ms % 60000) 0 none)
    ∙ append-nil (replicate (ms / 60000) (Ticks 60000))

pub waited_rest : (ms : ℕ) → 1 ≤ ms % 60000 → waited ms ≡ replicate (ms / 60000) (Ticks 60000) ++ Ticks (ms % 60000) ∷ []
waited_rest ms some =
    ap (λ (b : Bool). replicate (ms / 60000) (Ticks 60000) ++ (if b then [] else Ticks (ms % 60000) ∷ [])) (some-eqb (ms % 60000) some)
  where
    some-eqb : (n : ℕ) → 1 ≤ n → (n == 0) ≡ false
    some-eqb n h = grind (arith, nat_tests)

-- a count of ticks is waited at once
pub waited_count : (n : ℕ) → 1 ≤ n → n ≤ 60000 → waited n ≡ Ticks n ∷ []
waited_count n some few = elim (cases_eq n 60000) [
  | inl most ↦ rw most refl
  | inr fewer ↦
      let parts : n / 60000 ≡ 0 = omega (arith, fewer) in
      let rest : n % 60000 ≡ n = omega (arith, fewer) in
      let left : (n == 0) ≡ false = grind (arith, nat_tests) in
      rw (parts, rest, left) refl
]

-- fewer than 60000 are given as they are
pub waited_few : (n ms count : ℕ) → count ≡ ms → 1 ≤ ms → ms < 60000 → each_of n (Ticks count) ≡ flat_map (each_of n) (waited ms)
waited_few n ms count is some few =
    ap (λ k. each_of n (Ticks k)) is ∙ sym (ap (flat_map (each_of n)) (waited_count ms some (omega arith)) ∙ append-nil (each_of n (Ticks ms)))

pub rest_more : (n : ℕ) (es : List Event) (e : Event) → flat_map (each_of n) (es ++ e ∷ []) ≡ flat_map (each_of n) es ++ each_of n e
rest_more n es e = flat_map-append (each_of n) es (e ∷ []) ∙ ap (λ w. flat_map (each_of n) es ++ w) (append-nil (each_of n e))

-- what stands at a place that there is
pub found_at : {X : Type 0} (xs : List X) (i : ℕ) → i < length xs → (x : X) × (slice_get xs i ≡ Some x)
found_at [] i h = absurd (omega (arith, h))
found_at (x ∷ xs) zero h = (x, refl)
found_at (x ∷ xs) (suc i) h = found_at xs i (omega (arith, h))

whose : (asked : Option Entry) (who now : ℕ) (K : List Entry) → IfSome asked (λ k. k.who ≡ who) → now ≡ ticks_of who K
    → IfSome asked (λ k. now ≡ ticks_of k.who K)
whose None who now K by is = tt
whose (Some k) who now K by is = is ∙ ap (λ t. ticks_of t K) (sym by)

-- a link's clock tells the ticks that its tester has in the journal
pub clock_told : (setup : RawSetup) (server : ServerState) (M : List (ℕ × Event)) (K : List Entry) (who i : ℕ) (port : PortState)
    (asked : Option Entry)
    → Serves setup server M K → who ≡ i + 1 → slice_get server.ports i ≡ Some port → port.link.now ≤ closing_time → IfSome asked (λ k. k.who ≡ who)
    → IfSome asked (λ k. port.link.now ≡ ticks_of k.who K)
clock_told setup server M K who i port asked h is found early by =
    let time : port.link.now ≡ min (last_time (items_of M who)) last_tick =
    subst (λ t. port.link.now ≡ min (last_time (items_of M t)) last_tick) (sym is) (h.ports i port found).stands.stands.now in
    let exact : port.link.now ≡ last_time (items_of M who) = under port.link.now (last_time (items_of M who)) early time in
    whose asked who port.link.now K by (exact ∙ sym (ticks_served setup server M K who h))
  where
    under : (now time : ℕ) → now ≤ closing_time → now ≡ min time last_tick → now ≡ time
    under now time early is = omega (arith, early, is)
