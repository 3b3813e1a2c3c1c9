-- A capture that comes piece by piece: what is kept of it stands for what was read and written.
use Rattle.std.proofs.Common.{◌≡◌, ◌≢◌, ◌⊎◌, ℕ, Bool, Vec, Global, vec_len, ◌+◌, ◌-◌, ◌<◌, ◌≤◌, nat_lt, true, List, [], ◌∷◌, ◌++◌, length, take, None, Some, Option, Result, Ok, Err, OnOk, OnErr, IfErr, IsOk, IfSome, inl, inr, refl, sym, ap, subst, ◌∙◌, append_assoc, arith}
use Rattle.std.proofs.KnownBytes.{Appends-nil, Appends-trans}
use Rattle.std.proofs.lemmas.List.{append-nil, length-append, nil_from_length}
use Rattle.std.specs.Prelude.{◌==◌}
use Rattle.diag_text.specs.Bytes.{Sends}
use Rattle.std.proofs.lemmas.Bool.Decides.{nat_tests}
use Rattle.std.proofs.Math.Seq.{take-append_seam}
use Rattle.diag_can.specs.BusLine.{HasNoFeed, begun_line, bus_lines, ended_lines}
use Rattle.diag_can.specs.declared.fault.LineFault.TheVariants.{BadLine}
use Rattle.diag_can.proofs.BusLines.{begun_line-begun, begun_line-line, bus_lines-begin, bus_lines-begun, bus_lines-ended, bus_lines-first, bus_lines-more, ended_lines-begun, ended_lines-line, no_feed_in_begun}
use Rattle.diag_setup.specs.declared.raw.RawSetup.{RawSetup}
use Rattle.diag_bus.specs.Bus.{BusState, IsRefused, TookLine, TookLines}
use Rattle.diag_bus.specs.declared.sink.Sink.{Ghosts}
use Rattle.diag_bus.specs.Events.{first_fault, line_fault, line_said}
use Rattle.diag_bus.specs.declared.fault.BusFault.{BusFault}
use Rattle.diag_bus.specs.declared.fault.BusFault.TheVariants as bus
use Rattle.diag_bus.proofs.Faults.{first_fault_at}
use Rattle.std.specs.Io.KnownBytes.{Appends, IsAtEnd}
use Rattle.diag_run.specs.Capture.{IsCutShort, IsFaultyLine, IsFrontOf, StopsAt, StopsIn, StopsOn, capture_text, closing}
use Rattle.diag_desk.specs.declared.entry.Entry.{Entry}
use Rattle.diag_run.specs.Wanted.{End, EndsWith, IsEndFault, Wanted, end_with, wanted}
use Rattle.diag_run.specs.Faults.{fault_at}
use Rattle.diag_run.specs.Capturing.{Closes, ClosesEnded, GoesOn, Halts, HaltsEnded, HaltsAtEnd, HaltsIn, IsTold, IsWritings, SeesFault, Stands, StopsAfter, StopsWithin, fault_of}
use Rattle.diag_run.specs.declared.capture.Capture.{Capture}
use Rattle.diag_run.specs.declared.capture.CaptureFault.{CaptureFault}
use Rattle.diag_run.specs.declared.capture.CaptureFault.TheVariants.{Line, Memory, Read, Write, Otherwise}

-- nothing is kept where that is seen
pub none_kept : {empty : Bool} (kept : Vec ℕ Global) → empty ≡ (vec_len kept == 0) → empty ≡ true → kept.items ≡ []
none_kept kept is tested = nil_from_length kept.items (grind (arith, nat_tests))

IsFrontOf-trans : (front mid text : List ℕ) → IsFrontOf front mid → IsFrontOf mid text → IsFrontOf front text
IsFrontOf-trans front mid text a b = (a.0 ++ b.0, b.1 ∙ (ap (λ (m : List ℕ). m ++ b.0) a.1 ∙ append_assoc front a.0 b.0))

pub IsFrontOf-more : (wrote front text : List ℕ) → IsFrontOf front text → IsFrontOf (wrote ++ front) (wrote ++ text)
IsFrontOf-more wrote front text a = (a.0, ap (λ (t : List ℕ). wrote ++ t) a.1 ∙ sym (append_assoc wrote front a.0))

pub IsFrontOf-refl : (text : List ℕ) → IsFrontOf text text
IsFrontOf-refl text = ([], sym (append-nil text))

-- what holds of a result where it is well
pub both_on_ok : {T E : Type 0} (P Q : Type 0) (r : Result T E) → OnOk r P → OnOk r Q → OnOk r (P × Q)
both_on_ok P Q (Ok x) p q = (p, q)
both_on_ok P Q (Err e) p q = tt

pub ok_is_no_fault : {X E : Type 0} (result : Result X E) (x : X) (fault : E) → result ≡ Ok x → result ≢ Err fault
ok_is_no_fault {X} {E} result x fault ok is = let clash : (let r : Result X E = Ok x in r) ≡ Err fault = sym ok ∙ is in cc

pub err_same : {X E : Type 0} (a b : E) → (let r : Result X E = Err a in r) ≡ Err b → a ≡ b
err_same {X} {E} a b is = cc

-- another fault than the one that was answered
pub other_fault : {X E : Type 0} (result : Result X E) (a b c : E) → result ≡ Err a → a ≡ b → b ≢ c → result ≢ Err c
other_fault {X} {E} result a b c was same other is = other (sym same ∙ err_same {X = X} {E = E} a c (sym was ∙ is))

-- a fault that is passed on is the one that was answered
pub same_fault : {X Y E : Type 0} (told : Result X E) (passed : Result Y E) (a b c : E) → told ≡ Err a → passed ≡ Err b → a ≡ b → passed ≡ Err c → told ≡ Err c
same_fault {X} {Y} {E} told passed a b c was is same other =
    was ∙ ap (λ (e : E). (let r : Result X E = Err e in r)) (same ∙ err_same {X = Y} {E = E} b c (sym is ∙ other))

module _ {S A : Type 0} (g : Ghosts S) (took : S → RawSetup → List (List ℕ) → List Entry → Type 0) (aim : S → A) (written : A → RawSetup → List (List ℕ) → List ℕ)
    (ends : S → RawSetup → List (List ℕ) → Result End (List ℕ)) where
  abbrev pub want_of : S → Wanted
  want_of = wanted written ends aim

  -- the text of the same run
  same_run : {o o' : Wanted} {s s' : RawSetup} (lines : List (List ℕ)) → o' ≡ o → s' ≡ s → o.written s lines ≡ o'.written s' lines
  same_run {o} {o'} {s} {s'} lines want setup =
      ap (λ (x : Wanted). x.written s lines) (sym want) ∙ ap (λ (x : RawSetup). o'.written x lines) (sym setup)

  -- ---- the state goes on

  pub stands_begin : (capture : Capture S g) → TookLines took capture.bus [] → capture.kept.items ≡ [] → capture.lines ≡ 0
      → capture.text.items ≡ (want_of capture.bus.sink).written capture.bus.setup [] → Stands took want_of capture [] []
  unfolding ended_lines begun_line
  stands_begin capture begun none count due = record { took_lines = begun; kept = none; count = count; due = due }

  pub GoesOn-trans : (a b c : Capture S g) (x y s t : List ℕ) → GoesOn took want_of a b x s → GoesOn took want_of b c y t → GoesOn took want_of a c (x ++ y) (s ++ t)
  GoesOn-trans a b c x y s t first second = record {
    setup = second.setup ∙ first.setup;
    want = second.want ∙ first.want;
    stands = λ seen wrote h.
        subst (λ (w : List ℕ). Stands took want_of c (seen ++ (x ++ y)) w) (append_assoc wrote s t)
        (subst (λ (b : List ℕ). Stands took want_of c b ((wrote ++ s) ++ t)) (append_assoc seen x y)
        (second.stands (seen ++ x) (wrote ++ s) (first.stands seen wrote h)));
  }

  -- what is wanted of a sink that is asked for the same
  pub want_same : ((a b : S) → aim a ≡ aim b → ends a ≡ ends b) → (x y : S) → aim x ≡ aim y → want_of x ≡ want_of y
  want_same as_asked x y asked =
      ap (λ (w : RawSetup → List (List ℕ) → List ℕ). (let r : Wanted = record { written = w; ends = ends x } in r)) (ap written asked)
      ∙ ap (λ (e : RawSetup → List (List ℕ) → Result End (List ℕ)). (let r : Wanted = record { written = written (aim y); ends = e } in r)) (as_asked x y asked)

  module _ (as_asked : (a b : S) → aim a ≡ aim b → ends a ≡ ends b) (old new : Capture S g) (setup : new.bus.setup ≡ old.bus.setup)
      (asked : aim new.bus.sink ≡ aim old.bus.sink) where
    -- the line that was begun was ended, and the bus took it
    pub line_goes_on : (bytes line more : List ℕ) → HasNoFeed bytes → line ≡ old.kept.items ++ bytes → TookLine took aim written old.bus new.bus line more
        → new.kept.items ≡ [] → new.lines ≡ old.lines + 1 → new.text.items ≡ old.text.items ++ more
        → GoesOn took want_of old new (bytes ++ 10 ∷ []) []
    line_goes_on bytes line more none is gave emptied count grown = record {
      setup = setup;
      want = want_same as_asked new.bus.sink old.bus.sink asked;
      stands = λ seen wrote s.
          let same : line ≡ begun_line seen ++ bytes = is ∙ ap (λ (k : List ℕ). k ++ bytes) s.kept in
          let ended : ended_lines seen ++ line ∷ [] ≡ ended_lines (seen ++ (bytes ++ 10 ∷ [])) =
          ap (λ (l : List ℕ). ended_lines seen ++ l ∷ []) same ∙ sym (ended_lines-line seen bytes none) in
          let gone = gave (ended_lines seen) s.took_lines in
          record {
            took_lines = subst (TookLines took new.bus) ended gone.0;
            kept = emptied ∙ sym (begun_line-line seen bytes none);
            count = count ∙ (ap (λ n. n + 1) s.count ∙ (sym (length-append (ended_lines seen) (line ∷ [])) ∙ ap length ended));
            due =
                ap (λ (w : List ℕ). w ++ new.text.items) (append-nil wrote)
                ∙ (ap (λ (t : List ℕ). wrote ++ t) grown
                ∙ (sym (append_assoc wrote old.text.items more)
                ∙ (ap (λ (w : List ℕ). w ++ more) s.due
                ∙ (sym gone.1
                ∙ (ap ((want_of old.bus.sink).written old.bus.setup) ended
                ∙ same_run (ended_lines (seen ++ (bytes ++ 10 ∷ []))) (want_same as_asked new.bus.sink old.bus.sink asked) setup)))));
          };
    }

  module _ (old mid new : Capture S g) (bytes : List ℕ) (on : GoesOn took want_of old mid bytes []) (same : new.bus ≡ mid.bus) (kept : new.kept.items ≡ mid.kept.items)
      (count : new.lines ≡ mid.lines) where
    -- and what was to be written was written
    pub sent_on : new.text.items ≡ [] → GoesOn took want_of old new bytes mid.text.items
    sent_on none = record {
      setup = ap (λ (b : BusState S). b.setup) same ∙ on.setup;
      want = ap (λ (b : BusState S). want_of b.sink) same ∙ on.want;
      stands = λ seen wrote s.
          let m = on.stands seen wrote s in
          let lines = ended_lines (seen ++ bytes) in
          record {
            took_lines = subst (λ (b : BusState S). TookLines took b lines) (sym same) m.took_lines;
            kept = kept ∙ m.kept;
            count = count ∙ m.count;
            due =
                ap (λ (t : List ℕ). (wrote ++ mid.text.items) ++ t) none
                ∙ (append-nil (wrote ++ mid.text.items)
                ∙ (ap (λ (w : List ℕ). w ++ mid.text.items) (sym (append-nil wrote))
                ∙ (m.due ∙ ap (λ (b : BusState S). (want_of b.sink).written b.setup lines) (sym same))));
          };
    }

  -- bytes of a line that is begun were kept, and what was to be written was written, or part of it
  pub begun_goes_on : (old new : Capture S g) (bytes sent : List ℕ) → HasNoFeed bytes → new.bus ≡ old.bus → new.kept.items ≡ old.kept.items ++ bytes
      → new.lines ≡ old.lines → sent ++ new.text.items ≡ old.text.items → GoesOn took want_of old new bytes sent
  begun_goes_on old new bytes sent none same kept count text = record {
    setup = ap (λ (b : BusState S). b.setup) same;
    want = ap (λ (b : BusState S). want_of b.sink) same;
    stands = λ seen wrote s.
        let ended : ended_lines (seen ++ bytes) ≡ ended_lines seen = ended_lines-begun seen bytes none in
        record {
          took_lines = subst (TookLines took new.bus) (sym ended) (subst (λ (b : BusState S). TookLines took b (ended_lines seen)) (sym same) s.took_lines);
          kept = kept ∙ (ap (λ (k : List ℕ). k ++ bytes) s.kept ∙ sym (begun_line-begun seen bytes none));
          count = count ∙ (s.count ∙ ap length (sym ended));
          due =
              append_assoc wrote sent new.text.items
              ∙ (ap (λ (t : List ℕ). wrote ++ t) text
              ∙ (s.due
              ∙ (ap (λ (b : BusState S). (want_of b.sink).written b.setup (ended_lines seen)) (sym same)
              ∙ ap ((want_of new.bus.sink).written new.bus.setup) (sym ended))));
        };
  }

  -- ---- where it ends by a fault

  module _ (want : Wanted) (setup : RawSetup) where
    cut_front : (lines : List (List ℕ)) (front wrote : List ℕ) → IsFrontOf front wrote → IsCutShort want setup lines wrote → IsCutShort want setup lines front
    cut_front lines front wrote a cut = record {
      taken = cut.taken;
      others = cut.others;
      are = cut.are;
      well = cut.well;
      front = elim cut.front [
        | inl f ↦ inl (IsFrontOf-trans front wrote (want.written setup cut.taken) a f)
        | inr f ↦ inr (f.0, IsFrontOf-trans front wrote (capture_text want setup cut.taken) a f.1)
      ];
    }

    cut_at : (taken others lines : List (List ℕ)) (wrote : List ℕ) → lines ≡ taken ++ others → first_fault setup taken ≡ None
        → IsFrontOf wrote (want.written setup taken)
        → IsCutShort want setup lines wrote
    cut_at taken others lines wrote are well front = record { taken = taken; others = others; are = are; well = well; front = inl front }

    faulty : (taken others lines : List (List ℕ)) (line : List ℕ) (fault : BusFault) (n : ℕ) (wrote : List ℕ) → lines ≡ taken ++ line ∷ others → n ≡ length taken
        → first_fault setup taken ≡ None → line_fault setup taken line ≡ Some fault → wrote ≡ want.written setup taken → IsFaultyLine want setup (n + 1) fault lines wrote
    faulty taken others lines line fault n wrote are count well is due =
        let before : n + 1 - 1 ≡ length taken = omega (arith, count) in
        let front : take (n + 1 - 1) lines ≡ taken =
        ap (λ (k : ℕ). take k lines) before ∙ (ap (take (length taken)) are ∙ take-append_seam taken (line ∷ others)) in
        record {
          first = ap (first_fault setup) are ∙ (first_fault_at setup taken others line fault well is ∙ ap (λ (k : ℕ). Some (k + 1, fault)) (sym count));
          text = due ∙ ap (want.written setup) (sym front);
        }

    -- a fault is one of the lines alone
    StopsIn-same : (fault : CaptureFault) (a b : List ℕ) (wrote : List ℕ) → bus_lines a ≡ bus_lines b → StopsIn want setup (fault_of fault) a wrote
        → StopsIn want setup (fault_of fault) b wrote
    StopsIn-same fault a b wrote same h = subst (λ (l : List (List ℕ)). StopsOn want setup (fault_of fault) l wrote) same h

  -- the bytes that follow go on with the line that was begun
  goes_on_with : (seen bytes rest : List ℕ) → bus_lines ((seen ++ bytes) ++ rest) ≡ ended_lines seen ++ bus_lines (begun_line seen ++ (bytes ++ rest))
  goes_on_with seen bytes rest = ap bus_lines (append_assoc seen bytes rest) ∙ bus_lines-more seen (bytes ++ rest)

  -- what is to be written is the text of the lines that were taken
  due_front : (capture : Capture S g) (seen wrote : List ℕ) → Stands took want_of capture seen wrote
      → IsFrontOf (wrote ++ capture.text.items) ((want_of capture.bus.sink).written capture.bus.setup (ended_lines seen))
  due_front capture seen wrote s = ([], sym s.due ∙ sym (append-nil (wrote ++ capture.text.items)))

  some_lines : (line : List ℕ) (others lines : List (List ℕ)) → lines ≡ line ∷ others → lines ≢ []
  some_lines line others lines are none = let clash : line ∷ others ≡ [] = sym are ∙ none in cc

  module _ (capture : Capture S g) where
    cut_here : (seen wrote bytes rest : List ℕ) → Stands took want_of capture seen wrote
        → IsCutShort (want_of capture.bus.sink) capture.bus.setup (bus_lines ((seen ++ bytes) ++ rest)) (wrote ++ capture.text.items)
    cut_here seen wrote bytes rest s =
        cut_at (want_of capture.bus.sink) capture.bus.setup (ended_lines seen) (bus_lines (begun_line seen ++ (bytes ++ rest)))
        (bus_lines ((seen ++ bytes) ++ rest)) (wrote ++ capture.text.items)
        (goes_on_with seen bytes rest) s.took_lines.well (due_front capture seen wrote s)

    -- memory was refused for a line that has bytes
    pub memory_halts : (bytes tail : List ℕ) → HasNoFeed bytes → 0 < length bytes → HaltsIn took want_of capture Memory (bytes ++ tail) capture.text.items
    unfolding cut_here begun_line cut_at
    memory_halts bytes tail none some = λ seen wrote s.
        let line = begun_line seen ++ bytes in
        let plain : HasNoFeed line = subst HasNoFeed (begun_line-begun seen bytes none) (no_feed_in_begun (seen ++ bytes)) in
        let size : 0 < length line = omega (arith, some, length-append (begun_line seen) bytes) in
        let text : (rest : List ℕ) → begun_line seen ++ ((bytes ++ tail) ++ rest) ≡ line ++ (tail ++ rest) =
        λ rest. ap (λ (t : List ℕ). begun_line seen ++ t) (append_assoc bytes tail rest) ∙ sym (append_assoc (begun_line seen) bytes (tail ++ rest)) in
        record {
          stops = λ rest. record {
            cut = cut_here seen wrote (bytes ++ tail) rest s;
            before = λ told ends. inl (
                let first = bus_lines-begin line (tail ++ rest) plain size in
                some_lines (line ++ first.more) first.others (bus_lines (begun_line seen ++ ((bytes ++ tail) ++ rest))) (ap bus_lines (text rest) ∙ first.are)
                );
          };
          cut = λ rest. cut_here seen wrote (bytes ++ tail) rest s;
        }

    -- memory was refused for a line that was ended
    pub memory_halts_line : (bytes : List ℕ) → HasNoFeed bytes → HaltsIn took want_of capture Memory (bytes ++ 10 ∷ []) capture.text.items
    unfolding cut_here begun_line cut_at
    memory_halts_line bytes none = λ seen wrote s.
        let plain : HasNoFeed (begun_line seen ++ bytes) = subst HasNoFeed (begun_line-begun seen bytes none) (no_feed_in_begun (seen ++ bytes)) in
        let text : (rest : List ℕ) → begun_line seen ++ ((bytes ++ 10 ∷ []) ++ rest) ≡ (begun_line seen ++ bytes) ++ 10 ∷ rest =
        λ rest. ap (λ (t : List ℕ). begun_line seen ++ t) (append_assoc bytes (10 ∷ []) rest) ∙ sym (append_assoc (begun_line seen) bytes (10 ∷ rest)) in
        record {
          stops = λ rest. record {
            cut = cut_here seen wrote (bytes ++ 10 ∷ []) rest s;
            before = λ told ends. inl (
                some_lines (begun_line seen ++ bytes) (bus_lines rest) (bus_lines (begun_line seen ++ ((bytes ++ 10 ∷ []) ++ rest)))
                (ap bus_lines (text rest) ∙ bus_lines-first (begun_line seen ++ bytes) rest plain)
                );
          };
          cut = λ rest. cut_here seen wrote (bytes ++ 10 ∷ []) rest s;
        }

    -- the bus refused the line that was ended
    pub line_halts : (bytes line : List ℕ) (fault : BusFault) → HasNoFeed bytes → line ≡ capture.kept.items ++ bytes
        → ((lines : List (List ℕ)) → TookLines took capture.bus lines → line_fault capture.bus.setup lines line ≡ Some fault)
        → HaltsIn took want_of capture (Line (capture.lines + 1) fault) (bytes ++ 10 ∷ []) capture.text.items
    line_halts bytes line fault none is refused = λ seen wrote s.
        let same : line ≡ begun_line seen ++ bytes = is ∙ ap (λ (k : List ℕ). k ++ bytes) s.kept in
        let text : (rest : List ℕ) → begun_line seen ++ ((bytes ++ 10 ∷ []) ++ rest) ≡ (begun_line seen ++ bytes) ++ 10 ∷ rest =
        λ rest. ap (λ (t : List ℕ). begun_line seen ++ t) (append_assoc bytes (10 ∷ []) rest) ∙ sym (append_assoc (begun_line seen) bytes (10 ∷ rest)) in
        let are : (rest : List ℕ) → bus_lines ((seen ++ (bytes ++ 10 ∷ [])) ++ rest) ≡ ended_lines seen ++ line ∷ bus_lines rest =
        λ rest. goes_on_with seen (bytes ++ 10 ∷ []) rest
        ∙ ap (λ (l : List (List ℕ)). ended_lines seen ++ l)
        (ap bus_lines (text rest) ∙ (bus_lines-first (begun_line seen ++ bytes) rest (grown seen none) ∙ ap (λ (l : List ℕ). l ∷ bus_lines rest) (sym same))) in
        record {
          stops = λ rest. faulty (want_of capture.bus.sink) capture.bus.setup (ended_lines seen) (bus_lines rest)
              (bus_lines ((seen ++ (bytes ++ 10 ∷ [])) ++ rest)) line fault capture.lines
              (wrote ++ capture.text.items) (are rest) s.count s.took_lines.well (refused (ended_lines seen) s.took_lines) s.due;
          cut = λ rest. cut_here seen wrote (bytes ++ 10 ∷ []) rest s;
        }
      where
        grown : (seen : List ℕ) → HasNoFeed bytes → HasNoFeed (begun_line seen ++ bytes)
        grown seen none = subst HasNoFeed (begun_line-begun seen bytes none) (no_feed_in_begun (seen ++ bytes))

  -- a line of more than 4096 bytes is a bad line
  long_is_bad : (setup : RawSetup) (taken : List (List ℕ)) (line : List ℕ) → 4096 < length line → line_fault setup taken line ≡ Some (bus.Line BadLine)
  long_is_bad setup taken line long =
      let test : nat_lt 4096 (length line) ≡ true = grind (arith, nat_tests) in
      let says : line_said setup line ≡ Err BadLine = rw test refl in
      rw says refl

  module _ (capture : Capture S g) where
    -- the line that was begun is too long, whatever follows
    pub long_halts : (bytes tail : List ℕ) → HasNoFeed bytes → 4096 < length capture.kept.items + length bytes
        → HaltsIn took want_of capture (Line (capture.lines + 1) (bus.Line BadLine)) (bytes ++ tail) capture.text.items
    long_halts bytes tail none long = λ seen wrote s.
        let line = begun_line seen ++ bytes in
        let count : length capture.kept.items ≡ length (begun_line seen) = ap length s.kept in
        let size : 4096 < length line = omega (arith, count, long, length-append (begun_line seen) bytes) in
        let plain : HasNoFeed line = subst HasNoFeed (begun_line-begun seen bytes none) (no_feed_in_begun (seen ++ bytes)) in
        let text : (rest : List ℕ) → begun_line seen ++ ((bytes ++ tail) ++ rest) ≡ line ++ (tail ++ rest) =
        λ rest. ap (λ (t : List ℕ). begun_line seen ++ t) (append_assoc bytes tail rest) ∙ sym (append_assoc (begun_line seen) bytes (tail ++ rest)) in
        record {
          stops = λ rest.
              let first = bus_lines-begin line (tail ++ rest) plain (omega arith) in
              let are : bus_lines ((seen ++ (bytes ++ tail)) ++ rest) ≡ ended_lines seen ++ (line ++ first.more) ∷ first.others =
              goes_on_with seen (bytes ++ tail) rest ∙ ap (λ (l : List (List ℕ)). ended_lines seen ++ l) (ap bus_lines (text rest) ∙ first.are) in
              let whole : 4096 < length (line ++ first.more) = omega (arith, size, length-append line first.more) in
              faulty (want_of capture.bus.sink) capture.bus.setup (ended_lines seen) first.others (bus_lines ((seen ++ (bytes ++ tail)) ++ rest))
              (line ++ first.more) (bus.Line BadLine) capture.lines
              (wrote ++ capture.text.items) are s.count s.took_lines.well (long_is_bad capture.bus.setup (ended_lines seen) (line ++ first.more) whole) s.due;
          cut = λ rest. cut_here capture seen wrote (bytes ++ tail) rest s;
        }

  -- how a fault is answered: behind what was to be written, or as the fault of the writing
  abbrev pub Answered : CaptureFault → List ℕ → CaptureFault → List ℕ → Type 0
  Answered fault text result sent = ((result ≡ fault) × (sent ≡ text)) ⊎ ((result ≡ Write) × IsFrontOf sent text)

  pub answered_halts : (capture : Capture S g) (fault result : CaptureFault) (bytes text sent : List ℕ) → HaltsIn took want_of capture fault bytes text
      → Answered fault text result sent
      → HaltsIn took want_of capture result bytes sent
  answered_halts capture fault result bytes text sent h (inl same) =
      subst (λ (f : CaptureFault). HaltsIn took want_of capture f bytes sent) (sym same.0) (subst (λ (t : List ℕ). HaltsIn took want_of capture fault bytes t) (sym same.1) h)
  answered_halts capture fault result bytes text sent h (inr failed) = λ seen wrote s.
      let halts = h seen wrote s in
      let cut : (rest : List ℕ) → IsCutShort (want_of capture.bus.sink) capture.bus.setup (bus_lines ((seen ++ bytes) ++ rest)) (wrote ++ sent) =
      λ rest. cut_front (want_of capture.bus.sink) capture.bus.setup (bus_lines ((seen ++ bytes) ++ rest)) (wrote ++ sent) (wrote ++ text)
      (IsFrontOf-more wrote sent text failed.1) (halts.cut rest) in
      subst (λ (f : CaptureFault). Halts (want_of capture.bus.sink) capture.bus.setup f (seen ++ bytes) (wrote ++ sent)) (sym failed.0)
      (record { stops = cut; cut = cut })

  -- the writing failed
  pub write_halts : (old mid : Capture S g) (bytes sent : List ℕ) → GoesOn took want_of old mid bytes [] → IsFrontOf sent mid.text.items → HaltsIn took want_of old Write bytes sent
  write_halts old mid bytes sent on front = λ seen wrote s.
      let m = on.stands seen wrote s in
      let lines = ended_lines (seen ++ bytes) in
      let due : (want_of old.bus.sink).written old.bus.setup lines ≡ wrote ++ mid.text.items =
      same_run lines on.want on.setup ∙ (sym m.due ∙ ap (λ (w : List ℕ). w ++ mid.text.items) (append-nil wrote)) in
      let more = IsFrontOf-more wrote sent mid.text.items front in
      let cut : (rest : List ℕ) → IsCutShort (want_of old.bus.sink) old.bus.setup (bus_lines ((seen ++ bytes) ++ rest)) (wrote ++ sent) =
      λ rest. cut_at (want_of old.bus.sink) old.bus.setup lines (bus_lines (begun_line (seen ++ bytes) ++ rest)) (bus_lines ((seen ++ bytes) ++ rest)) (wrote ++ sent)
      (bus_lines-more (seen ++ bytes) rest) (subst (λ (u : RawSetup). first_fault u lines ≡ None) on.setup m.took_lines.well) (more.0, due ∙ more.1) in
      record { stops = cut; cut = cut }

  -- the fault came later
  pub later_halts : (old mid : Capture S g) (x y s t : List ℕ) (fault : CaptureFault) → GoesOn took want_of old mid x s → HaltsIn took want_of mid fault y t
      → HaltsIn took want_of old fault (x ++ y) (s ++ t)
  later_halts old mid x y s t fault on h = λ seen wrote st.
      let halts = h (seen ++ x) (wrote ++ s) (on.stands seen wrote st) in
      let here : Halts (want_of old.bus.sink) old.bus.setup fault ((seen ++ x) ++ y) ((wrote ++ s) ++ t) =
      subst (λ (o : Wanted). Halts o old.bus.setup fault ((seen ++ x) ++ y) ((wrote ++ s) ++ t)) on.want
      (subst (λ (u : RawSetup). Halts (want_of mid.bus.sink) u fault ((seen ++ x) ++ y) ((wrote ++ s) ++ t)) on.setup halts) in
      subst (λ (w : List ℕ). Halts (want_of old.bus.sink) old.bus.setup fault (seen ++ (x ++ y)) w) (append_assoc wrote s t)
      (subst (λ (b : List ℕ). Halts (want_of old.bus.sink) old.bus.setup fault b ((wrote ++ s) ++ t)) (append_assoc seen x y) here)

  -- the writing failed before these bytes were taken
  pub write_fails : (capture : Capture S g) (bytes sent : List ℕ) → IsFrontOf sent capture.text.items → HaltsIn took want_of capture Write bytes sent
  write_fails capture bytes sent front = λ seen wrote s.
      let cut : (rest : List ℕ) → IsCutShort (want_of capture.bus.sink) capture.bus.setup (bus_lines ((seen ++ bytes) ++ rest)) (wrote ++ sent) =
      λ rest. cut_front (want_of capture.bus.sink) capture.bus.setup (bus_lines ((seen ++ bytes) ++ rest)) (wrote ++ sent) (wrote ++ capture.text.items)
      (IsFrontOf-more wrote sent capture.text.items front) (cut_here capture seen wrote bytes rest s) in
      record { stops = cut; cut = cut }

  -- ---- the end of the capture

  begun_ended : (seen : List ℕ) → 0 < length (begun_line seen) → bus_lines (seen ++ 10 ∷ []) ≡ bus_lines seen
  begun_ended seen some =
      let none : HasNoFeed [] = λ k d less. absurd (omega arith) in
      let ended : ended_lines (seen ++ 10 ∷ []) ≡ ended_lines seen ++ (begun_line seen ++ []) ∷ [] = ended_lines-line seen [] none in
      bus_lines-ended (seen ++ 10 ∷ []) (begun_line-line seen [] none)
      ∙ (ended ∙ (ap (λ (l : List ℕ). ended_lines seen ++ l ∷ []) (append-nil (begun_line seen)) ∙ sym (bus_lines-begun seen some)))

  module _ (capture : Capture S g) (none : capture.kept.items ≡ []) where
    all_ended : (seen wrote : List ℕ) → Stands took want_of capture seen wrote → ended_lines seen ≡ bus_lines seen
    all_ended seen wrote s = sym (bus_lines-ended seen (sym s.kept ∙ none))

    pub closes_ended : (new : Capture S g) (status : ℕ) (sent : List ℕ) → ClosesEnded took want_of capture new status sent → Closes took want_of capture new status sent
    closes_ended new status sent closes = λ seen wrote s.
        let same = all_ended seen wrote s in
        let here = closes seen wrote s in (
          subst (λ (l : List (List ℕ)). first_fault capture.bus.setup l ≡ None) same s.took_lines.well,
          subst (λ (l : List (List ℕ)). EndsWith ((want_of capture.bus.sink).ends capture.bus.setup l) status) same here.0,
          here.1 ∙ ap (capture_text (want_of capture.bus.sink) capture.bus.setup) same,
          here.2,
          subst (TookLines took new.bus) same here.3,
        )

    pub halts_ended : (fault : CaptureFault) (sent : List ℕ) → HaltsEnded took want_of capture fault sent → HaltsAtEnd took want_of capture fault sent
    halts_ended fault sent halts = λ seen wrote s.
        subst (λ (l : List (List ℕ)). StopsOn (want_of capture.bus.sink) capture.bus.setup (fault_of fault) l (wrote ++ sent)) (all_ended seen wrote s)
        (halts seen wrote s)

  -- the line that was begun was taken as one with a line feed
  module _ (old : Capture S g) (begun : 0 < length old.kept.items) where
    last_line : (seen wrote : List ℕ) → Stands took want_of old seen wrote → bus_lines (seen ++ 10 ∷ []) ≡ bus_lines seen
    last_line seen wrote s = begun_ended seen (let count : length old.kept.items ≡ length (begun_line seen) = ap length s.kept in omega (arith, count, begun))

    pub halts_begun : (fault : CaptureFault) (sent : List ℕ) → HaltsIn took want_of old fault (10 ∷ []) sent → HaltsAtEnd took want_of old fault sent
    halts_begun fault sent h = λ seen wrote s.
        StopsIn-same (want_of old.bus.sink) old.bus.setup fault ((seen ++ 10 ∷ []) ++ []) seen (wrote ++ sent)
        (ap bus_lines (append-nil (seen ++ 10 ∷ [])) ∙ last_line seen wrote s) ((h seen wrote s).stops [])

    module _ (mid : Capture S g) (s : List ℕ) (on : GoesOn took want_of old mid (10 ∷ []) s) where
      pub closes_begun : (new : Capture S g) (status : ℕ) (t : List ℕ) → Closes took want_of mid new status t → Closes took want_of old new status (s ++ t)
      closes_begun new status t closes = λ seen wrote st.
          let m = closes (seen ++ 10 ∷ []) (wrote ++ s) (on.stands seen wrote st) in
          let same = last_line seen wrote st in
          let lines = bus_lines (seen ++ 10 ∷ []) in (
            subst (λ (l : List (List ℕ)). first_fault old.bus.setup l ≡ None) same
                (subst (λ (u : RawSetup). first_fault u lines ≡ None) on.setup m.0),
            subst (λ (l : List (List ℕ)). EndsWith ((want_of old.bus.sink).ends old.bus.setup l) status) same
                (subst (λ (o : Wanted). EndsWith (o.ends old.bus.setup lines) status) on.want
                (subst (λ (u : RawSetup). EndsWith ((want_of mid.bus.sink).ends u lines) status) on.setup m.1)),
            sym (append_assoc wrote s t)
                ∙ (m.2
                ∙ (ap (λ (o : Wanted). capture_text o mid.bus.setup lines) on.want
                ∙ (ap (λ (u : RawSetup). capture_text (want_of old.bus.sink) u lines) on.setup
                ∙ ap (capture_text (want_of old.bus.sink) old.bus.setup) same))),
            m.3 ∙ on.setup,
            subst (TookLines took new.bus) same m.4,
          )

      pub cut_begun : (fault : CaptureFault) (t : List ℕ) → HaltsAtEnd took want_of mid fault t → HaltsAtEnd took want_of old fault (s ++ t)
      cut_begun fault t h = λ seen wrote st.
          let here = h (seen ++ 10 ∷ []) (wrote ++ s) (on.stands seen wrote st) in
          StopsIn-same (want_of old.bus.sink) old.bus.setup fault (seen ++ 10 ∷ []) seen (wrote ++ (s ++ t)) (last_line seen wrote st)
          (subst (λ (w : List ℕ). StopsIn (want_of old.bus.sink) old.bus.setup (fault_of fault) (seen ++ 10 ∷ []) w) (append_assoc wrote s t)
          (subst (λ (o : Wanted). StopsIn o old.bus.setup (fault_of fault) (seen ++ 10 ∷ []) ((wrote ++ s) ++ t)) on.want
          (subst (λ (u : RawSetup). StopsIn (want_of mid.bus.sink) u (fault_of fault) (seen ++ 10 ∷ []) ((wrote ++ s) ++ t)) on.setup here)))

  -- what the end adds was added, and a front of all of it written
  module _ (capture : Capture S g) (more : List ℕ) (status : ℕ)
      (adds : (lines : List (List ℕ)) → TookLines took capture.bus lines → (want_of capture.bus.sink).ends capture.bus.setup lines ≡ Ok (end_with more status)) where
    whole_text : (seen wrote : List ℕ) → Stands took want_of capture seen wrote
        → wrote ++ (capture.text.items ++ more) ≡ capture_text (want_of capture.bus.sink) capture.bus.setup (ended_lines seen)
    whole_text seen wrote s =
        sym (append_assoc wrote capture.text.items more)
        ∙ (ap (λ (w : List ℕ). w ++ more) s.due
        ∙ ap (λ (r : Result End (List ℕ)). (want_of capture.bus.sink).written capture.bus.setup (ended_lines seen) ++ closing r)
        (sym (adds (ended_lines seen) s.took_lines)))

    -- all of it was written
    pub close_whole : (new : Capture S g) (text sent : List ℕ) → new.bus ≡ capture.bus → text ≡ capture.text.items ++ more → sent ≡ text
        → ClosesEnded took want_of capture new status sent
    close_whole new text sent same is whole = λ seen wrote s. (
      subst (λ (r : Result End (List ℕ)). EndsWith r status) (sym (adds (ended_lines seen) s.took_lines)) refl,
      ap (λ (t : List ℕ). wrote ++ t) (whole ∙ is) ∙ whole_text seen wrote s,
      ap (λ (b : BusState S). b.setup) same,
      subst (λ (b : BusState S). TookLines took b (ended_lines seen)) (sym same) s.took_lines,
    )

    pub close_front : (text sent : List ℕ) → text ≡ capture.text.items ++ more → IsFrontOf sent text → HaltsEnded took want_of capture Write sent
    close_front text sent is front = λ seen wrote s.
        let f = IsFrontOf-more wrote sent text front in record {
          taken = ended_lines seen;
          others = [];
          are = sym (append-nil (ended_lines seen));
          well = s.took_lines.well;
          front = inr (refl, (f.0, sym (whole_text seen wrote s) ∙ (sym (ap (λ (t : List ℕ). wrote ++ t) is) ∙ f.1)));
        }

  -- the end could not be added
  module _ (capture : Capture S g) where
    -- how the capture ends with the lines that the bus took
    abbrev pub Ends : Result End (List ℕ) → Type 0
    Ends r = (lines : List (List ℕ)) → TookLines took capture.bus lines → (want_of capture.bus.sink).ends capture.bus.setup lines ≡ r

    ended_cut : (seen wrote sent : List ℕ) → Stands took want_of capture seen wrote → IsFrontOf sent capture.text.items
        → IsCutShort (want_of capture.bus.sink) capture.bus.setup (ended_lines seen) (wrote ++ sent)
    ended_cut seen wrote sent s front =
        let f = IsFrontOf-more wrote sent capture.text.items front in
        cut_at (want_of capture.bus.sink) capture.bus.setup (ended_lines seen) [] (ended_lines seen) (wrote ++ sent)
        (sym (append-nil (ended_lines seen))) s.took_lines.well (f.0, sym s.due ∙ f.1)

    -- it ends well with them
    abbrev pub Well : Type 0
    Well = (lines : List (List ℕ)) → TookLines took capture.bus lines → IsOk ((want_of capture.bus.sink).ends capture.bus.setup lines)

    no_end_told : (r : Result End (List ℕ)) (told : List ℕ) → IsOk r → r ≡ Err told → ⊥
    no_end_told (Ok end) told well is = cc
    no_end_told (Err line) told well is = cc

    -- what is answered where nothing fails in writing
    end_stops : (fault : CaptureFault) → IsEndFault Ends Well fault → HaltsEnded took want_of capture fault capture.text.items
    end_stops Memory h = λ seen wrote s. record {
      cut = ended_cut seen wrote capture.text.items s (IsFrontOf-refl capture.text.items);
      before = λ told ends. absurd (no_end_told _ told (h (ended_lines seen) s.took_lines) ends);
    }
    end_stops (Otherwise told) h = λ seen wrote s. (
      h.0,
      h.1,
      record {
        well = s.took_lines.well;
        told = h.2 (ended_lines seen) s.took_lines;
        text = s.due;
      },
    )
    end_stops (Line n fault) h = absurd h
    end_stops Read h = absurd h
    end_stops Write h = absurd h

    -- it is no failed read or write
    pub end_own : (fault : CaptureFault) → IsEndFault Ends Well fault → (fault ≢ Read) × (fault ≢ Write)
    end_own Memory h = (λ is. cc, λ is. cc)
    end_own (Otherwise told) h = (λ is. cc, λ is. cc)
    end_own (Line n f) h = absurd h
    end_own Read h = absurd h
    end_own Write h = absurd h

    pub end_halts : (fault result : CaptureFault) (text sent : List ℕ) → text ≡ capture.text.items → IsEndFault Ends Well fault
        → Answered fault text result sent → HaltsEnded took want_of capture result sent
    end_halts fault result text sent is h (inl same) =
        subst (λ (f : CaptureFault). HaltsEnded took want_of capture f sent) (sym same.0)
        (subst (λ (t : List ℕ). HaltsEnded took want_of capture fault t) (sym (same.1 ∙ is)) (end_stops fault h))
    end_halts fault result text sent is h (inr failed) =
        subst (λ (f : CaptureFault). HaltsEnded took want_of capture f sent) (sym failed.0)
        (λ seen wrote s. ended_cut seen wrote sent s (subst (IsFrontOf sent) is failed.1))

  -- ---- a capture that is read further

  pub halts_after : (want : Wanted) (setup : RawSetup) (fault : CaptureFault) (seen wrote : List ℕ) → Halts want setup fault seen wrote
      → StopsAfter want setup fault seen wrote
  halts_after want setup (Line n fault) seen wrote h = h.stops
  halts_after want setup Memory seen wrote h = h.stops
  halts_after want setup Write seen wrote h = h.stops
  halts_after want setup (Otherwise told) seen wrote h = h.stops
  halts_after want setup Read seen wrote h = absurd (h.stops [])

  pub halts_within : (capture : Capture S g) (fault : CaptureFault) (bytes sent : List ℕ) → HaltsIn took want_of capture fault bytes sent → StopsWithin took want_of capture fault bytes sent
  halts_within capture fault bytes sent h =
      λ seen wrote s. halts_after (want_of capture.bus.sink) capture.bus.setup fault (seen ++ bytes) (wrote ++ sent) (h seen wrote s)

  -- a read failed when all that was due was written
  pub read_fails : (old new : Capture S g) (bytes sent : List ℕ) → GoesOn took want_of old new bytes sent → new.text.items ≡ [] → StopsWithin took want_of old Read bytes sent
  read_fails old new bytes sent on none = λ seen wrote s.
      let m = on.stands seen wrote s in (
        subst (λ (u : RawSetup). first_fault u (ended_lines (seen ++ bytes)) ≡ None) on.setup m.took_lines.well,
        sym (append-nil (wrote ++ sent)) ∙ (ap (λ (t : List ℕ). (wrote ++ sent) ++ t) (sym none)
            ∙ (m.due ∙ sym (same_run (ended_lines (seen ++ bytes)) on.want on.setup))),
      )

  -- the fault came later
  pub later_within : (old mid : Capture S g) (x y s t : List ℕ) (fault : CaptureFault) → GoesOn took want_of old mid x s → StopsWithin took want_of mid fault y t
      → StopsWithin took want_of old fault (x ++ y) (s ++ t)
  later_within old mid x y s t fault on h = λ seen wrote st.
      let here = h (seen ++ x) (wrote ++ s) (on.stands seen wrote st) in
      subst (λ (w : List ℕ). StopsAfter (want_of old.bus.sink) old.bus.setup fault (seen ++ (x ++ y)) w) (append_assoc wrote s t)
      (subst (λ (b : List ℕ). StopsAfter (want_of old.bus.sink) old.bus.setup fault b ((wrote ++ s) ++ t)) (append_assoc seen x y)
      (subst (λ (o : Wanted). StopsAfter o old.bus.setup fault ((seen ++ x) ++ y) ((wrote ++ s) ++ t)) on.want
      (subst (λ (u : RawSetup). StopsAfter (want_of mid.bus.sink) u fault ((seen ++ x) ++ y) ((wrote ++ s) ++ t)) on.setup here)))

  -- ---- as a run says it

  module _ (want : Wanted) (setup : RawSetup) (seen wrote : List ℕ) where
    if_left : (fault : CaptureFault) (left : Option (List ℕ)) → ((rest : List ℕ) → StopsIn want setup (fault_of fault) (seen ++ rest) wrote)
        → IfSome left (λ rest. StopsIn want setup (fault_of fault) (seen ++ rest) wrote)
    if_left fault None h = tt
    if_left fault (Some rest) h = h rest

    here_and_on : (fault : CaptureFault) (left : Option (List ℕ)) → ((rest : List ℕ) → StopsIn want setup (fault_of fault) (seen ++ rest) wrote)
        → StopsIn want setup (fault_of fault) seen wrote × IfSome left (λ rest. StopsIn want setup (fault_of fault) (seen ++ rest) wrote)
    here_and_on fault left h = (subst (λ (b : List ℕ). StopsIn want setup (fault_of fault) b wrote) (append-nil seen) (h []), if_left fault left h)

    pub stops_at : (fault : CaptureFault) (left : Option (List ℕ)) → StopsAfter want setup fault seen wrote
        → StopsAt want setup left (fault_of fault) seen wrote
    stops_at (Line n fault) left h = here_and_on (Line n fault) left h
    stops_at Memory left h = here_and_on Memory left h
    stops_at Write left h = here_and_on Write left h
    stops_at (Otherwise told) left h = here_and_on (Otherwise told) left h
    stops_at Read left h = (refl, inr h)

    at_left : (fault : CaptureFault) (left : Option (List ℕ)) → IsAtEnd left → StopsIn want setup (fault_of fault) seen wrote
        → StopsIn want setup (fault_of fault) seen wrote × IfSome left (λ rest. StopsIn want setup (fault_of fault) (seen ++ rest) wrote)
    at_left fault None end h = (h, tt)
    at_left fault (Some rest) end h = (
      h,
      subst (λ (b : List ℕ). StopsIn want setup (fault_of fault) b wrote) (sym (append-nil seen) ∙ ap (λ (r : List ℕ). seen ++ r) (sym end)) h,
    )

    pub stops_at_end : (fault : CaptureFault) (left : Option (List ℕ)) → IsAtEnd left → StopsIn want setup (fault_of fault) seen wrote
        → StopsAt want setup left (fault_of fault) seen wrote
    stops_at_end (Line n fault) left end h = at_left (Line n fault) left end h
    stops_at_end Memory left end h = at_left Memory left end h
    stops_at_end Write left end h = at_left Write left end h
    stops_at_end (Otherwise told) left end h = at_left (Otherwise told) left end h
    stops_at_end Read left end h = absurd h

  -- memory was refused before a line was taken
  pub refused_at : (want : Wanted) (setup : RawSetup) (seen : List ℕ) (left : Option (List ℕ)) → StopsAt want setup left (fault_of Memory) seen []
  unfolding cut_at
  refused_at want setup seen left = stops_at want setup seen [] Memory left
      (λ rest. record {
        cut = cut_at want setup [] (bus_lines (seen ++ rest)) (bus_lines (seen ++ rest)) [] refl refl (want.written setup [], refl);
        before = λ told ends. inr refl;
      })

  -- ---- the lines of a piece

  -- the lines in front of the rest of a piece were taken
  pub record SoFar (old new : Capture S g) (out out' : Option (List ℕ)) (piece rest : List ℕ) : Type 0 where
    pub gone : List ℕ
    pub is : piece ≡ gone ++ rest
    pub sent : List ℕ
    pub sends : Appends out out' sent
    pub on : GoesOn took want_of old new gone sent
    pub lines : new.lines ≤ old.lines + length gone

  -- at its begin nothing of the piece was taken
  pub begun_so_far : (old : Capture S g) (out : Option (List ℕ)) (piece : List ℕ) → SoFar old old out out piece piece
  begun_so_far old out piece = record {
    gone = [];
    is = refl;
    sent = [];
    sends = Appends-nil out;
    on = record {
      setup = refl;
      want = refl;
      stands = λ seen wrote s.
          subst (λ (w : List ℕ). Stands took want_of old (seen ++ []) w) (sym (append-nil wrote))
          (subst (λ (b : List ℕ). Stands took want_of old b wrote) (sym (append-nil seen)) s);
    };
    lines = omega arith;
  }

  Halts-more : (want : Wanted) (setup : RawSetup) (fault : CaptureFault) (seen bytes tail wrote : List ℕ) → Halts want setup fault (seen ++ bytes) wrote
      → Halts want setup fault (seen ++ (bytes ++ tail)) wrote
  Halts-more want setup fault seen bytes tail wrote h =
      let same : (rest : List ℕ) → (seen ++ bytes) ++ (tail ++ rest) ≡ (seen ++ (bytes ++ tail)) ++ rest =
      λ rest. sym (append_assoc (seen ++ bytes) tail rest) ∙ ap (λ (b : List ℕ). b ++ rest) (append_assoc seen bytes tail) in
      record {
        stops = λ rest. subst (λ (b : List ℕ). StopsIn want setup (fault_of fault) b wrote) (same rest) (h.stops (tail ++ rest));
        cut = λ rest. subst (λ (b : List ℕ). IsCutShort want setup (bus_lines b) wrote) (same rest) (h.cut (tail ++ rest));
      }

  module _ (old mid : Capture S g) (a b c : Option (List ℕ)) (piece rest : List ℕ) (so_far : SoFar old mid a b piece rest) where
    -- a line more was taken
    pub one_line_more : (new : Capture S g) (line after : List ℕ) → rest ≡ line ++ 10 ∷ after → Sends b c (GoesOn took want_of mid new (line ++ 10 ∷ []))
        → new.lines ≡ mid.lines + 1
        → SoFar old new a c piece after
    one_line_more new line after is sends count =
        let size : length (so_far.gone ++ (line ++ 10 ∷ [])) ≡ length so_far.gone + (length line + 1) =
        length-append so_far.gone (line ++ 10 ∷ []) ∙ ap (λ n. length so_far.gone + n) (length-append line (10 ∷ [])) in
        record {
          gone = so_far.gone ++ (line ++ 10 ∷ []);
          is =
              so_far.is
              ∙ (ap (λ (r : List ℕ). so_far.gone ++ r) (is ∙ sym (append_assoc line (10 ∷ []) after))
              ∙ sym (append_assoc so_far.gone (line ++ 10 ∷ []) after));
          sent = so_far.sent ++ sends.0;
          sends = Appends-trans a b c so_far.sent sends.0 so_far.sends sends.1;
          on = GoesOn-trans old mid new so_far.gone (line ++ 10 ∷ []) so_far.sent sends.0 so_far.on sends.2;
          lines = omega (arith, size, count, so_far.lines);
        }

    -- the fault came with what follows
    pub so_far_halts : (fault : CaptureFault) (bytes tail : List ℕ) → rest ≡ bytes ++ tail → Sends b c (HaltsIn took want_of mid fault bytes)
        → Sends a c (HaltsIn took want_of old fault piece)
    so_far_halts fault bytes tail is sends = (
      so_far.sent ++ sends.0,
      Appends-trans a b c so_far.sent sends.0 so_far.sends sends.1,
      λ seen wrote s.
          let whole : (so_far.gone ++ bytes) ++ tail ≡ piece =
          append_assoc so_far.gone bytes tail ∙ (ap (λ (r : List ℕ). so_far.gone ++ r) (sym is) ∙ sym so_far.is) in
          let h = later_halts old mid so_far.gone bytes so_far.sent sends.0 fault so_far.on sends.2 seen wrote s in
          subst (λ (p : List ℕ). Halts (want_of old.bus.sink) old.bus.setup fault (seen ++ p) (wrote ++ (so_far.sent ++ sends.0))) whole
          (Halts-more (want_of old.bus.sink) old.bus.setup fault seen (so_far.gone ++ bytes) tail (wrote ++ (so_far.sent ++ sends.0)) h),
    )

    -- the rest was taken
    pub so_far_done : (new : Capture S g) → Sends b c (GoesOn took want_of mid new rest) → Sends a c (GoesOn took want_of old new piece)
    so_far_done new sends = (
      so_far.sent ++ sends.0,
      Appends-trans a b c so_far.sent sends.0 so_far.sends sends.1,
      subst (λ (p : List ℕ). GoesOn took want_of old new p (so_far.sent ++ sends.0)) (sym so_far.is)
          (GoesOn-trans old mid new so_far.gone rest so_far.sent sends.0 so_far.on sends.2),
    )

  -- what the bus makes of a line that it refuses
  pub give_halts : (capture : Capture S g) (bytes line text : List ℕ) (fault : BusFault) → HasNoFeed bytes → line ≡ capture.kept.items ++ bytes
      → text ≡ capture.text.items
      → (fault ≢ bus.Memory → (lines : List (List ℕ)) → TookLines took capture.bus lines → line_fault capture.bus.setup lines line ≡ Some fault)
      → HaltsIn took want_of capture (fault_at (capture.lines + 1) fault) (bytes ++ 10 ∷ []) text
  give_halts capture bytes line text fault none is same refused =
      subst (λ (t : List ℕ). HaltsIn took want_of capture (fault_at (capture.lines + 1) fault) (bytes ++ 10 ∷ []) t) (sym same) (of fault refused)
    where
      of : (f : BusFault) → (f ≢ bus.Memory → (lines : List (List ℕ)) → TookLines took capture.bus lines → line_fault capture.bus.setup lines line ≡ Some f)
          → HaltsIn took want_of capture (fault_at (capture.lines + 1) f) (bytes ++ 10 ∷ []) capture.text.items
      of bus.Memory refused = memory_halts_line capture bytes none
      of (bus.Line f) refused = line_halts capture bytes line (bus.Line f) none is (refused (λ e. cc e))
      of bus.Late refused = line_halts capture bytes line bus.Late none is (refused (λ e. cc e))

  -- what becomes of bytes that are not kept
  pub keep_halts : (capture : Capture S g) (bytes tail : List ℕ) (fault : BusFault) → HasNoFeed bytes → 0 < length bytes
      → (fault ≡ bus.Memory) ⊎ ((fault ≡ bus.Line BadLine) × (4096 < length capture.kept.items + length bytes))
      → HaltsIn took want_of capture (fault_at (capture.lines + 1) fault) (bytes ++ tail) capture.text.items
  keep_halts capture bytes tail fault none some (inl memory) =
      subst (λ (f : BusFault). HaltsIn took want_of capture (fault_at (capture.lines + 1) f) (bytes ++ tail) capture.text.items) (sym memory) (memory_halts capture bytes tail none some)
  keep_halts capture bytes tail fault none some (inr long) =
      subst (λ (f : BusFault). HaltsIn took want_of capture (fault_at (capture.lines + 1) f) (bytes ++ tail) capture.text.items) (sym long.0)
      (long_halts capture bytes tail none long.1)

  -- ---- a line that is seen to be at fault

  -- the bus looked at it first
  pub sees_refused : {X : Type 0} (capture : Capture S g) (line : List ℕ) (gave result : Result X BusFault) → gave ≡ result → capture.kept.items ≡ []
      → IsRefused took capture.bus line gave → SeesFault took capture line (λ fault. result ≡ Err fault)
  sees_refused {X} capture line gave result same none refused = λ lines taken.
      let here : IfSome (line_fault capture.bus.setup lines line) (λ fault. result ≡ Err fault) =
      subst (λ (r : Result X BusFault). IfSome (line_fault capture.bus.setup lines line) (λ fault. r ≡ Err fault)) same (refused lines taken) in (
        λ _. here,
        λ long.
            let whole : 4096 < length line = omega (arith, long, ap length none) in
            subst (λ (o : Option BusFault). IfSome o (λ fault. result ≡ Err fault)) (long_is_bad capture.bus.setup lines line whole) here,
      )

  -- where a part of it was kept, only how long it is is seen
  pub sees_long : {X : Type 0} (capture : Capture S g) (bytes : List ℕ) (result : Result X BusFault) → 0 < length capture.kept.items
      → (4096 < length capture.kept.items + length bytes → result ≡ Err (bus.Line BadLine)) → SeesFault took capture bytes (λ fault. result ≡ Err fault)
  sees_long {X} capture bytes result some long = λ lines taken. (λ none. absurd (let count = ap length none in omega (arith, count, some)), long)

  -- the bytes were added to it, so it is not too long
  pub sees_kept : {X : Type 0} (capture : Capture S g) (bytes : List ℕ) (kept result : Result X BusFault) (x : X) → 0 < length capture.kept.items
      → (4096 < length capture.kept.items + length bytes → kept ≡ Err (bus.Line BadLine)) → kept ≡ Ok x → SeesFault took capture bytes (λ fault. result ≡ Err fault)
  sees_kept {X} capture bytes kept result x some long ok = sees_long capture bytes result some (λ more. absurd (ok_is_no_fault kept x (bus.Line BadLine) ok (long more)))

  pub sees_more : (capture : Capture S g) (bytes : List ℕ) (P Q : BusFault → Type 0) → ((fault : BusFault) → P fault → Q fault)
      → SeesFault took capture bytes P → SeesFault took capture bytes Q
  sees_more capture bytes P Q on sees = λ lines taken.
      let here = sees lines taken in (
        λ none. weaker (line_fault capture.bus.setup lines bytes) (here.0 none),
        λ long. on (bus.Line BadLine) (here.1 long),
      )
    where
      weaker : (o : Option BusFault) → IfSome o P → IfSome o Q
      weaker None h = tt
      weaker (Some fault) h = on fault h

-- the fault of a line is no failed read or write
pub fault_at_own : (n : ℕ) (fault : BusFault) → (fault_at n fault ≢ Read) × (fault_at n fault ≢ Write)
fault_at_own n bus.Memory = (λ is. cc, λ is. cc)
fault_at_own n (bus.Line f) = (λ is. cc, λ is. cc)
fault_at_own n bus.Late = (λ is. cc, λ is. cc)

-- ---- what the writer is seen to have done

-- the fault of a line is told, unless the writing before it failed
pub told_stop : {X : Type 0} (n : ℕ) (fault told : BusFault) (at result : CaptureFault) (text sent : List ℕ) → at ≡ fault_at n fault
    → ((result ≡ at) × (sent ≡ text)) ⊎ ((result ≡ Write) × IsFrontOf sent text) → fault ≡ told → IsTold {X = X} n (Err result) told
told_stop {X} n fault told at result text sent is (inl same) own =
    inl (ap (λ (f : CaptureFault). (let r : Result X CaptureFault = Err f in r)) (same.0 ∙ is ∙ ap (fault_at n) own))
told_stop {X} n fault told at result text sent is (inr failed) own = inr (ap (λ (f : CaptureFault). (let r : Result X CaptureFault = Err f in r)) failed.0)

pub at_own : (n : ℕ) (fault : BusFault) (at : CaptureFault) → at ≡ fault_at n fault → (at ≢ Read) × (at ≢ Write)
at_own n fault at is = subst (λ (f : CaptureFault). (f ≢ Read) × (f ≢ Write)) (sym is) (fault_at_own n fault)

module _ {W X : Type 0} (failed sound : W → Type 0) (old new : W) where
  -- a fault was answered behind a writing, or that of the writing
  pub writings_stop : (fault result : CaptureFault) (text sent : List ℕ) → (fault ≢ Read) × (fault ≢ Write)
      → ((result ≡ fault) × (sent ≡ text)) ⊎ ((result ≡ Write) × IsFrontOf sent text)
      → (result ≡ Write → fault ≢ Write → failed new) → (result ≢ Write → sound old → sound new)
      → IsWritings {W = W} {X = X} failed sound old new (Err result)
  writings_stop fault result text sent own how fails stays = (
    λ is. fails (err_same {X = X} {E = CaptureFault} result Write is) own.1,
    λ other. stays (λ is. other (ap (λ (f : CaptureFault). (let r : Result X CaptureFault = Err f in r)) is)),
    λ is. read how (err_same {X = X} {E = CaptureFault} result Read is),
  )
    where
      read : ((result ≡ fault) × (sent ≡ text)) ⊎ ((result ≡ Write) × IsFrontOf sent text) → result ≡ Read → ⊥
      read (inl same) is = own.0 (sym same.0 ∙ is)
      read (inr same) is = let clash : Write ≡ Read = sym same.0 ∙ is in cc

  pub writings_failed : (fault : CaptureFault) → fault ≡ Write → failed new → IsWritings {W = W} {X = X} failed sound old new (Err fault)
  writings_failed fault is fails = (
    λ _. fails,
    λ other. absurd (other (ap (λ (f : CaptureFault). (let r : Result X CaptureFault = Err f in r)) is)),
    λ read. let clash : Write ≡ Read = sym is ∙ err_same {X = X} {E = CaptureFault} fault Read read in cc,
  )

  pub writings_ok : (x : X) → (sound old → sound new) → IsWritings {W = W} {X = X} failed sound old new (Ok x)
  writings_ok x stays = (λ is. cc, λ _. stays, λ is. cc)

-- what was to be written was written, or it failed
pub writings_out : {W X : Type 0} (failed sound : W → Type 0) (old new : W) (result : Result X CaptureFault) → OnOk result (sound old → sound new)
    → OnErr result (failed new) → IfErr result (λ fault. fault ≡ Write) → IsWritings failed sound old new result
writings_out failed sound old new (Ok x) stays fails is = writings_ok failed sound old new x stays
writings_out failed sound old new (Err fault) stays fails is = writings_failed failed sound old new fault is fails

-- a fault that is passed on
pub writings_passed : {W X Y : Type 0} (failed sound : W → Type 0) (old new : W) (told : Result X CaptureFault) (fault : CaptureFault) → told ≡ Err fault
    → IsWritings failed sound old new told → IsWritings {W = W} {X = Y} failed sound old new (Err fault)
writings_passed {W} {X} {Y} failed sound old new told fault was writings = (
  λ is. writings.0 (was ∙ ap (λ (f : CaptureFault). (let r : Result X CaptureFault = Err f in r)) (err_same {X = Y} {E = CaptureFault} fault Write is)),
  λ other. writings.1 (λ is. other (ap (λ (f : CaptureFault). (let r : Result Y CaptureFault = Err f in r)) (err_same {X = X} {E = CaptureFault} fault Write (sym was ∙ is)))),
  λ is. writings.2 (was ∙ ap (λ (f : CaptureFault). (let r : Result X CaptureFault = Err f in r)) (err_same {X = Y} {E = CaptureFault} fault Read is)),
)

-- what was written before stayed sound
pub writings_behind : {W X : Type 0} (failed sound : W → Type 0) (old mid new : W) (result : Result X CaptureFault) → (sound old → sound mid)
    → IsWritings failed sound mid new result → IsWritings failed sound old new result
writings_behind {W} {X} failed sound old mid new result before writings =
    (writings.0, λ other was. writings.1 other (before was), writings.2)
