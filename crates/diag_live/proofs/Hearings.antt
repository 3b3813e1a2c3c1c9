-- How the lines that are heard go, piece by piece.
use Rattle.diag_can.specs.declared.frame.KnownId.{KnownId}
use Rattle.std.proofs.Common.{◌≡◌, ℕ, ◌+◌, ◌<◌, nat_lt, true, List, [], ◌∷◌, ◌++◌, length, map, Result, Ok, Err, refl, sym, ap, subst, ◌∙◌, append_assoc, length-append, arith}
use Rattle.std.proofs.lemmas.List.{append-nil, map-append}
use Rattle.std.proofs.lemmas.Bool.Decides.{nat_tests}
use Rattle.diag_can.specs.BusLine.{HasNoFeed, begun_line, bus_line, bus_lines, ended_lines}
use Rattle.diag_can.specs.declared.bus_line.BusLine.{BusLine}
use Rattle.diag_can.specs.declared.fault.LineFault.{LineFault}
use Rattle.diag_can.specs.declared.fault.LineFault.TheVariants.{BadLine}
use Rattle.diag_can.proofs.BusLines.{begun_line-begun, begun_line-line, bus_lines-begin, bus_lines-first, bus_lines-more, ended_lines-begun, ended_lines-line, no_feed_in_begun}
use Rattle.diag_port.specs.Port.{Grew}
use Rattle.diag_live.specs.Live.{AreGood, Heard, Taken, capture_of, record_text, restamped, with_feed}
use Rattle.diag_live.specs.Hearing.{EndsBefore, HasHeard, HeardLines, IsNextBad, IsLineTooLong, Refuses, SeesBad}
use Rattle.diag_live.specs.declared.hearing.HearFault.{HearFault}
use Rattle.diag_live.specs.declared.hearing.HearFault.TheVariants.{Line, Memory}
use Rattle.diag_live.specs.declared.hearing.Hearing.{Hearing}
use Rattle.diag_live.proofs.Records.{capture_of-append, good_join, record_text-append}

pub heard_text : (a b : List (List ℕ)) → record_text (capture_of (map Heard (a ++ b)))
    ≡ record_text (capture_of (map Heard a)) ++ record_text (capture_of (map Heard b))
heard_text a b =
    ap (λ (t : List Taken). record_text (capture_of t)) (map-append Heard a b)
    ∙ (ap record_text (capture_of-append (map Heard a) (map Heard b)) ∙ record_text-append (capture_of (map Heard a)) (capture_of (map Heard b)))

-- these identifiers are read that are passed over otherwise
module _ (known : List KnownId) where
  heard_good : (a b : List (List ℕ)) → AreGood known (map Heard a) → AreGood known (map Heard b) → AreGood known (map Heard (a ++ b))
  heard_good a b x y = subst (AreGood known) (sym (map-append Heard a b)) (good_join known (map Heard a) (map Heard b) x y)

  -- ---- lines go on

  pub HeardLines-trans : (a b c : Hearing) (x y m n : List ℕ) → HeardLines known a b x m → HeardLines known b c y n → HeardLines known a c (x ++ y) (m ++ n)
  HeardLines-trans a b c x y m n first second seen f =
      let one = first seen f in
      let two = second (seen ++ x) one.follows in
      let same : (seen ++ x) ++ y ≡ seen ++ (x ++ y) = append_assoc seen x y in
      record {
        lines = one.lines ++ two.lines;
        ended =
            ap ended_lines (sym same)
            ∙ (two.ended ∙ (ap (λ (l : List (List ℕ)). l ++ two.lines) one.ended ∙ append_assoc (ended_lines seen) one.lines two.lines));
        good = heard_good one.lines two.lines one.good two.good;
        text =
            ap (λ (t : List ℕ). t ++ n) one.text
            ∙ (ap (λ (t : List ℕ). record_text (capture_of (map Heard one.lines)) ++ t) two.text ∙ sym (heard_text one.lines two.lines));
        follows = subst (HasHeard c) same two.follows;
      }

  -- bytes of a line that is begun were kept
  pub begun_hears : (old new : Hearing) (bytes : List ℕ) → HasNoFeed bytes → new.kept.items ≡ old.kept.items ++ bytes → new.lines ≡ old.lines
      → HeardLines known old new bytes []
  begun_hears old new bytes none kept count seen f =
      let ended = ended_lines-begun seen bytes none in
      record {
        lines = [];
        ended = ended ∙ sym (append-nil (ended_lines seen));
        good = tt;
        text = refl;
        follows = record {
          kept = kept ∙ (ap (λ (k : List ℕ). k ++ bytes) f.kept ∙ sym (begun_line-begun seen bytes none));
          count = count ∙ (f.count ∙ ap length (sym ended));
        };
      }

  grown_plain : (seen bytes : List ℕ) → HasNoFeed bytes → HasNoFeed (begun_line seen ++ bytes)
  grown_plain seen bytes none = subst HasNoFeed (begun_line-begun seen bytes none) (no_feed_in_begun (seen ++ bytes))

  module _ (old : Hearing) (bytes line : List ℕ) (none : HasNoFeed bytes) (is : line ≡ old.kept.items ++ bytes) where
    whole_line : (seen : List ℕ) → HasHeard old seen → line ≡ begun_line seen ++ bytes
    whole_line seen f = is ∙ ap (λ (k : List ℕ). k ++ bytes) f.kept

    -- a line that says something was ended
    pub line_hears : (new : Hearing) (said : BusLine) → bus_line known line ≡ Ok said → new.kept.items ≡ [] → new.lines ≡ old.lines + 1
        → HeardLines known old new (bytes ++ 10 ∷ []) (with_feed (restamped line))
    line_hears new said says emptied count seen f =
        let same = whole_line seen f in
        let ended : ended_lines (seen ++ (bytes ++ 10 ∷ [])) ≡ ended_lines seen ++ line ∷ [] =
        ended_lines-line seen bytes none ∙ ap (λ (l : List ℕ). ended_lines seen ++ l ∷ []) (sym same) in
        record {
          lines = line ∷ [];
          ended = ended;
          good = ((subst HasNoFeed (sym same) (grown_plain seen bytes none), (said, says)), tt);
          text = sym (append-nil (with_feed (restamped line)));
          follows = record {
            kept = emptied ∙ sym (begun_line-line seen bytes none);
            count = count ∙ (ap (λ n. n + 1) f.count ∙ (sym (length-append (ended_lines seen) (line ∷ [])) ∙ ap length (sym ended)));
          };
        }

    -- a line at fault was ended
    pub line_refused : (n : ℕ) (fault : LineFault) (seen : List ℕ) → n ≡ old.lines + 1 → bus_line known line ≡ Err fault → HasHeard old seen
        → EndsBefore known n fault seen (bytes ++ 10 ∷ []) []
    line_refused n fault seen number says f =
        let same = whole_line seen f in
        let text : (rest : List ℕ) → begun_line seen ++ ((bytes ++ 10 ∷ []) ++ rest) ≡ (begun_line seen ++ bytes) ++ 10 ∷ rest =
        λ rest. ap (λ (t : List ℕ). begun_line seen ++ t) (append_assoc bytes (10 ∷ []) rest) ∙ sym (append_assoc (begun_line seen) bytes (10 ∷ rest)) in
        record {
          lines = [];
          good = tt;
          text = refl;
          next = λ rest. record {
            bad = line;
            others = bus_lines rest;
            are =
                ap bus_lines (append_assoc seen (bytes ++ 10 ∷ []) rest)
                ∙ (bus_lines-more seen ((bytes ++ 10 ∷ []) ++ rest)
                ∙ (ap (λ (l : List (List ℕ)). ended_lines seen ++ l)
                (ap bus_lines (text rest) ∙ (bus_lines-first (begun_line seen ++ bytes) rest (grown_plain seen bytes none)
                ∙ ap (λ (l : List ℕ). l ∷ bus_lines rest) (sym same)))
                ∙ ap (λ (l : List (List ℕ)). l ++ line ∷ bus_lines rest) (sym (append-nil (ended_lines seen)))));
            number = number ∙ (ap (λ k. k + 1) f.count ∙ ap (λ (l : List (List ℕ)). length l + 1) (sym (append-nil (ended_lines seen))));
            says = says;
          };
        }

  -- a line of more than 4096 bytes is a bad line
  long_is_bad : (line : List ℕ) → 4096 < length line → bus_line known line ≡ Err BadLine
  long_is_bad line long = let test : nat_lt 4096 (length line) ≡ true = grind (arith, nat_tests) in rw test refl

  -- the line that was begun is too long, whatever follows
  long_refused : (old : Hearing) (bytes tail : List ℕ) (n : ℕ) (seen : List ℕ) → HasNoFeed bytes → 4096 < length old.kept.items + length bytes
      → n ≡ old.lines + 1 → HasHeard old seen
      → EndsBefore known n BadLine seen (bytes ++ tail) []
  long_refused old bytes tail n seen none long number f =
      let line = begun_line seen ++ bytes in
      let count : length old.kept.items ≡ length (begun_line seen) = ap length f.kept in
      let size : 4096 < length line = omega (arith, count, long, length-append (begun_line seen) bytes) in
      let text : (rest : List ℕ) → begun_line seen ++ ((bytes ++ tail) ++ rest) ≡ line ++ (tail ++ rest) =
      λ rest. ap (λ (t : List ℕ). begun_line seen ++ t) (append_assoc bytes tail rest) ∙ sym (append_assoc (begun_line seen) bytes (tail ++ rest)) in
      record {
        lines = [];
        good = tt;
        text = refl;
        next = λ rest.
            let first = bus_lines-begin line (tail ++ rest) (grown_plain seen bytes none) (omega (arith, size)) in
            record {
              bad = line ++ first.more;
              others = first.others;
              are =
                  ap bus_lines (append_assoc seen (bytes ++ tail) rest)
                  ∙ (bus_lines-more seen ((bytes ++ tail) ++ rest)
                  ∙ (ap (λ (l : List (List ℕ)). ended_lines seen ++ l) (ap bus_lines (text rest) ∙ first.are)
                  ∙ ap (λ (l : List (List ℕ)). l ++ (line ++ first.more) ∷ first.others) (sym (append-nil (ended_lines seen)))));
              number = number ∙ (ap (λ k. k + 1) f.count ∙ ap (λ (l : List (List ℕ)). length l + 1) (sym (append-nil (ended_lines seen))));
              says = long_is_bad (line ++ first.more) (omega (arith, size, length-append line first.more));
            };
      }

  grew_none : (text : List ℕ) (P : List ℕ → Type 0) → P [] → Grew text text P
  grew_none text P p = record { more = []; grown = sym (append-nil text); holds = p }

  pub keep_refuses : (old : Hearing) (bytes tail text : List ℕ) (fault : HearFault) → HasNoFeed bytes → IsLineTooLong old bytes fault
      → Refuses known old (bytes ++ tail) text text fault
  keep_refuses old bytes tail text Memory none long = tt
  keep_refuses old bytes tail text (Line n fault) none long =
      grew_none text _ (λ seen f. subst (λ (x : LineFault). EndsBefore known n x seen (bytes ++ tail) []) (sym long.1)
      (long_refused old bytes tail n seen none long.2 long.0 f))

  pub line_refuses : (old : Hearing) (bytes line text : List ℕ) (n : ℕ) (fault : LineFault) → HasNoFeed bytes → line ≡ old.kept.items ++ bytes
      → n ≡ old.lines + 1 → bus_line known line ≡ Err fault
      → Refuses known old (bytes ++ 10 ∷ []) text text (Line n fault)
  line_refuses old bytes line text n fault none is number says = grew_none text _ (λ seen f. line_refused old bytes line none is n fault seen number says f)

  -- ---- a fault behind lines

  before_more : (n : ℕ) (fault : LineFault) (seen bytes tail more : List ℕ) → EndsBefore known n fault seen bytes more → EndsBefore known n fault seen (bytes ++ tail) more
  before_more n fault seen bytes tail more e = record {
    lines = e.lines;
    good = e.good;
    text = e.text;
    next = λ rest.
        subst (IsNextBad known n fault (ended_lines seen ++ e.lines))
        (sym (append_assoc (seen ++ bytes) tail rest) ∙ ap (λ (b : List ℕ). b ++ rest) (append_assoc seen bytes tail))
        (e.next (tail ++ rest));
  }

  pub refuses_more : (old : Hearing) (bytes tail text text' : List ℕ) (fault : HearFault) → Refuses known old bytes text text' fault
      → Refuses known old (bytes ++ tail) text text' fault
  refuses_more old bytes tail text text' Memory r = tt
  refuses_more old bytes tail text text' (Line n fault) r =
      record { more = r.more; grown = r.grown; holds = λ seen f. before_more n fault seen bytes tail r.more (r.holds seen f) }

  -- behind a text there is more, and then the fault
  pub later_refuses : (old mid : Hearing) (x y text text' text'' : List ℕ) (fault : HearFault) → Grew text text' (HeardLines known old mid x)
      → Refuses known mid y text' text'' fault
      → Refuses known old (x ++ y) text text'' fault
  later_refuses old mid x y text text' text'' Memory on r = tt
  later_refuses old mid x y text text' text'' (Line n fault) on r = record {
    more = on.more ++ r.more;
    grown = r.grown ∙ (ap (λ (t : List ℕ). t ++ r.more) on.grown ∙ append_assoc text on.more r.more);
    holds = λ seen f.
        let one = on.holds seen f in
        let two = r.holds (seen ++ x) one.follows in
        let same : (seen ++ x) ++ y ≡ seen ++ (x ++ y) = append_assoc seen x y in
        record {
          lines = one.lines ++ two.lines;
          good = heard_good one.lines two.lines one.good two.good;
          text =
              ap (λ (t : List ℕ). t ++ r.more) one.text
              ∙ (ap (λ (t : List ℕ). record_text (capture_of (map Heard one.lines)) ++ t) two.text ∙ sym (heard_text one.lines two.lines));
          next = λ rest.
              subst (λ (l : List (List ℕ)). IsNextBad known n fault l ((seen ++ (x ++ y)) ++ rest))
              (ap (λ (l : List (List ℕ)). l ++ two.lines) one.ended ∙ append_assoc (ended_lines seen) one.lines two.lines)
              (subst (λ (b : List ℕ). IsNextBad known n fault (ended_lines (seen ++ x) ++ two.lines) (b ++ rest)) same (two.next rest));
        };
  }

  pub Grew-hears : (a b c : Hearing) (x y text text' text'' : List ℕ) → Grew text text' (HeardLines known a b x) → Grew text' text'' (HeardLines known b c y)
      → Grew text text'' (HeardLines known a c (x ++ y))
  Grew-hears a b c x y text text' text'' one two = record {
    more = one.more ++ two.more;
    grown = two.grown ∙ (ap (λ (t : List ℕ). t ++ two.more) one.grown ∙ append_assoc text one.more two.more);
    holds = HeardLines-trans a b c x y one.more two.more one.holds two.holds;
  }

  -- the lines in front of the rest of a piece were heard
  pub record HeardSoFar (old new : Hearing) (text text' piece rest : List ℕ) : Type 0 where
    pub gone : List ℕ
    pub is : piece ≡ gone ++ rest
    pub on : Grew text text' (HeardLines known old new gone)

  module _ (old mid : Hearing) (text text' piece rest : List ℕ) (so_far : HeardSoFar old mid text text' piece rest) where
    pub line_more : (new : Hearing) (text'' line after : List ℕ) → rest ≡ line ++ 10 ∷ after → Grew text' text'' (HeardLines known mid new (line ++ 10 ∷ []))
        → HeardSoFar old new text text'' piece after
    line_more new text'' line after is grew = record {
      gone = so_far.gone ++ (line ++ 10 ∷ []);
      is =
          so_far.is
          ∙ (ap (λ (r : List ℕ). so_far.gone ++ r) (is ∙ sym (append_assoc line (10 ∷ []) after))
          ∙ sym (append_assoc so_far.gone (line ++ 10 ∷ []) after));
      on = Grew-hears old mid new so_far.gone (line ++ 10 ∷ []) text text' text'' so_far.on grew;
    }

    pub so_far_refuses : (bytes tail text'' : List ℕ) (fault : HearFault) → rest ≡ bytes ++ tail → Refuses known mid bytes text' text'' fault
        → Refuses known old piece text text'' fault
    so_far_refuses bytes tail text'' fault is r =
        let whole : (so_far.gone ++ bytes) ++ tail ≡ piece =
        append_assoc so_far.gone bytes tail ∙ (ap (λ (r : List ℕ). so_far.gone ++ r) (sym is) ∙ sym so_far.is) in
        subst (λ (p : List ℕ). Refuses known old p text text'' fault) whole
        (refuses_more old (so_far.gone ++ bytes) tail text text'' fault (later_refuses old mid so_far.gone bytes text text' text'' fault so_far.on r))

    pub so_far_hears : (new : Hearing) → HasNoFeed rest → new.kept.items ≡ mid.kept.items ++ rest → new.lines ≡ mid.lines
        → Grew text text' (HeardLines known old new piece)
    so_far_hears new none kept count =
        subst (λ (p : List ℕ). Grew text text' (HeardLines known old new p)) (sym so_far.is)
        (Grew-hears old mid new so_far.gone rest text text' text' so_far.on (grew_none text' _ (begun_hears mid new rest none kept count)))

  -- ---- a line that is seen to be at fault

  clash_ok : {X : Type 0} (said : BusLine) (fault : LineFault) (bytes : List ℕ) → bus_line known bytes ≡ Ok said → bus_line known bytes ≡ Err fault → X
  clash_ok said fault bytes ok bad = absurd (let e : (let r : Result BusLine LineFault = Ok said in r) ≡ Err fault = sym ok ∙ bad in cc)

  -- it is told
  pub sees_told : {X : Type 0} (old : Hearing) (bytes : List ℕ) (n : ℕ) (fault : LineFault) → n ≡ old.lines + 1 → bus_line known bytes ≡ Err fault → old.kept.items ≡ []
      → SeesBad {X = X} known old bytes (Err (Line n fault))
  sees_told {X = X} old bytes n fault number says none = λ room. (
    λ other _ bad. told other (sym says ∙ bad),
    λ long.
        let whole : 4096 < length bytes = omega (arith, long, ap length none) in
        told BadLine (sym says ∙ long_is_bad bytes whole),
  )
    where
      told : (other : LineFault) → (let r : Result BusLine LineFault = Err fault in r) ≡ Err other
          → (let r : Result X HearFault = Err (Line n fault) in r) ≡ Err (Line (old.lines + 1) other)
      told other same =
          let is : fault ≡ other = cc in
          ap (λ (f : LineFault). (let r : Result X HearFault = Err (Line n f) in r)) is
          ∙ ap (λ (k : ℕ). (let r : Result X HearFault = Err (Line k other) in r)) number

  -- it is none
  pub sees_none : {X : Type 0} (old : Hearing) (bytes : List ℕ) (said : BusLine) (result : Result X HearFault) → bus_line known bytes ≡ Ok said → old.kept.items ≡ []
      → SeesBad {X = X} known old bytes result
  sees_none {X = X} old bytes said result says none = λ room. (
    λ fault _ bad. clash_ok said fault bytes says bad,
    λ long.
        let whole : 4096 < length bytes = omega (arith, long, ap length none) in
        clash_ok said BadLine bytes says (long_is_bad bytes whole),
  )
