-- A log that comes in pieces: what one line more makes of it, and where a line is at fault.
use Rattle.std.proofs.Common.{◌≡◌, ℕ, false, arith, length, List, [], ◌∷◌, ◌++◌, Option, Some, None, Err, refl, sym, ap, subst, ◌∙◌, append_assoc, append-nil}
use Rattle.std.proofs.lemmas.List.Elements.{All-nil}
use Rattle.diag_can.specs.BusLine.{HasNoFeed, IsFirstLine, begun_line}
use Rattle.diag_can.specs.Growing.{GivesMore, HasEvent}
use Rattle.diag_can.specs.HasRead.{AreRead, HasLines, HasRead}
use Rattle.diag_can.specs.Log.{is_feed, lines_of, fault_after, events, without_return}
use Rattle.diag_can.specs.Pieces.{TakesLines}
use Rattle.diag_can.specs.declared.bus_line.BusLine.{BusLine}
use Rattle.diag_can.specs.declared.frame.KnownId.{KnownId}
use Rattle.diag_can.specs.declared.fault.LogFault.{LogFault}
use Rattle.diag_can.specs.declared.fault.LogFault.TheVariants.{Memory}
use Rattle.diag_can.specs.declared.frame.Ids.{Ids}
use Rattle.diag_can.specs.declared.log.Timing.{Timing}
use Rattle.diag_can.specs.declared.log_reader.LogReader.{LogReader}
use Rattle.diag_can.proofs.Lines.{lines_of-first}
use Rattle.diag_can.proofs.Reading.{fault_next, more_next, one_more}

-- nothing was read
pub nothing_read : (ids : Ids) (timing : Timing) (r : LogReader) → r.fault ≡ None → r.lines ≡ 0 → r.reading.events.items ≡ [] → r.reading.reference ≡ None
    → HasRead ids timing r []
unfolding begun_line
nothing_read ids timing r well none empty timeless = record {
  well = λ _. record {
    whole = refl;
    read = record { well = refl; count = none; events_are = empty; reference_is = λ _. timeless; few = omega (arith, ap length empty) };
  };
  fault = λ fault some. cc (sym well ∙ some);
  told = λ some. cc (sym well ∙ some);
}

-- a front of the text was read
pub record FrontRead (ids : Ids) (timing : Timing) (old new : LogReader) (text rest : List ℕ) : Type 0 where
  pub front : List ℕ
  pub is : text ≡ front ++ rest
  pub takes : (seen : List ℕ) → HasLines ids timing old seen → HasLines ids timing new (seen ++ front)

pub none_read : (ids : Ids) (timing : Timing) (r : LogReader) (text : List ℕ) → FrontRead ids timing r r text text
none_read ids timing r text = record {
  front = [];
  is = refl;
  takes = λ seen h. subst (HasLines ids timing r) (sym (append-nil seen)) h;
}

module _ {ids : Ids} {timing : Timing} {old mid : LogReader} {text rest : List ℕ} (f : FrontRead ids timing old mid text rest) where
  -- a line more, which a line feed ends
  pub line_more : (line after : List ℕ) {known : List KnownId} {said : Option BusLine} (l : IsFirstLine known rest line after said) (new : LogReader)
      → ((past : List (List ℕ)) → AreRead ids timing mid past → AreRead ids timing new (past ++ without_return line ∷ []))
      → FrontRead ids timing old new text after
  line_more line after l new took = record {
    front = f.front ++ (line ++ 10 ∷ []);
    is = f.is ∙ ap (λ (r : List ℕ). f.front ++ r) (l.is ∙ sym (append_assoc line (10 ∷ []) after))
        ∙ sym (append_assoc f.front (line ++ 10 ∷ []) after);
    takes = λ seen h.
        let at = f.takes seen h in
        subst (HasLines ids timing new) (append_assoc seen f.front (line ++ 10 ∷ []))
        (one_more at new line l.plain (took (lines_of (seen ++ f.front)) at.read));
  }

  -- the text behind the front, and its lines
  whole : (seen more : List ℕ) → seen ++ (text ++ more) ≡ (seen ++ f.front) ++ (rest ++ more)
  whole seen more =
      ap (λ (t : List ℕ). seen ++ (t ++ more)) f.is ∙ ap (λ (t : List ℕ). seen ++ t) (append_assoc f.front rest more)
      ∙ sym (append_assoc seen f.front (rest ++ more))

  begins : (line after more : List ℕ) {known : List KnownId} {said : Option BusLine} (l : IsFirstLine known rest line after said)
      → lines_of (rest ++ more) ≡ without_return line ∷ lines_of (after ++ more)
  begins line after more l =
      ap (λ (t : List ℕ). lines_of (t ++ more)) l.is ∙ ap lines_of (append_assoc line (10 ∷ after) more)
      ∙ lines_of-first line (after ++ more) l.plain

  -- the line that comes next gives an event
  pub line_gives_more : (line after : List ℕ) {known : List KnownId} {said : Option BusLine} (l : IsFirstLine known rest line after said)
      → ((past : List (List ℕ)) → AreRead ids timing mid past → GivesMore timing ids past (without_return line))
      → (seen more : List ℕ) → HasLines ids timing old seen → HasEvent timing ids (seen ++ (text ++ more))
  line_gives_more line after l gives seen more h =
      let here = f.takes seen h in
      subst (HasEvent timing ids) (sym (whole seen more))
      (more_next here (without_return line) (rest ++ more) (lines_of (after ++ more)) (begins line after more l) (gives (lines_of (seen ++ f.front)) here.read))

  -- the line that comes next is at fault
  pub line_fault : (line after : List ℕ) {known : List KnownId} {said : Option BusLine} (l : IsFirstLine known rest line after said) (fault : LogFault)
      → ((past : List (List ℕ)) → AreRead ids timing mid past → fault_after timing ids past (without_return line) ≡ Some fault)
      → (seen more : List ℕ) → HasLines ids timing old seen → events (seen ++ (text ++ more)) ids timing ≡ Err fault
  line_fault line after l fault at seen more h =
      let here = f.takes seen h in
      ap (λ (t : List ℕ). events t ids timing) (whole seen more)
      ∙ fault_next here (without_return line) (rest ++ more) (lines_of (after ++ more)) fault (begins line after more l) (at (lines_of (seen ++ f.front)) here.read)

  -- no line ends in the rest
  pub front_taken : HasNoFeed rest → TakesLines (HasLines ids timing old) (HasLines ids timing mid) text rest
  front_taken none = record { front = f.front; is = f.is; begun = none; takes = f.takes }

-- ---- what a reader takes

pub all_taken : (P Q : List ℕ → Type 0) (text : List ℕ) → ((seen : List ℕ) → P seen → Q (seen ++ text)) → TakesLines P Q text []
all_taken P Q text takes = record {
  front = text;
  is = sym (append-nil text);
  begun = All-nil (λ c. is_feed c ≡ false);
  takes = takes;
}

module _ (ids : Ids) (timing : Timing) (old new : LogReader) (text : List ℕ) where
  -- a line in the text is at fault
  pub fault_taken : (fault : LogFault) → (fault ≡ Memory → ⊥) → old.fault ≡ None → new.fault ≡ Some fault
      → ((seen more : List ℕ) → HasLines ids timing old seen → events (seen ++ (text ++ more)) ids timing ≡ Err fault)
      → TakesLines (HasRead ids timing old) (HasRead ids timing new) text []
  fault_taken fault known well some at =
      all_taken (HasRead ids timing old) (HasRead ids timing new) text (λ seen h. record {
        well = λ none. cc (sym some ∙ none);
        fault = λ other same more.
            ap (λ (t : List ℕ). events t ids timing) (append_assoc seen text more) ∙ at seen more (h.well well)
            ∙ ap (λ (f : LogFault). Err f) (same_fault fault other (sym some ∙ same));
        told = λ memory. known (same_fault fault Memory (sym some ∙ memory));
      })
    where
      same_fault : (a b : LogFault) → Some a ≡ Some b → a ≡ b
      same_fault a b same = cc

-- behind a fault
pub behind_fault : (ids : Ids) (timing : Timing) (r : LogReader) (text : List ℕ) → (r.fault ≡ None → ⊥)
    → TakesLines (HasRead ids timing r) (HasRead ids timing r) text []
behind_fault ids timing r text some =
    all_taken (HasRead ids timing r) (HasRead ids timing r) text (λ seen h. record {
      well = λ none. absurd (some none);
      fault = λ fault is more. ap (λ (t : List ℕ). events t ids timing) (append_assoc seen text more) ∙ h.fault fault is (text ++ more);
      told = h.told;
    })
