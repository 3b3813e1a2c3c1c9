-- A journal's text that comes in pieces: what one line more makes of it, and where a line stops it.
use Rattle.std.proofs.Common.{◌≡◌, ◌==◌, ℕ, ◌+◌, ◌<◌, true, false, cond, List, [], ◌∷◌, ◌++◌, length, Some, None, refl, sym, ap, ◌∙◌, subst, arith, inl, inr, append_assoc, append-nil, length-append}
use Rattle.std.specs.Prelude.{option_map}
use Rattle.std.proofs.lemmas.List.{append_cancel_right}
use Rattle.std.proofs.lemmas.Option.{same_Some}
use Rattle.std.proofs.lemmas.List.Elements.{All-cons, All-head, All-nil, All-tail}
use Rattle.diag_setup.specs.declared.raw.RawSetup.{RawSetup}
use Rattle.diag_can.specs.BusLine.{HasNoFeed}
use Rattle.diag_can.specs.Log.{is_feed}
use Rattle.diag_desk.specs.declared.entry.Entry.{Entry}
use Rattle.diag_desk.specs.declared.version.JournalVersion.{JournalVersion}
use Rattle.diag_desk.specs.declared.version.JournalVersion.TheVariants.{Plain, Stamped}
use Rattle.diag_desk.specs.declared.following.Follower.{Follower}
use Rattle.diag_desk.specs.declared.following.TextReplay.{TextReplay}
use Rattle.diag_desk.specs.Cut.{begun, cut}
use Rattle.diag_desk.specs.Fault.{FaultAt, IsTextOf}
use Rattle.diag_desk.specs.Following.{AsksEcu, Followed, FollowedIn, Follows, HasFollowed, HasRequest, HasTaken, read_so_far}
use Rattle.diag_desk.specs.PartRead.{HasNoNext}
use Rattle.diag_can.specs.Pieces.{TakesLines}
use Rattle.diag_can.proofs.Pieces.{all_taken}
use Rattle.diag_desk.specs.Text.{ended, header, line_after, text_of}
use Rattle.diag_desk.proofs.CutText.{back, cut-joins, front, one_cut}
use Rattle.diag_desk.proofs.ReadLemmas.{header_fault, stuck_at_end, stuck_at_line, stuck_fault, text_begins, text_more, text_one}

-- ---- cutting a text

-- a text that is cut is cut there, whatever follows it
cut_more : (c : ℕ) (t a b more : List ℕ) → cut c t ≡ Some (a, b) → cut c (t ++ more) ≡ Some (a, b ++ more)
cut_more c [] a b more h = cc h
cut_more c (x ∷ xs) a b more h =
    elim (x == c) as (λ v. (x == c) ≡ v → cond v (Some ([], xs)) (option_map (begun x) (cut c xs)) ≡ Some (a, b) → cut c (x ∷ (xs ++ more)) ≡ Some (a, b ++ more)) [
      | true ↦ λ e k.
          let first : [] ≡ a = ap front k in
          let rest : xs ≡ b = ap back k in
          rw (e, ← first, ← rest) refl
      | false ↦ λ e k.
          elim (cut c xs) as (λ o. cut c xs ≡ o → option_map (begun x) o ≡ Some (a, b) → cut c (x ∷ (xs ++ more)) ≡ Some (a, b ++ more)) [
            | Some p ↦ λ q m.
                let first : x ∷ p.0 ≡ a = ap front m in
                let rest : p.1 ≡ b = ap back m in
                rw (e, cut_more c xs p.0 p.1 more q, ← first, ← rest) refl
            | None ↦ λ q m. cc m
          ] refl k
    ] refl h

-- a text isn't cut where it has no line feed, and only there
uncut : (t : List ℕ) → HasNoFeed t → cut 10 t ≡ None
uncut [] h = refl
uncut (x ∷ xs) h =
    let other : (x == 10) ≡ false = All-head (λ c. is_feed c ≡ false) x xs h in
    rw (other, uncut xs (All-tail (λ c. is_feed c ≡ false) x xs h)) refl

no_feed : (t : List ℕ) → cut 10 t ≡ None → HasNoFeed t
no_feed [] h = All-nil (λ c. is_feed c ≡ false)
no_feed (x ∷ xs) h =
    elim (x == 10) as (λ v. (x == 10) ≡ v → cond v (Some ([], xs)) (option_map (begun x) (cut 10 xs)) ≡ None → HasNoFeed (x ∷ xs)) [
      | true ↦ λ e k. cc k
      | false ↦ λ e k.
          elim (cut 10 xs) as (λ o. cut 10 xs ≡ o → option_map (begun x) o ≡ None → HasNoFeed (x ∷ xs)) [
            | Some p ↦ λ q m. cc m
            | None ↦ λ q m. All-cons (λ c. is_feed c ≡ false) x xs e (no_feed xs q)
          ] refl k
    ] refl h

-- a line behind the text so far
line_more : (version : JournalVersion) (es : List Entry) (e : Entry) (text line : List ℕ) → text ≡ text_of version es → line ≡ ended (line_after version es e)
    → text ++ line ≡ text_of version (es ++ e ∷ [])
line_more version es e text line t l = (λ i. t i ++ l i) ∙ sym (text_one version es e)

-- ---- a follower

-- what a front of a text did
abbrev pub FrontFollowed : RawSetup → Follower → Follower → List ℕ → List ℕ → Type 0
FrontFollowed setup old new text rest = (front : List ℕ)
    × (text ≡ front ++ rest)
    × ((seen : List ℕ) → HasFollowed setup old seen → HasFollowed setup new (seen ++ front))

-- a line that was cut, as one at the front of the text
pub cut_followed : (setup : RawSetup) (f mid new : Follower) (past : List Entry) (rest line after : List ℕ) → mid.version ≡ f.version
    → cut 10 rest ≡ Some (line, after) → Followed setup mid new past line → FollowedIn setup f new past rest after
cut_followed setup f mid new past rest line after same cuts took = record {
  entry = took.entry;
  line = cut-joins 10 rest line after cuts ∙ ap (λ l. l ++ 10 ∷ after) (sym took.line)
      ∙ ap (λ b. line_after b past took.entry ++ 10 ∷ after) same;
  follows = took.follows;
}

module _ (setup : RawSetup) (f new : Follower) (rest after : List ℕ) (one : (past : List Entry) → Follows setup f past → FollowedIn setup f new past rest after)
  where
    line_of : (seen : List ℕ) → HasFollowed setup f seen → (line : List ℕ) × (rest ≡ line ++ after)
    line_of seen at =
        let took = one at.past at.follows in (
          ended (line_after f.version at.past took.entry),
          took.line ∙ sym (append_assoc (line_after f.version at.past took.entry) (10 ∷ []) after),
        )

    pub is_shorter : (seen : List ℕ) → HasFollowed setup f seen → length after < length rest
    is_shorter seen at =
        let took = one at.past at.follows in
        let long = ap length took.line in
        omega (arith, long, length-append (line_after f.version at.past took.entry) (10 ∷ after))

    one_more : new.version ≡ f.version → (line seen : List ℕ) → rest ≡ line ++ after → HasFollowed setup f seen → HasFollowed setup new (seen ++ line)
    unfolding line_of
    one_more same line seen is at =
        let took = one at.past at.follows in
        let here = line_of seen at in
        let equal : line ≡ here.0 = append_cancel_right line here.0 after (sym is ∙ here.1) in
        record {
          past = at.past ++ took.entry ∷ [];
          follows = took.follows;
          is = line_more f.version at.past took.entry seen line at.is equal ∙ ap (λ b. text_of b (at.past ++ took.entry ∷ [])) (sym same);
        }

    -- one line more behind a front
    pub front_more : new.version ≡ f.version → (old : Follower) (text seen : List ℕ) → HasFollowed setup old seen → FrontFollowed setup old f text rest
        → FrontFollowed setup old new text after
    front_more same old text seen h so_far =
        let line = line_of (seen ++ so_far.0) (so_far.2 seen h) in (
          so_far.0 ++ line.0,
          so_far.1 ∙ ap (λ r. so_far.0 ++ r) line.1 ∙ sym (append_assoc so_far.0 line.0 after),
          λ s k. subst (HasFollowed setup new) (append_assoc s so_far.0 line.0) (one_more same line.0 (s ++ so_far.0) line.1 (so_far.2 s k)),
        )

-- behind a front no line ends
pub front_taken : (setup : RawSetup) (old f new : Follower) (text rest : List ℕ) → new.version ≡ f.version
    → ((past : List Entry) → Follows setup f past → Follows setup new past) → cut 10 rest ≡ None → FrontFollowed setup old f text rest
    → TakesLines (HasFollowed setup old) (HasFollowed setup new) text rest
front_taken setup old f new text rest same follows none so_far = record {
  front = so_far.0;
  is = so_far.1;
  begun = no_feed rest none;
  takes = λ seen h.
      let at = so_far.2 seen h in
      record { past = at.past; follows = follows at.past at.follows; is = at.is ∙ ap (λ b. text_of b at.past) (sym same) };
}

-- the text behind a front
whole : (setup : RawSetup) (old f new : Follower) (text rest : List ℕ) → new.version ≡ f.version → (so_far : FrontFollowed setup old f text rest)
    → (seen : List ℕ) → (h : HasFollowed setup old seen) → (more : List ℕ)
    → seen ++ (text ++ more) ≡ text_of new.version (so_far.2 seen h).past ++ (rest ++ more)
whole setup old f new text rest same so_far seen h more =
    let at = so_far.2 seen h in
    ap (λ t. seen ++ (t ++ more)) so_far.1 ∙ ap (λ t. seen ++ t) (append_assoc so_far.0 rest more) ∙ sym (append_assoc seen so_far.0 (rest ++ more))
    ∙ ap (λ t. t ++ (rest ++ more)) (at.is ∙ ap (λ b. text_of b at.past) (sym same))

-- a line that the ECU is asked for stands in the text, whatever follows it
pub line_asks : (setup : RawSetup) (old f new : Follower) (text rest line after : List ℕ) → new.version ≡ f.version
    → ((past : List Entry) → Follows setup f past → Follows setup new past)
    → cut 10 rest ≡ Some (line, after) → ((past : List Entry) → Follows setup new past → AsksEcu setup new past line)
    → FrontFollowed setup old f text rest → (seen more : List ℕ) → HasFollowed setup old seen → HasRequest setup (seen ++ (text ++ more))
line_asks setup old f new text rest line after same follows cuts asks so_far seen more h =
    let at = so_far.2 seen h in
    let now = follows at.past at.follows in
    let asked = asks at.past now in
    record {
      version = new.version;
      past = at.past;
      entry = asked.next.entry;
      rest = after ++ more;
      journal = now.journal;
      run = asked.run;
      is_entry = asked.next.is_entry;
      tester = asked.tester;
      request = asked.request;
      is = text_more new.version at.past asked.next.entry _ (rest ++ more) line (after ++ more) (whole setup old f new text rest same so_far seen h more)
          (cut-joins 10 (rest ++ more) line (after ++ more) (cut_more 10 rest line after more cuts)) asked.next.line;
    }

-- a line that is no entry's is the first at fault, whatever follows it
pub line_fault : (setup : RawSetup) (old f new : Follower) (text rest line after : List ℕ) → new.version ≡ f.version
    → ((past : List Entry) → Follows setup f past → Follows setup new past)
    → cut 10 rest ≡ Some (line, after) → ((past : List Entry) → Follows setup new past → HasNoNext (read_so_far new.version past) line)
    → FrontFollowed setup old f text rest → (seen : List ℕ) → HasFollowed setup old seen → (more : List ℕ)
    → FaultAt (seen ++ (text ++ more)) (new.count + 2)
line_fault setup old f new text rest line after same follows cuts wrong so_far seen h more =
    let at = so_far.2 seen h in
    let now = follows at.past at.follows in
    let count = now.count in
    let more_cuts = cut_more 10 rest line after more cuts in
    let some : rest ++ more ≡ [] → ⊥ = λ empty. cc (sym more_cuts ∙ ap (cut 10) empty) in
    stuck_fault new.version at.past _ (rest ++ more) (new.count + 2) now.journal (whole setup old f new text rest same so_far seen h more)
    (omega arith)
    (stuck_at_line (read_so_far new.version at.past) (rest ++ more) line (after ++ more) now.journal some more_cuts (wrong at.past now))

-- ---- the replay of a text

module _ (setup : RawSetup) (old new : TextReplay) (text : List ℕ) where
  -- the line of that number is at fault
  pub fault_taken : (n : ℕ) → new.fault ≡ Some n → ((seen : List ℕ) → HasTaken setup old seen → (more : List ℕ) → FaultAt (seen ++ (text ++ more)) n)
      → TakesLines (HasTaken setup old) (HasTaken setup new) text []
  fault_taken n some at =
      all_taken (HasTaken setup old) (HasTaken setup new) text (λ seen h. record {
        well = λ none. cc (sym some ∙ none);
        fault = λ m same more.
            let number : n ≡ m = same_Some n m (sym some ∙ same) in
            subst (FaultAt ((seen ++ text) ++ more)) number (subst (λ t. FaultAt t n) (sym (append_assoc seen text more)) (at seen h more));
      })

-- behind a line at fault
pub behind_fault : (setup : RawSetup) (r : TextReplay) (text : List ℕ) → (r.fault ≡ None → ⊥) → TakesLines (HasTaken setup r) (HasTaken setup r) text []
behind_fault setup r text some =
    all_taken (HasTaken setup r) (HasTaken setup r) text (λ seen h. record {
      well = λ none. absurd (some none);
      fault = λ n is more. subst (λ t. FaultAt t n) (sym (append_assoc seen text more)) (h.fault n is (text ++ more));
    })

-- no line ends in the text
pub none_taken : (P : List ℕ → Type 0) (text : List ℕ) → cut 10 text ≡ None → TakesLines P P text text
none_taken P text none = record { front = []; is = refl; begun = no_feed text none; takes = λ seen h. subst P (sym (append-nil seen)) h }

-- nothing was taken before the header
module _ (setup : RawSetup) (r : TextReplay) (unheaded : r.headed ≡ false) (well : r.fault ≡ None) (seen : List ℕ) (h : HasTaken setup r seen) where
  pub none_before : seen ≡ []
  none_before = ((h.well well).unheaded unheaded).0

  -- a first line that is no header
  pub no_header : (text first rest : List ℕ) → cut 10 text ≡ Some (first, rest) → ((version : _) → first ≡ header version → ⊥) → (more : List ℕ)
      → FaultAt (seen ++ (text ++ more)) 1
  no_header text first rest cuts none more =
      subst (λ s. FaultAt (s ++ (text ++ more)) 1) (sym none_before) (header_fault (text ++ more)
      (λ version back other. none version (one_cut 10 (text ++ more) _ _ _ _ (cut_more 10 text first rest more cuts) other).0))

  pub unended_header : (begun : List ℕ) → HasNoFeed begun → FaultAt (seen ++ begun) 1
  unended_header begun none =
      subst (λ s. FaultAt (s ++ begun) 1) (sym none_before) (header_fault begun (λ version back cuts. cc (sym (uncut begun none) ∙ cuts)))

  pub header_taken : (new : TextReplay) (first : List ℕ) → new.fault ≡ None → new.headed ≡ true → new.follower.clocks ≡ r.follower.clocks
      → new.follower.count ≡ r.follower.count → new.follower.play ≡ r.follower.play → first ≡ header new.follower.version
      → HasTaken setup new (first ++ 10 ∷ [])
  header_taken new first none headed clocks count play is =
      let before = ((h.well well).unheaded unheaded).1 in
      record {
        well = λ _. record {
          unheaded = λ no. cc (sym headed ∙ no);
          headed = λ _. record {
            past = [];
            follows = record {
              journal = before.journal;
              clocks = rw clocks before.clocks;
              count = count ∙ before.count;
              play = rw play before.play;
            };
            is = text_begins new.follower.version (first ++ 10 ∷ []) first [] refl is ∙ append-nil (text_of new.follower.version []);
          };
        };
        fault = λ n some. cc (sym none ∙ some);
      }

-- the header, and what is taken behind it
pub headed_taken : (setup : RawSetup) (old mid new : TextReplay) (text first rest begun : List ℕ) → cut 10 text ≡ Some (first, rest)
    → ((seen : List ℕ) → HasTaken setup old seen → (seen ≡ []) × HasTaken setup mid (first ++ 10 ∷ []))
    → TakesLines (HasTaken setup mid) (HasTaken setup new) rest begun → TakesLines (HasTaken setup old) (HasTaken setup new) text begun
headed_taken setup old mid new text first rest begun cuts head t = record {
  front = (first ++ 10 ∷ []) ++ t.front;
  is = cut-joins 10 text first rest cuts ∙ sym (append_assoc first (10 ∷ []) rest) ∙ ap (λ r. (first ++ 10 ∷ []) ++ r) t.is
      ∙ sym (append_assoc (first ++ 10 ∷ []) t.front begun);
  begun = t.begun;
  takes = λ seen h.
      let there = head seen h in
      subst (λ s. HasTaken setup new (s ++ ((first ++ 10 ∷ []) ++ t.front))) (sym there.0) (t.takes (first ++ 10 ∷ []) there.1);
}

-- the same of a request behind the header
pub headed_asks : (setup : RawSetup) (old mid : TextReplay) (text first rest : List ℕ) → cut 10 text ≡ Some (first, rest)
    → ((seen : List ℕ) → HasTaken setup old seen → (seen ≡ []) × HasTaken setup mid (first ++ 10 ∷ []))
    → ((seen more : List ℕ) → HasTaken setup mid seen → HasRequest setup (seen ++ (rest ++ more)))
    → (seen more : List ℕ) → HasTaken setup old seen → HasRequest setup (seen ++ (text ++ more))
headed_asks setup old mid text first rest cuts head asks seen more h =
    let there = head seen h in
    let same : (first ++ 10 ∷ []) ++ (rest ++ more) ≡ seen ++ (text ++ more) =
    append_assoc first (10 ∷ []) (rest ++ more) ∙ sym (append_assoc first (10 ∷ rest) more)
    ∙ ap (λ t. t ++ more) (sym (cut-joins 10 text first rest cuts)) ∙ ap (λ s. s ++ (text ++ more)) (sym there.0) in
    subst (HasRequest setup) same (asks (first ++ 10 ∷ []) more there.1)

-- ---- its end

whole_of : (text : List ℕ) (past : List Entry) (version : JournalVersion) → text ≡ text_of version past → IsTextOf text past
whole_of text past Stamped is = inr is
whole_of text past Plain is = inl is

-- a last line that no line feed ends
pub unended_line : (setup : RawSetup) (r : TextReplay) (seen begun : List ℕ) → HasFollowed setup r.follower seen → HasNoFeed begun → (begun ≡ [] → ⊥)
    → FaultAt (seen ++ begun) (r.follower.count + 2)
unended_line setup r seen begun at none some =
    let count = at.follows.count in
    stuck_fault r.follower.version at.past _ begun (r.follower.count + 2) at.follows.journal (ap (λ s. s ++ begun) at.is) (omega arith)
    (stuck_at_end r.follower.version at.past begun at.follows.journal some (uncut begun none))

-- a text that ends with a line feed
pub whole_text : (setup : RawSetup) (r : TextReplay) (seen begun : List ℕ) → (at : HasFollowed setup r.follower seen) → length begun ≡ 0
    → IsTextOf (seen ++ begun) at.past
whole_text setup r seen [] at none = whole_of _ at.past r.follower.version (append-nil seen ∙ at.is)
whole_text setup r seen (c ∷ begun) at none = absurd (omega (arith, none))
