-- Reading a journal's text: it begins as the journal's text so far, and a line that stops it is the first at fault.
use Rattle.std.proofs.Common.{◌≡◌, ℕ, ◌+◌, ◌^◌, ◌<◌, ◌≤◌, true, false, List, [], ◌∷◌, ◌++◌, length, Some, None, refl, sym, ap, ◌∙◌, subst, arith, decimal, append_assoc, append-nil, take, slice_get, slice_index, slice_set, inl, inr, length-append, ltb-true, eq-eqb, ◌==◌}
use Rattle.std.specs.Prelude.{nat_lt, Result, Ok, Err, IfOk, IfErr, MatchResult}
use Rattle.std.specs.List.{list_all}
use Rattle.std.proofs.lemmas.Bool.{and_parts}
use Rattle.diag_desk.specs.declared.entry.Entry.{Entry}
use Rattle.diag_desk.specs.declared.version.JournalVersion.{JournalVersion}
use Rattle.diag_desk.specs.declared.version.JournalVersion.TheVariants.{Plain, Stamped}
use Rattle.diag_desk.specs.declared.next.LineFault.{LineFault}
use Rattle.diag_desk.specs.declared.next.LineFault.TheVariants as line_fault
use Rattle.diag_desk.specs.declared.read.JournalFault.{JournalFault}
use Rattle.diag_desk.specs.declared.read.JournalFault.TheVariants.{Line, Memory}
use Rattle.diag_desk.specs.Cut.{cut}
use Rattle.diag_desk.specs.Clocks.{Tells}
use Rattle.diag_desk.proofs.EntryLemmas.{entries_more}
use Rattle.diag_desk.specs.Entry.{Kept, AreEntries, IsJournal, IsEntry}
use Rattle.diag_desk.specs.Fault.{FaultAt, IsTextOf, OneJournalLaw}
use Rattle.diag_desk.specs.PartRead.{HasNoNext, PartRead, fault_at}
use Rattle.diag_desk.specs.Text.{ended, entry_line, header, journal_text_at, line_after, lines_after, stamped_line, text_of, ticks_in, ticks_of}
use Rattle.diag_desk.proofs.ClockLemmas.{SmallTicks, small_more, sum_bound, tells_more, ticks_bound}
use Rattle.diag_desk.proofs.CutText.{Above, Free, above-free, cut-there, one_cut, same_cut}
use Rattle.diag_desk.proofs.Runs.{take_one}
use Rattle.diag_desk.proofs.LineText.{cut_stamp, decimal_above, entry_same, line_above, low_append}

-- ---- one line

pub stamp_bound : (past : List Entry) (e : Entry) → AreEntries past → length past ≤ 1000000 → IsEntry e → ticks_of e.who past + ticks_in e.step < 2 ^ 64
stamp_bound past e h le k = omega (arith, sum_bound e.who past h, ticks_bound e k)

pub next_cut : (version : JournalVersion) (past : List Entry) (text : List ℕ) (e : Entry) → version ≡ Stamped → AreEntries past → length past ≤ 1000000 → IsEntry e
    → line_after version past e ≡ text → cut 32 text ≡ Some (decimal (ticks_of e.who past + ticks_in e.step), entry_line e)
next_cut version past text e st h le k is =
    cut_stamp (ticks_of e.who past + ticks_in e.step) (entry_line e) text (stamp_bound past e h le k) (sym (ap (λ b. line_after b past e) st) ∙ is)

pub next_is : (version : JournalVersion) (past : List Entry) (text at line : List ℕ) (e : Entry) (clock : ℕ) → version ≡ Stamped
    → clock ≡ ticks_of e.who past + ticks_in e.step
    → decimal clock ≡ at → entry_line e ≡ line → text ≡ at ++ 32 ∷ line → line_after version past e ≡ text
next_is version past text at line e clock st c d l t =
    ap (λ b. line_after b past e) st ∙ ap (λ n. decimal n ++ (32 ∷ entry_line e)) (sym c) ∙ (λ i. d i ++ (32 ∷ l i)) ∙ sym t

-- a line that isn't the stamp's
pub other_stamp : (past : List Entry) (at line : List ℕ) (e f : Entry) (clock : ℕ) → IsEntry e → IsEntry f → clock ≡ ticks_of f.who past + ticks_in f.step
    → entry_line f ≡ line → at ≡ decimal (ticks_of e.who past + ticks_in e.step) → line ≡ entry_line e → decimal clock ≡ at
other_stamp past at line e f clock h k c fl ae le =
    let same : e ≡ f = entry_same e f h k (sym le ∙ sym fl) in
    ap decimal (c ∙ ap (λ (x : Entry). ticks_of x.who past + ticks_in x.step) (sym same)) ∙ sym ae

after_above : (version : JournalVersion) (past : List Entry) (e : Entry) → AreEntries past → length past ≤ 1000000 → IsEntry e → Above 10 (line_after version past e)
after_above Plain past e h le k = line_above e k
after_above Stamped past e h le k = low_append (decimal (ticks_of e.who past + ticks_in e.step)) (entry_line e)
    (decimal_above _ (stamp_bound past e h le k)) (line_above e k)

after_free : (version : JournalVersion) (past : List Entry) (e : Entry) → AreEntries past → length past ≤ 1000000 → IsEntry e → Free 10 (line_after version past e)
after_free version past e h le k = above-free 10 (line_after version past e) (after_above version past e h le k)

line_same : (version : JournalVersion) (past : List Entry) (e f : Entry) → AreEntries past → length past ≤ 1000000 → IsEntry e → IsEntry f
    → line_after version past e ≡ line_after version past f → e ≡ f
line_same Plain past e f h le k l is = entry_same e f k l is
line_same Stamped past e f h le k l is =
    let both = same_cut 32 (decimal (ticks_of e.who past + ticks_in e.step)) (decimal (ticks_of f.who past + ticks_in f.step)) (entry_line e) (entry_line f)
    (above-free 32 _ (decimal_above _ (stamp_bound past e h le k))) (above-free 32 _ (decimal_above _ (stamp_bound past f h le l))) is in
    entry_same e f k l both.1

-- ---- lists of entries

pub clocks_more : (es js : List Entry) (e : Entry) (ticks next : List ℕ) (clock : ℕ) → IsEntry e → Tells ticks es → js ≡ es ++ e ∷ []
    → clock ≡ ticks_of e.who es + ticks_in e.step → next ≡ slice_set ticks e.who clock → Tells next js
clocks_more es js e ticks next clock k h is c n =
    let low = k.1 in
    subst (Tells next) (sym is) (tells_more ticks next es e (omega arith) h (n ∙ ap (slice_set ticks e.who) c))

-- ---- whole texts

join : (l t rest : List ℕ) → (ended l ++ t) ++ rest ≡ l ++ (10 ∷ (t ++ rest))
join l t rest = append_assoc (ended l) t rest ∙ append_assoc l (10 ∷ []) (t ++ rest)

lines_more : (version : JournalVersion) (past es : List Entry) (e : Entry)
    → lines_after version past (es ++ e ∷ []) ≡ lines_after version past es ++ ended (line_after version (past ++ es) e)
lines_more version past [] e =
    append-nil (ended (line_after version past e)) ∙ ap (λ p. ended (line_after version p e)) (sym (append-nil past))
lines_more version past (x ∷ xs) e =
    ap (λ l. ended (line_after version past x) ++ l) (lines_more version (past ++ x ∷ []) xs e)
    ∙ sym (append_assoc (ended (line_after version past x)) (lines_after version (past ++ x ∷ []) xs) _)
    ∙ ap (λ p. (ended (line_after version past x) ++ lines_after version (past ++ x ∷ []) xs) ++ ended (line_after version p e)) (append_assoc past (x ∷ []) xs)

-- a text, one entry later
pub text_one : (version : JournalVersion) (es : List Entry) (e : Entry) → text_of version (es ++ e ∷ []) ≡ text_of version es ++ ended (line_after version es e)
text_one version es e =
    ap (λ x. ended (header version) ++ x) (lines_more version [] es e)
    ∙ sym (append_assoc (ended (header version)) (lines_after version [] es) (ended (line_after version es e)))

-- the text of version 2, one entry later
pub journal_text_at_more : (es : List Entry) (e : Entry)
    → journal_text_at (es ++ e ∷ []) ≡ journal_text_at es ++ ended (stamped_line Stamped (ticks_of e.who es + ticks_in e.step) (entry_line e))
journal_text_at_more es e = text_one Stamped es e

-- the text so far, one line later
pub text_more : (version : JournalVersion) (es : List Entry) (e : Entry) (text rest line more : List ℕ) → text ≡ text_of version es ++ rest → rest ≡ line ++ 10 ∷ more
    → line_after version es e ≡ line → text ≡ text_of version (es ++ e ∷ []) ++ more
text_more version es e text rest line more t r l =
    let whole : text_of version (es ++ e ∷ []) ≡ text_of version es ++ ended line = text_one version es e ∙ ap (λ x. text_of version es ++ ended x) l in
    t ∙ ap (λ x. text_of version es ++ x) (r ∙ sym (append_assoc line (10 ∷ []) more)) ∙ sym (append_assoc (text_of version es) (ended line) more)
    ∙ ap (λ x. x ++ more) (sym whole)

-- the text written so far, one line later
pub written_more : (version : JournalVersion) (all : List Entry) (i : ℕ) (e : Entry) (text next : List ℕ) (clock : ℕ) → slice_get all i ≡ Some e
    → text ≡ text_of version (take i all)
    → clock ≡ ticks_of e.who (take i all) + ticks_in e.step → next ≡ text ++ ended (stamped_line version clock (entry_line e))
    → next ≡ text_of version (take (i + 1) all)
written_more version all i e text next clock at t c n =
    n ∙ (λ j. t j ++ ended (stamped_line version (c j) (entry_line e))) ∙ sym (text_one version (take i all) e)
    ∙ ap (text_of version) (sym (take_one all i e at))

pub written_clocks : (all : List Entry) (i : ℕ) (e : Entry) (ticks next : List ℕ) (clock : ℕ) → slice_get all i ≡ Some e → e.who ≤ 8 → Tells ticks (take i all)
    → clock ≡ ticks_of e.who (take i all) + ticks_in e.step → next ≡ slice_set ticks e.who clock → Tells next (take (i + 1) all)
written_clocks all i e ticks next clock at low h c n =
    subst (Tells next) (sym (take_one all i e at)) (tells_more ticks next (take i all) e (omega arith) h (n ∙ ap (slice_set ticks e.who) c))

pub written_small : (all : List Entry) (i : ℕ) (e : Entry) → slice_get all i ≡ Some e → SmallTicks (take i all) → ticks_in e.step ≤ 60000
    → SmallTicks (take (i + 1) all)
written_small all i e at h k = subst SmallTicks (sym (take_one all i e at)) (small_more (take i all) e h k)

above_all : (xs : List ℕ) → list_all (λ x. nat_lt 10 x) xs ≡ true → Above 10 xs
above_all [] h = tt
above_all (x ∷ xs) h = let parts = and_parts (nat_lt 10 x) (list_all (λ x. nat_lt 10 x) xs) h in (ltb-true 10 x parts.0, above_all xs parts.1)

header_free : (version : JournalVersion) → Free 10 (header version)
header_free Stamped = above-free 10 (header Stamped) (above_all (header Stamped) refl)
header_free Plain = above-free 10 (header Plain) (above_all (header Plain) refl)

pub text_begins : (version : JournalVersion) (text first rest : List ℕ) → text ≡ first ++ 10 ∷ rest → first ≡ header version → text ≡ text_of version [] ++ rest
text_begins version text first rest t f =
    t ∙ ap (λ l. l ++ 10 ∷ rest) f ∙ sym (append_assoc (header version) (10 ∷ []) rest) ∙ ap (λ l. l ++ rest) (sym (append-nil (ended (header version))))

header_cut : (version : JournalVersion) (es : List Entry) (text rest : List ℕ) → text ≡ text_of version es ++ rest
    → cut 10 text ≡ Some (header version, lines_after version [] es ++ rest)
header_cut version es text rest t =
    ap (cut 10) (t ∙ join (header version) (lines_after version [] es) rest)
    ∙ cut-there 10 (header version) (lines_after version [] es ++ rest) (header_free version)

-- a text of a journal begins with its header
text_header : (es : List Entry) (text : List ℕ) → IsTextOf text es → (version : JournalVersion) × (text ≡ text_of version es ++ [])
text_header es text (inl e) = (Plain, e ∙ sym (append-nil (text_of Plain es)))
text_header es text (inr e) = (Stamped, e ∙ sym (append-nil (text_of Stamped es)))

pub header_fault : (text : List ℕ) → ((version : JournalVersion) (rest : List ℕ) → cut 10 text ≡ Some (header version, rest) → ⊥) → FaultAt text 1
header_fault text no_header = record {
  some = omega arith;
  before = λ lt. absurd (omega arith);
  fault = λ b. no_header b.version _ (header_cut b.version b.entries text b.rest b.is);
  none = λ es h is. let parts = text_header es text is in no_header parts.0 _ (header_cut parts.0 es text [] parts.1);
}

-- no entry can follow
pub record Stuck (version : JournalVersion) (es : List Entry) (rest : List ℕ) : Type 0 where
  pub some : rest ≡ [] → ⊥
  pub no_line : (e : Entry) (more : List ℕ) → IsEntry e → length es < 1000000 → rest ≡ line_after version es e ++ 10 ∷ more → ⊥

lines_apart : (version : JournalVersion) (past es ks full : List Entry) (rest more : List ℕ) → AreEntries past → AreEntries es → AreEntries ks
    → length past + length es ≤ 1000000
    → length past + length ks ≤ 1000000 → lines_after version past es ++ rest ≡ lines_after version past ks ++ more → full ≡ past ++ es
    → Stuck version full rest
    → (length ks ≤ length es) × (more ≡ [] → ⊥)
lines_apart version past [] [] full rest more hp he hk le lk is f stuck = (omega arith, λ e. stuck.some (is ∙ e))
lines_apart version past [] (k ∷ ks) full rest more hp he hk le lk is f stuck =
    let same : full ≡ past = f ∙ append-nil past in
    let short : length full < 1000000 = omega (arith, ap length same, lk) in
    absurd (stuck.no_line k (lines_after version (past ++ k ∷ []) ks ++ more) hk.0 short
    (is ∙ join (line_after version past k) (lines_after version (past ++ k ∷ []) ks) more
    ∙ ap (λ p. line_after version p k ++ 10 ∷ (lines_after version (past ++ k ∷ []) ks ++ more)) (sym same)))
lines_apart version past (e ∷ es) [] full rest more hp he hk le lk is f stuck = (
  omega arith,
  λ empty.
      let long = ap length (sym (join (line_after version past e) (lines_after version (past ++ e ∷ []) es) rest) ∙ is ∙ empty) in
      absurd (omega (arith, long, length-append (line_after version past e) (10 ∷ (lines_after version (past ++ e ∷ []) es ++ rest)))),
)
lines_apart version past (e ∷ es) (k ∷ ks) full rest more hp he hk le lk is f stuck =
    let within : length past ≤ 1000000 = omega arith in
    let both = same_cut 10 (line_after version past e) (line_after version past k) (lines_after version (past ++ e ∷ []) es ++ rest)
    (lines_after version (past ++ k ∷ []) ks ++ more)
    (after_free version past e hp within he.0) (after_free version past k hp within hk.0)
    (sym (join (line_after version past e) (lines_after version (past ++ e ∷ []) es) rest) ∙ is
    ∙ join (line_after version past k) (lines_after version (past ++ k ∷ []) ks) more) in
    let same : e ≡ k = line_same version past e k hp within he.0 hk.0 both.0 in
    let one : length (past ++ e ∷ []) ≡ length past + 1 = length-append past (e ∷ []) in
    let rest_is = both.1 ∙ ap (λ (x : Entry). lines_after version (past ++ x ∷ []) ks ++ more) (sym same) in
    let ih = lines_apart version (past ++ e ∷ []) es ks full rest more (entries_more past e hp he.0) he.1 hk.1 (omega (arith, one, le))
    (omega (arith, one, lk)) rest_is
    (f ∙ sym (append_assoc past (e ∷ []) es)) stuck in
    (omega (arith, ih.0), ih.1)

digits_apart : (a b : ℕ) → a ≡ b → (a == b) ≡ false → ⊥
digits_apart a b e other = cc (sym other ∙ eq-eqb a b e)

headers_apart : (a b : JournalVersion) → header a ≡ header b → a ≡ b
headers_apart Stamped Stamped e = refl
headers_apart Plain Plain e = refl
headers_apart Stamped Plain e = absurd (digits_apart _ _ (ap (λ l. slice_index l 13) e) refl)
headers_apart Plain Stamped e = absurd (digits_apart _ _ (ap (λ l. slice_index l 13) e) refl)

-- where the text so far is a journal's and no entry can follow, the next line is the first at fault
texts_apart : (version other : JournalVersion) (es ks : List Entry) (text rest more : List ℕ) → IsJournal es → IsJournal ks → text ≡ text_of version es ++ rest
    → text ≡ text_of other ks ++ more
    → Stuck version es rest → (length ks ≤ length es) × (more ≡ [] → ⊥)
texts_apart version other es ks text rest more h k t u stuck =
    let both = one_cut 10 text _ _ _ _ (header_cut version es text rest t) (header_cut other ks text more u) in
    let same : version ≡ other = headers_apart version other both.0 in
    let left = h.1 in
    let right = k.1 in
    lines_apart version [] es ks es rest more tt h.0 k.0 (omega arith) (omega arith) (both.1 ∙ ap (λ b. lines_after b [] ks ++ more) (sym same)) refl stuck

pub stuck_fault : (version : JournalVersion) (es : List Entry) (text rest : List ℕ) (n : ℕ) → IsJournal es → text ≡ text_of version es ++ rest
    → n ≡ length es + 2 → Stuck version es rest → FaultAt text n
stuck_fault version es text rest n h t number stuck = record {
  some = omega arith;
  before = λ lt. record { version = version; entries = es; rest = rest; journal = h; lines = omega arith; is = t };
  fault = λ b. let apart = texts_apart version b.version es b.entries text rest b.rest h b.journal t b.is stuck in let lines = b.lines in
      absurd (omega (arith, apart.0));
  none = λ ks k is. let parts = text_header ks text is in (texts_apart version parts.0 es ks text rest [] h k t parts.1 stuck).1 refl;
}

-- a rest with no line in it
pub stuck_at_end : (version : JournalVersion) (es : List Entry) (rest : List ℕ) → IsJournal es → (rest ≡ [] → ⊥) → cut 10 rest ≡ None → Stuck version es rest
stuck_at_end version es rest h some none = record {
  some = some;
  no_line = λ e more k short is. cc (sym none ∙ ap (cut 10) is ∙ cut-there 10 (line_after version es e) more (after_free version es e h.0 h.1 k));
}

-- a line that is no entry's
pub stuck_at_line : (r : PartRead) (rest line more : List ℕ) → IsJournal r.entries → (rest ≡ [] → ⊥) → cut 10 rest ≡ Some (line, more)
    → HasNoNext r line → Stuck r.version r.entries rest
stuck_at_line r rest line more h some cuts none = record {
  some = some;
  no_line = λ e after k short is.
      none e k short (one_cut 10 rest _ _ _ _ (ap (cut 10) is
      ∙ cut-there 10 (line_after r.version r.entries e) after (after_free r.version r.entries e h.0 h.1 k)) cuts).0;
}

-- ---- one text, one journal

lines_one : (version : JournalVersion) (past es ks : List Entry) → AreEntries past → AreEntries es → AreEntries ks → length past + length es ≤ 1000000
    → length past + length ks ≤ 1000000
    → lines_after version past es ≡ lines_after version past ks → es ≡ ks
lines_one version past [] [] hp he hk le lk is = refl
lines_one version past [] (k ∷ ks) hp he hk le lk is =
    let long = ap length (is ∙ append_assoc (line_after version past k) (10 ∷ []) (lines_after version (past ++ k ∷ []) ks)) in
    absurd (omega (arith, long, length-append (line_after version past k) (10 ∷ lines_after version (past ++ k ∷ []) ks)))
lines_one version past (e ∷ es) [] hp he hk le lk is =
    let long = ap length (sym is ∙ append_assoc (line_after version past e) (10 ∷ []) (lines_after version (past ++ e ∷ []) es)) in
    absurd (omega (arith, long, length-append (line_after version past e) (10 ∷ lines_after version (past ++ e ∷ []) es)))
lines_one version past (e ∷ es) (k ∷ ks) hp he hk le lk is =
    let within : length past ≤ 1000000 = omega arith in
    let both = same_cut 10 (line_after version past e) (line_after version past k) (lines_after version (past ++ e ∷ []) es)
    (lines_after version (past ++ k ∷ []) ks)
    (after_free version past e hp within he.0) (after_free version past k hp within hk.0)
    (sym (append_assoc (line_after version past e) (10 ∷ []) _) ∙ is ∙ append_assoc (line_after version past k) (10 ∷ []) _) in
    let same : e ≡ k = line_same version past e k hp within he.0 hk.0 both.0 in
    let one : length (past ++ e ∷ []) ≡ length past + 1 = length-append past (e ∷ []) in
    let rest : es ≡ ks = lines_one version (past ++ e ∷ []) es ks (entries_more past e hp he.0) he.1 hk.1 (omega (arith, one, le)) (omega (arith, one, lk))
    (both.1 ∙ ap (λ (x : Entry). lines_after version (past ++ x ∷ []) ks) (sym same)) in
    λ i. same i ∷ rest i

pub one_journal : OneJournalLaw
one_journal = λ text es ks h k t u.
    let a = text_header es text t in
    let b = text_header ks text u in
    let both = one_cut 10 text _ _ _ _ (header_cut a.0 es text [] a.1) (header_cut b.0 ks text [] b.1) in
    let same : a.0 ≡ b.0 = headers_apart a.0 b.0 both.0 in
    let left = h.1 in
    let right = k.1 in
    lines_one a.0 [] es ks tt h.0 k.0 (omega arith) (omega arith)
    (sym (append-nil (lines_after a.0 [] es)) ∙ both.1 ∙ append-nil (lines_after b.0 [] ks) ∙ ap (λ s. lines_after s [] ks) (sym same))

-- what became of a line, by the fault of its text
pub line_wrong : (n m : ℕ) (f : LineFault) → fault_at n f ≡ Line m → (f ≡ line_fault.Wrong) × (n ≡ m)
line_wrong n m line_fault.Wrong e = (refl, cc e)
line_wrong n m line_fault.Memory e = cc e

pub line_refused : (n : ℕ) (f : LineFault) → fault_at n f ≡ Memory → f ≡ line_fault.Memory
line_refused n line_fault.Wrong e = cc e
line_refused n line_fault.Memory e = refl

-- what a journal was written as is read back as that journal
pub read_back : (text : List ℕ) (r : Result Kept JournalFault) → IfOk r (λ journal. IsJournal journal.entries × IsTextOf text journal.entries)
    → IfErr r (λ fault. (n : ℕ) → fault ≡ Line n → FaultAt text n) → (es : List Entry) → IsJournal es → IsTextOf text es
    → MatchResult r (λ journal. journal.entries ≡ es) (λ fault. fault ≡ Memory)
read_back text (Ok journal) ok line es h is = one_journal text journal.entries es ok.0 h ok.1 is
read_back text (Err (Line n)) ok line es h is = absurd ((line n refl).none es h is)
read_back text (Err Memory) ok line es h is = refl
