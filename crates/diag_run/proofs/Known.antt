-- What a run makes of its files, by the bytes that were read, and where it is known what the readers have left.
use Rattle.std.proofs.Common.{suc, ◌≡◌, ◌≢◌, ℕ, ◌+◌, ◌≤◌, ◌<◌, true, nat_le, length, drop, map, slice_index_or, List, [], ◌∷◌, ◌++◌, Option, Some, None, Result, Ok, Err, IfOk, IfErr, inl, inr, refl, sym, ap, subst, ◌∙◌, arith, length-append}
use Rattle.std.proofs.lemmas.Bool.{cases_Bool}
use Rattle.std.specs.Global.{Vec}
use Rattle.std.specs.Io.KnownBytes.{Consumes}
use Rattle.std.proofs.KnownBytes.{Consumes-nil}
use Rattle.diag_config.specs.Key.{◌>>=◌}
use Rattle.diag_setup.specs.declared.raw.RawSetup.{RawSetup}
use Rattle.diag_text.specs.declared.fault.RunFault.{RunFault}
use Rattle.diag_text.specs.declared.fault.RunFault.TheVariants.{Files, Config, ConfigLong, Log, JournalLine, FileLong, Memory, JournalFull, RecordsDisagree, Read, Write, Differs, Capture, Otherwise}
use Rattle.diag_run.specs.declared.file_run.Job.{Job}
use Rattle.diag_desk.specs.Following.{HasTaken}
use Rattle.diag_text.specs.Taking.{LinesTaken}
use Rattle.diag_text.specs.declared.taking.LineTaker.{LineTaker}
use Rattle.diag_run.specs.declared.answer.Replaying.{Replaying}
use Rattle.diag_run.specs.Files.{Refusal, AreKnown, AreTaken, EndsAt, Fails, FilesEnd, FilesRead, ReadEach, SaysSetup, config_of, file_long, files_from}
use Rattle.diag_run.specs.Devices.{fault_in}
use Rattle.diag_run.specs.Run.{Inputs, FilesGive, GivesRun, GivesText, IsReplayedTo, ReadToEnd, NamesAFile, ReadsConfigFirst, TextStops, WhereKnown, answered, inputs, joined, limit, read_of, wanted}
use Rattle.diag_run.proofs.Devices.{some_same}
use Rattle.diag_run.proofs.Inputs.{read_fails, read_whole}
use Rattle.diag_run.proofs.Order.{AllLater-files, AllLater-front}
use Rattle.diag_run.proofs.Reading.{AreKnown-length, ends_within, head_known, too_long, whole_known, with_front}

-- ---- files that were read, in front of others

abbrev rest_of : Result (List (List ℕ)) Refusal → Result (List (List ℕ)) Refusal
rest_of (Ok texts) = Ok (drop 1 texts)
rest_of (Err f) = Err f

tail_read : (t : List ℕ) (ts : List (List ℕ)) (said : Result (List (List ℕ)) Refusal) → (said >>= λ others. Ok (t ∷ others)) ≡ Ok (t ∷ ts) → said ≡ Ok ts
tail_read t ts (Ok others) h = ap rest_of h
tail_read t ts (Err f) h = cc h

head_fits : (most n : ℕ) (t : List ℕ) (ts : List (List ℕ)) → files_from most n (t ∷ ts) ≡ Ok (t ∷ ts)
    → (nat_le (length t) most ≡ true) × (files_from most (n + 1) ts ≡ Ok ts)
unfolding files_from
head_fits most n t ts h =
    elim (cases_Bool (nat_le (length t) most)) [
      | inl fits ↦ (fits, tail_read t ts (files_from most (n + 1) ts) (rw fits at h))
      | inr long ↦ let no = rw long at h in cc no
    ]

front_one : (t : List ℕ) (ts : List (List ℕ)) (said : Result (List (List ℕ)) Refusal) → (with_front ts said >>= λ others. Ok (t ∷ others)) ≡ with_front (t ∷ ts) said
front_one t ts (Ok others) = refl
front_one t ts (Err f) = refl

front_none : (said : Result (List (List ℕ)) Refusal) → said ≡ with_front [] said
front_none (Ok others) = refl
front_none (Err f) = refl

files_behind : (most n : ℕ) (texts rest : List (List ℕ)) → files_from most n texts ≡ Ok texts
    → files_from most n (texts ++ rest) ≡ with_front texts (files_from most (n + length texts) rest)
unfolding files_from
files_behind most n [] rest h =
    let same : n ≡ n + 0 = omega arith in
    front_none (files_from most n rest) ∙ ap (λ m. with_front [] (files_from most m rest)) same
files_behind most n (t ∷ ts) rest h =
    let parts = head_fits most n t ts h in
    let next : n + 1 + length ts ≡ n + suc (length ts) = omega arith in
    let one : files_from most n (t ∷ (ts ++ rest)) ≡ (files_from most (n + 1) (ts ++ rest) >>= λ others. Ok (t ∷ others)) = rw parts.0 refl in
    one ∙ ap (λ said. said >>= λ others. Ok (t ∷ others)) (files_behind most (n + 1) ts rest parts.1)
    ∙ front_one t ts (files_from most (n + 1 + length ts) rest)
    ∙ ap (λ m. with_front (t ∷ ts) (files_from most m rest)) next

-- ---- readers of which is known what they have left

fits_in : (known bytes : List ℕ) (new : Option (List ℕ)) → Consumes (Some known) new bytes → length bytes ≤ length known
fits_in known bytes None h = absurd h
fits_in known bytes (Some left) h = let long = ap length h in omega (arith, long, length-append bytes left)

module _ {R : Type 0} (remaining : R → Option (List ℕ)) where
  -- the texts that were read are those that are known
  known_texts : (olds news : List R) (texts known : List (List ℕ)) → ReadEach remaining olds news texts → AreKnown remaining olds known → texts ≡ known
  known_texts [] [] [] [] each h = refl
  known_texts [] [] [] (k ∷ ks) each h = cc h
  known_texts (o ∷ olds) (n ∷ news) (t ∷ texts) known each h =
      let first = head_known remaining o olds known h in
      let same : t ≡ first.0 = whole_known (remaining o) (remaining n) first.0 t first.2 each.0 in
      let rest : texts ≡ first.1 = known_texts olds news texts first.1 each.1 (ap (drop 1) (h ∙ ap (map Some) first.3)) in
      (λ i. same i ∷ rest i) ∙ sym first.3
  known_texts [] [] (t ∷ texts) known each h = absurd each
  known_texts [] (n ∷ news) texts known each h = absurd each
  known_texts (o ∷ olds) [] texts known each h = absurd each
  known_texts (o ∷ olds) (n ∷ news) [] known each h = absurd each

  pub each_length : (olds news : List R) (texts : List (List ℕ)) → ReadEach remaining olds news texts → length olds ≡ length texts
  each_length [] [] [] each = refl
  each_length (o ∷ olds) (n ∷ news) (t ∷ texts) each = ap suc (each_length olds news texts each.1)
  each_length [] [] (t ∷ texts) each = absurd each
  each_length [] (n ∷ news) texts each = absurd each
  each_length (o ∷ olds) [] texts each = absurd each
  each_length (o ∷ olds) (n ∷ news) [] each = absurd each

  -- the reader behind those that were read whole, and what it has left
  split_known : (front front' : List R) (texts : List (List ℕ)) (file : R) (behind : List R) (known : List (List ℕ)) → ReadEach remaining front front' texts
      → AreKnown remaining (front ++ file ∷ behind) known
      → (bytes : List ℕ) × (more : List (List ℕ)) × (remaining file ≡ Some bytes) × (known ≡ texts ++ bytes ∷ more)
  split_known [] [] [] file behind known each h = head_known remaining file behind known h
  split_known (o ∷ olds) (n ∷ news) (t ∷ texts) file behind known each h =
      let first = head_known remaining o (olds ++ file ∷ behind) known h in
      let same : first.0 ≡ t = sym (whole_known (remaining o) (remaining n) first.0 t first.2 each.0) in
      let rest = split_known olds news texts file behind first.1 each.1 (ap (drop 1) (h ∙ ap (map Some) first.3)) in
      (rest.0, rest.1, rest.2, first.3 ∙ (λ i. same i ∷ rest.3 i))
  split_known [] [] (t ∷ texts) file behind known each h = absurd each
  split_known [] (n ∷ news) texts file behind known each h = absurd each
  split_known (o ∷ olds) [] texts file behind known each h = absurd each
  split_known (o ∷ olds) (n ∷ news) [] file behind known each h = absurd each

  module _ (most n : ℕ) (olds news : List R) (known : List (List ℕ)) (h : AreKnown remaining olds known) (P : List ℕ → Type 0)
      (e : EndsAt remaining most n olds news P) where
    at : (bytes : List ℕ) × (more : List (List ℕ)) × (remaining e.file ≡ Some bytes) × (known ≡ e.texts ++ bytes ∷ more)
    at = split_known e.front e.front' e.texts e.file e.behind known e.each (subst (λ readers. AreKnown remaining readers known) e.was h)

    number : 1 + length e.texts ≡ n
    number = let count = e.number in let same = each_length e.front e.front' e.texts e.each in omega (arith, count, same)

    so_far : with_front e.texts (files_from most n (at.0 ∷ at.1)) ≡ files_from most 1 known
    so_far = ap (λ m. with_front e.texts (files_from most m (at.0 ∷ at.1))) (sym number) ∙ sym (files_behind most 1 e.texts (at.0 ∷ at.1) e.within)
        ∙ ap (files_from most 1) (sym at.3)

    ends_long : ((bytes : List ℕ) → P bytes → most < length bytes) → files_from most 1 known ≡ Err (file_long n)
    ends_long long =
        let read = subst (λ left. Consumes left (remaining e.file') e.seen.0) at.2 e.seen.1 in
        let over : most < length at.0 = omega (arith, fits_in at.0 e.seen.0 (remaining e.file') read, long e.seen.0 e.seen.2) in
        too_long most e.texts n at.0 at.1 (files_from most 1 known) over so_far

    ends_later : Fails (Read n) (files_from most 1 known)
    ends_later = subst (Fails (Read n)) so_far (AllLater-front n e.texts (files_from most n (at.0 ∷ at.1)) (AllLater-files most n (at.0 ∷ at.1)))

  -- the fault of the reading is one of what is known
  known_ends : (most : ℕ) (olds news : List R) (fault : RunFault) (known : List (List ℕ)) → AreKnown remaining olds known
      → FilesEnd remaining most olds news fault → Fails fault (files_from most 1 known)
  known_ends most olds news (FileLong n) known h e = ends_long most n olds news known h _ e (λ bytes long. long)
  known_ends most olds news (Read n) known h e = ends_later most n olds news known h _ e
  known_ends most olds news Memory known h e = tt
  known_ends most olds news (Files wanted given) known h e = absurd e
  known_ends most olds news (Config fault) known h e = absurd e
  known_ends most olds news ConfigLong known h e = absurd e
  known_ends most olds news (Log who fault) known h e = absurd e
  known_ends most olds news (JournalLine n) known h e = absurd e
  known_ends most olds news JournalFull known h e = absurd e
  known_ends most olds news (RecordsDisagree who) known h e = absurd e
  known_ends most olds news Write known h e = absurd e
  known_ends most olds news (Differs n) known h e = absurd e
  known_ends most olds news (Capture n fault) known h e = absurd e
  known_ends most olds news (Otherwise told) known h e = absurd e

-- ---- the text that is made of the files

abbrev unmade : RunFault → Result (Vec (Vec ℕ)) RunFault
unmade fault = Err fault

same_fault : (e f : RunFault) → unmade e ≡ unmade f → e ≡ f
same_fault e f h = cc

-- memory was refused before a file was read
pub refused_before : {R : Type 0} (remaining : R → Option (List ℕ)) (most : ℕ) (files : List R) → 0 < length files → FilesEnd remaining most files files Memory
unfolding files_from
refused_before remaining most [] some = absurd (omega (arith, some))
refused_before remaining most (file ∷ files) some = (
  1,
  record {
    front = [];
    front' = [];
    file = file;
    file' = file;
    behind = files;
    was = refl;
    is = refl;
    number = refl;
    texts = [];
    each = tt;
    within = refl;
    seen = ([], Consumes-nil (remaining file), omega arith);
  },
)

-- what the files give is answered for what was read of them
pub files_give : {R : Type 0} (remaining : R → Option (List ℕ)) (job : Job) (setup : RawSetup) (old new : List R) (result : Result (Vec (Vec ℕ)) RunFault)
    → ((n : ℕ) → result ≢ Err (Read n)) → (P : List (List ℕ) → Type 0) (read : FilesRead remaining (limit job) old new P)
    → GivesText job (inputs setup read.texts) (answered result)
    → FilesGive remaining job setup old new (answered result)
files_give remaining job setup old new (Ok parts) device P read gives = record { texts = read.texts; each = read.each; within = read.within; holds = gives }
files_give remaining job setup old new (Err fault) device P read gives =
    inr (λ n is. device n (ap unmade is), record { texts = read.texts; each = read.each; within = read.within; holds = gives })

-- and for what was kept of it
pub texts_give : {R : Type 0} (remaining : R → Option (List ℕ)) (job : Job) (setup : RawSetup) (old new : List R) (result : Result (Vec (Vec ℕ)) RunFault)
    → ((n : ℕ) → result ≢ Err (Read n)) → (texts : List (List ℕ)) (read : FilesRead remaining (limit job) old new (λ read. read ≡ texts))
    → GivesText job (inputs setup texts) (answered result)
    → FilesGive remaining job setup old new (answered result)
texts_give remaining job setup old new result device texts read gives =
    files_give remaining job setup old new result device (λ read. read ≡ texts) read
    (subst (λ t. GivesText job (inputs setup t) (answered result)) (sym read.holds) gives)

-- each text was kept as it is
pub kept_texts : (texts : List (Vec ℕ)) (read : List (List ℕ)) → AreTaken (λ text bytes. text.items ≡ bytes) texts read → read ≡ map (λ text. text.items) texts
kept_texts [] [] h = refl
kept_texts (t ∷ ts) (x ∷ xs) h = let rest = kept_texts ts xs h.1 in (λ i. sym h.0 i ∷ rest i)
kept_texts [] (x ∷ xs) h = absurd h
kept_texts (t ∷ ts) [] h = absurd h

-- the setup for which a journal is taken, and what was taken of it
abbrev aim_of : LineTaker Replaying → RawSetup
aim_of taker = taker.lines.setup.now

abbrev TookJournal : LineTaker Replaying → List ℕ → Type 0
TookJournal taker text = LinesTaken (HasTaken taker.lines.setup.now taker.lines.replay) taker.begun.items text

-- the one taker is still one, for the same setup, and has taken the one text
pub journal_read : (takers olds front : List (LineTaker Replaying)) (old taker : LineTaker Replaying) → map aim_of takers ≡ map aim_of olds
    → olds ≡ front ++ old ∷ [] → front ≡ []
    → taker ≡ slice_index_or takers 0 taker
    → (texts : List (List ℕ)) → AreTaken TookJournal takers texts → IsReplayedTo (aim_of old) taker.lines.replay taker.begun.items texts
journal_read takers olds front old taker aims pushed none is texts taken =
    only takers (aims ∙ ap (map aim_of) (pushed ∙ ap (λ l. l ++ old ∷ []) none)) is texts taken
  where
    only : (ts : List (LineTaker Replaying)) → map aim_of ts ≡ aim_of old ∷ [] → taker ≡ slice_index_or ts 0 taker
        → (read : List (List ℕ)) → AreTaken TookJournal ts read → IsReplayedTo (aim_of old) taker.lines.replay taker.begun.items read
    only [] same at read h = cc same
    only (t ∷ []) same at [] h = absurd h
    only (t ∷ []) same at (text ∷ []) h =
        let setup : aim_of taker ≡ aim_of old = ap aim_of at ∙ ap (λ xs. slice_index_or xs 0 (aim_of t)) same in
        let mine : TookJournal taker text = subst (λ x. TookJournal x text) (sym at) h.0 in
        (text, refl, subst (λ s. LinesTaken (HasTaken s taker.lines.replay) taker.begun.items text) setup mine)
    only (t ∷ []) same at (text ∷ other ∷ more) h = absurd h.1
    only (t ∷ u ∷ ts) same at read h = cc same

pub FilesRead-map : {R : Type 0} (remaining : R → Option (List ℕ)) (most : ℕ) (old new : List R) (P Q : List (List ℕ) → Type 0)
    → ((texts : List (List ℕ)) → P texts → Q texts) → FilesRead remaining most old new P → FilesRead remaining most old new Q
FilesRead-map remaining most old new P Q more read = record {
  texts = read.texts;
  each = read.each;
  within = read.within;
  holds = more read.texts read.holds;
}

-- the clauses of a text that is made or isn't
pub record IsMade {R : Type 0} (remaining : R → Option (List ℕ)) (job : Job) (config config' : R) (files files' : List R)
    (made : Result (Vec (Vec ℕ)) RunFault) : Type 0 where
  pub answer : WhereKnown remaining job config files (λ said. GivesRun job said (answered made))
  pub device : NamesAFile (length files) made
  pub config_first : ReadsConfigFirst (remaining config') made
  pub reads : IfOk made (λ parts. ReadToEnd remaining job config config' files files' (λ said. GivesRun job said (Ok (joined parts))))
  pub stops : IfErr made (TextStops remaining job config config' files files')

module _ {R : Type 0} (remaining : R → Option (List ℕ)) (job : Job) (config config' : R) (files files' : List R) (setup : RawSetup)
    (says : SaysSetup (remaining config) (remaining config') setup) (count : wanted job setup ≡ length files) where
  known_setup : (bytes : List ℕ) → remaining config ≡ Some bytes → config_of bytes ≡ Ok setup
  known_setup bytes is = subst (λ b. config_of b ≡ Ok setup) (whole_known (remaining config) (remaining config') bytes says.bytes is says.read) says.says

  -- what is known is what was read
  module _ (P : List (List ℕ) → Type 0) (read : FilesRead remaining (limit job) files files' P) where
    said_is : (bytes : List ℕ) (known : List (List ℕ)) → remaining config ≡ Some bytes → AreKnown remaining files known
        → read_of job bytes known ≡ Ok (inputs setup read.texts)
    said_is bytes known is are =
        read_whole job bytes known setup (known_setup bytes is) (count ∙ AreKnown-length remaining files known are) read.texts
        (subst (λ texts. files_from (limit job) 1 texts ≡ Ok read.texts) (known_texts remaining files files' read.texts known read.each are) read.within)

    read_to_end : (Q : Result Inputs Refusal → Type 0) → Q (Ok (inputs setup read.texts)) → ReadToEnd remaining job config config' files files' Q
    read_to_end Q holds = record {
      bytes = says.bytes;
      read = says.read;
      texts = read.texts;
      each = read.each;
      says = subst Q (sym (read_whole job says.bytes read.texts setup says.says (count ∙ each_length remaining files files' read.texts read.each) read.texts read.within))
          holds;
    }

  -- a fault that came in reading the files
  ends_device : (fault : RunFault) (n : ℕ) → fault ≡ Read n → FilesEnd remaining (limit job) files files' fault → n ≤ length files
  ends_device fault n is ends = ends_within remaining (limit job) n files files' _ (subst (FilesEnd remaining (limit job) files files') is ends)

  pub files_made : (made : Result (Vec (Vec ℕ)) RunFault) → FilesGive remaining job setup files files' (answered made)
      → IsMade remaining job config config' files files' made
  files_made (Ok parts) read = record {
    answer = λ bytes known is are. subst (λ said. GivesRun job said (Ok (joined parts))) (sym (said_is _ read bytes known is are)) read.holds;
    device = λ n is. cc is;
    config_first = λ n is some. cc is;
    reads = read_to_end _ read (λ said. GivesRun job said (Ok (joined parts))) read.holds;
    stops = tt;
  }
  files_made (Err fault) (inl ends) = record {
    answer = λ bytes known is are.
        inl (read_fails job bytes known setup (known_setup bytes is) (count ∙ AreKnown-length remaining files known are) fault
        (known_ends remaining (limit job) files files' fault known are ends));
    device = λ n is. ends_device fault n (same_fault fault (Read n) is) ends;
    config_first = λ n is some. says.read.1;
    reads = tt;
    stops = inl (inr (record { setup = setup; says = says; ends = inr (count, ends) }));
  }
  files_made (Err fault) (inr read) = record {
    answer = λ bytes known is are. subst (λ said. GivesRun job said (Err fault)) (sym (said_is _ read.1 bytes known is are)) (inr read.1.holds);
    device = λ n is. absurd (read.0 n (same_fault fault (Read n) is));
    config_first = λ n is some. says.read.1;
    reads = tt;
    stops = inr (read.0, read_to_end _ read.1 (λ said. GivesRun job said (Err fault)) (inr read.1.holds));
  }

-- the config isn't one of the files
pub files_no_config : {R : Type 0} (remaining : R → Option (List ℕ)) (job : Job) (setup : RawSetup) (old new : List R) (made : Result (Vec (Vec ℕ)) RunFault)
    → FilesGive remaining job setup old new (answered made) → fault_in made ≢ Some (Read 0)
files_no_config remaining job setup old new (Ok parts) gives is = cc
files_no_config remaining job setup old new (Err fault) (inl ends) is =
    let at = subst (FilesEnd remaining (limit job) old new) (some_same fault (Read 0) is) ends in
    let number = at.number in omega (arith, number)
files_no_config remaining job setup old new (Err fault) (inr read) is = absurd (read.0 0 (some_same fault (Read 0) is))
