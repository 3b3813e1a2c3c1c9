-- What is answered of failed reads and writes, through the calls that pass it on.
use Rattle.std.proofs.Common.{suc, ◌≡◌, ◌≢◌, ℕ, ◌+◌, ◌<◌, ◌≤◌, length, take, drop, set, get_or, List, [], ◌∷◌, ◌++◌, Option, Some, None, Result, Ok, Err, sym, ap, subst, ◌∙◌, take-append-drop, arith}
use Rattle.std.proofs.lemmas.List.{drop_more, length-take-le, set_split, take_more, take_more_set}
use Rattle.std.specs.Global.{Vec}
use Rattle.diag_text.specs.declared.fault.RunFault.{RunFault}
use Rattle.diag_text.specs.declared.fault.RunFault.TheVariants.{Memory, Read, Write}
use Rattle.diag_run.specs.Devices.{TellsDevice, TellsFrom, fault_in}
use Rattle.diag_run.specs.Run.{Writes, answered}

-- a fault that is passed on is the one that is answered
pub passed_on : {X Y : Type 0} (told : Result X RunFault) (passed : Result Y RunFault) (a b : RunFault) → told ≡ Err a → passed ≡ Err b → b ≡ a
    → fault_in told ≡ fault_in passed
passed_on told passed a b was is same = ap fault_in was ∙ ap (λ f. Some f) (sym same) ∙ sym (ap fault_in is)

pub some_same : (a b : RunFault) → Some a ≡ Some b → a ≡ b
some_same a b is = cc

pub unread : {X : Type 0} (told : Result X RunFault) → ((n : ℕ) → told ≢ Err (Read n)) → (n : ℕ) → fault_in told ≢ Some (Read n)
unread (Ok x) device n is = cc
unread (Err fault) device n is = device n (ap (λ f. Err f) (some_same fault (Read n) is))

-- the same of the fault that is answered
pub told_as : {X : Type 0} (result : Result X RunFault) (fault : RunFault) (P Q : Type 0) → (result ≡ Err fault → P) → (result ≢ Err fault → Q)
    → (fault_in result ≡ Some fault → P) × (fault_in result ≢ Some fault → Q)
told_as (Ok x) fault P Q fails stays = (λ is. cc, λ other. stays (λ is. cc))
told_as (Err a) fault P Q fails stays = (
  λ is. fails (ap (λ f. Err f) (some_same a fault is)),
  λ other. stays (λ is. other (ap fault_in is)),
)

-- memory was refused
pub refused_is : {X : Type 0} (refused : Result X RunFault) (a fault : RunFault) → refused ≡ Err a → a ≡ Memory → Memory ≢ fault → fault_in refused ≢ Some fault
refused_is refused a fault was is other same =
    other (some_same Memory fault (ap (λ f. Some f) (sym is) ∙ (sym (ap fault_in was) ∙ same)))

pub device_passed : {D X Y : Type 0} (failed sound : D → Type 0) (fault : RunFault) (old new : D) (told : Result X RunFault) (passed : Result Y RunFault) (a b : RunFault)
    → told ≡ Err a → passed ≡ Err b → b ≡ a → TellsDevice failed sound fault old new (fault_in told) → TellsDevice failed sound fault old new (fault_in passed)
device_passed failed sound fault old new told passed a b was is same tells =
    subst (TellsDevice failed sound fault old new) (passed_on told passed a b was is same) tells

-- neither is the fault of this device
pub tells_other : {D : Type 0} (failed sound : D → Type 0) (fault : RunFault) (old new : D) (came after : Option RunFault) → came ≢ Some fault → after ≢ Some fault
    → TellsDevice failed sound fault old new came → TellsDevice failed sound fault old new after
tells_other failed sound fault old new came after was is told = (λ same. absurd (is same), λ other. told.1 was)

module _ {R : Type 0} (failed sound : R → Type 0) where
  -- none of these is of a reader of those from n on
  pub reads_other : (n : ℕ) (olds news : List R) (came after : Option RunFault) → ((m : ℕ) → n ≤ m → m < n + length olds → came ≢ Some (Read m))
      → ((m : ℕ) → n ≤ m → m < n + length olds → after ≢ Some (Read m))
      → TellsFrom failed sound n olds news came → TellsFrom failed sound n olds news after
  reads_other n [] [] came after was is told = tt
  reads_other n (o ∷ olds) (w ∷ news) came after was is told = (
    tells_other failed sound (Read n) o w came after (was n (omega arith) (omega arith)) (is n (omega arith) (omega arith)) told.0,
    reads_other (n + 1) olds news came after (λ m least most. was m (omega (arith, least)) (omega (arith, most)))
        (λ m least most. is m (omega (arith, least)) (omega (arith, most))) told.1,
  )
  reads_other n [] (w ∷ news) came after was is told = absurd told
  reads_other n (o ∷ olds) [] came after was is told = absurd told

  -- files that were not touched
  pub reads_none : (n : ℕ) (files : List R) (came : Option RunFault) → ((m : ℕ) → n ≤ m → came ≢ Some (Read m)) → TellsFrom failed sound n files files came
  reads_none n [] came is = tt
  reads_none n (file ∷ files) came is = (
    (λ same. absurd (is n (omega arith) same), λ other sound. sound),
    reads_none (n + 1) files came (λ m least. is m (omega (arith, least))),
  )

  pub reads_untouched : (files : List R) (fault : RunFault) → ((n : ℕ) → fault ≡ Read n → n ≡ 0) → TellsFrom failed sound 1 files files (Some fault)
  reads_untouched files fault config =
      reads_none 1 files (Some fault) (λ m least is. let none = config m (some_same fault (Read m) is) in omega (arith, least, none))

  -- what is told of no read is told of another fault
  pub reads_behind : (olds news : List R) (came after : Option RunFault) → ((m : ℕ) → came ≢ Some (Read m)) → ((m : ℕ) → after ≢ Some (Read m))
      → TellsFrom failed sound 1 olds news came → TellsFrom failed sound 1 olds news after
  reads_behind olds news came after was is told = reads_other 1 olds news came after (λ m least most. was m) (λ m least most. is m) told

  pub reads_then : {X : Type 0} (olds news : List R) (after : Result X RunFault) → ((n : ℕ) → after ≢ Err (Read n)) → TellsFrom failed sound 1 olds news None
      → TellsFrom failed sound 1 olds news (fault_in after)
  reads_then olds news after device told = reads_behind olds news None (fault_in after) (λ m is. cc) (unread after device) told

  pub reads_passed : {X Y : Type 0} (olds news : List R) (told : Result X RunFault) (passed : Result Y RunFault) (a b : RunFault) → told ≡ Err a → passed ≡ Err b
      → b ≡ a → TellsFrom failed sound 1 olds news (fault_in told) → TellsFrom failed sound 1 olds news (fault_in passed)
  reads_passed olds news told passed a b was is same tells =
      subst (λ came. TellsFrom failed sound 1 olds news came) (passed_on told passed a b was is same) tells

  -- memory was refused before a read
  pub reads_refused : {X : Type 0} (files : List R) (refused : Result X RunFault) (a : RunFault) → refused ≡ Err a → a ≡ Memory
      → TellsFrom failed sound 1 files files (fault_in refused)
  reads_refused files refused a was is =
      subst (λ came. TellsFrom failed sound 1 files files came) (ap (λ f. Some f) (sym is) ∙ sym (ap fault_in was))
      (reads_untouched files Memory (λ n same. cc))

  reads_push : (n : ℕ) (olds news : List R) (old new : R) (olds' news' : List R) (came : Option RunFault) → TellsFrom failed sound n olds news came
      → TellsDevice failed sound (Read (n + length olds)) old new came → TellsFrom failed sound (n + length olds + 1) olds' news' came
      → TellsFrom failed sound n (olds ++ old ∷ olds') (news ++ new ∷ news') came
  reads_push n [] [] old new olds' news' came told one behind =
      let same : n + 0 ≡ n = omega arith in (
        subst (λ m. TellsDevice failed sound (Read m) old new came) same one,
        subst (λ m. TellsFrom failed sound (m + 1) olds' news' came) same behind,
      )
  reads_push n (o ∷ olds) (w ∷ news) old new olds' news' came told one behind =
      let same : n + suc (length olds) ≡ n + 1 + length olds = omega arith in (
        told.0,
        reads_push (n + 1) olds news old new olds' news' came told.1 (subst (λ m. TellsDevice failed sound (Read m) old new came) same one)
            (subst (λ m. TellsFrom failed sound (m + 1) olds' news' came) same behind),
      )
  reads_push n [] (w ∷ news) old new olds' news' came told one behind = absurd told
  reads_push n (o ∷ olds) [] old new olds' news' came told one behind = absurd told

  module _ (olds files : List R) (i : ℕ) (new d : R) (same : length files ≡ length olds) (rest : drop i files ≡ drop i olds) (lt : i < length files)
      (before : TellsFrom failed sound 1 (take i olds) (take i files) None) where
    here : get_or files i d ≡ get_or olds i d
    here =
        let heads : get_or files i d ∷ drop (i + 1) files ≡ get_or olds i d ∷ drop (i + 1) olds =
        sym (drop_more files i d lt) ∙ rest ∙ drop_more olds i d (omega (arith, lt, same)) in
        cc

    number : 1 + length (take i olds) ≡ i + 1
    number = let long : length (take i olds) ≡ i = length-take-le i olds (omega (arith, lt, same)) in omega (arith, long)

    -- one file more was read
    pub one_read : TellsDevice failed sound (Read (i + 1)) (get_or files i d) new None
        → TellsFrom failed sound 1 (take (i + 1) olds) (take (i + 1) (set files i new)) None
    one_read one =
        rw (take_more olds i d (omega (arith, lt, same)), take_more_set files i new lt)
        (reads_push 1 (take i olds) (take i files) (get_or olds i d) new [] [] None before
        (subst (λ m. TellsDevice failed sound (Read m) (get_or olds i d) new None) (sym number)
        (subst (λ o. TellsDevice failed sound (Read (i + 1)) o new None) here one)) tt)

    -- the reading ended at this file
    pub read_at : (came : Option RunFault) → ((m : ℕ) → came ≡ Some (Read m) → m ≡ i + 1) → TellsDevice failed sound (Read (i + 1)) (get_or files i d) new came
        → TellsFrom failed sound 1 olds (set files i new) came
    read_at came only one =
        let next : suc i ≡ i + 1 = omega arith in
        let was : take i olds ++ get_or files i d ∷ drop (i + 1) files ≡ olds =
        ap (λ (l : List R). take i olds ++ l) (sym (drop_more files i d lt) ∙ rest) ∙ take-append-drop i olds in
        let is : take i files ++ new ∷ drop (i + 1) files ≡ set files i new =
        sym (set_split files i new lt ∙ ap (λ n. take i files ++ new ∷ drop n files) next) in
        subst (λ l. TellsFrom failed sound 1 l (set files i new) came) was
        (subst (λ l. TellsFrom failed sound 1 (take i olds ++ get_or files i d ∷ drop (i + 1) files) l came) is
        (reads_push 1 (take i olds) (take i files) (get_or files i d) new (drop (i + 1) files) (drop (i + 1) files) came
        (reads_other 1 (take i olds) (take i files) None came (λ m least most is. cc)
        (λ m least most is. let at = only m is in omega (arith, most, at, number)) before)
        (subst (λ m. TellsDevice failed sound (Read m) (get_or files i d) new came) (sym number) one)
        (reads_none (1 + length (take i olds) + 1) (drop (i + 1) files) came
        (λ m least is. let at = only m is in omega (arith, least, at, number)))))

-- ---- what is written behind it

-- the fault is that of the text, or the text was made and the fault is that of the writing
pub came_or_written : (old new : Option (List ℕ)) (P : Option RunFault → Type 0) (made : Result (Vec (Vec ℕ)) RunFault) (result : Result (Unit {0}) RunFault)
    → Writes (answered made) old new result → (P None → P (Some Write)) → P (fault_in made) → P (fault_in result)
came_or_written old new P (Ok parts) (Ok u) w write told = told
came_or_written old new P (Ok parts) (Err e) w write told = subst (λ f. P (Some f)) (sym w.0) (write told)
came_or_written old new P (Err fault) (Ok u) w write told = absurd w
came_or_written old new P (Err fault) (Err e) w write told = subst (λ f. P (Some f)) w.0 told
