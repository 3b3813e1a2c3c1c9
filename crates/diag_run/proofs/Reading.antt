-- Reading files one after the other, as a loop does.
use Rattle.std.proofs.Common.{subst, suc, ◌≡◌, ℕ, ◌+◌, ◌≤◌, ◌<◌, length, take, drop, set, get_or, map, List, [], ◌∷◌, ◌++◌, Option, Some, Result, Ok, Err, refl, sym, ap, ◌∙◌, take-append-drop, length-append, arith, le-leb, nat_le, false}
use Rattle.std.proofs.lemmas.List.{drop_more, drop-set-lt, length-take-le, set_split, take_more, take_more_set, length-map}
use Rattle.std.proofs.lemmas.Bool.Decides.{nat_tests}
use Rattle.std.proofs.lemmas.List.Elements.{All-head, All-tail}
use Rattle.std.specs.List.{All}
use Rattle.std.proofs.KnownBytes.{Consumes-whole}
use Rattle.diag_config.specs.Key.{◌>>=◌}
use Rattle.diag_text.specs.Bytes.{ReadWhole, Takes}
use Rattle.diag_run.specs.Files.{Refusal, file_long, AreKnown, AreTaken, EndsAt, ReadEach, files_from}

-- what was read before, and what is still read
abbrev pub with_front : {A : Type 0} → List A → Result (List A) Refusal → Result (List A) Refusal
with_front front said = said >>= λ others. Ok (front ++ others)

-- ---- the reader at a place, and what it has left

module _ {R : Type 0} (remaining : R → Option (List ℕ)) where
  pub head_known : (x : R) (rest : List R) (known : List (List ℕ)) → remaining x ∷ map remaining rest ≡ map Some known
      → (bytes : List ℕ) × (more : List (List ℕ)) × (remaining x ≡ Some bytes) × (known ≡ bytes ∷ more)
  head_known x rest [] e = cc
  head_known x rest (b ∷ more) e = (b, more, cc, refl)

  pub AreKnown-length : (readers : List R) (known : List (List ℕ)) → AreKnown remaining readers known → length readers ≡ length known
  AreKnown-length readers known h = simp length-map at (ap length h)

-- all that was read of a reader is what it had left
pub whole_known : (old new : Option (List ℕ)) (bytes text : List ℕ) → old ≡ Some bytes → ReadWhole old new text → text ≡ bytes
whole_known old new bytes text is read = rw is at (Consumes-whole old new text (λ known. text ≡ known) read.0 read.1 refl)

-- ---- one more file

module _ (limit : ℕ) (front : List (List ℕ)) (n : ℕ) (bytes : List ℕ) (more : List (List ℕ)) (total : Result (List (List ℕ)) Refusal) where
  pub too_long : limit < length bytes → with_front front (files_from limit n (bytes ∷ more)) ≡ total → total ≡ Err (file_long n)
  unfolding files_from
  too_long long so_far =
      let no : nat_le (length bytes) limit ≡ false = grind (arith, nat_tests) in
      let one : with_front front (files_from limit n (bytes ∷ more)) ≡ Err (file_long n) = rw no refl in
      sym so_far ∙ one

-- ---- what was read of each reader

module _ {R : Type 0} (remaining : R → Option (List ℕ)) where
  ReadEach-push : (olds news : List R) (texts : List (List ℕ)) (old new : R) (text : List ℕ) → ReadEach remaining olds news texts
      → ReadWhole (remaining old) (remaining new) text
      → ReadEach remaining (olds ++ old ∷ []) (news ++ new ∷ []) (texts ++ text ∷ [])
  ReadEach-push [] [] [] old new text each one = (one, tt)
  ReadEach-push (o ∷ olds) (n ∷ news) (t ∷ texts) old new text each one = (each.0, ReadEach-push olds news texts old new text each.1 one)
  ReadEach-push [] [] (t ∷ texts) old new text each one = absurd each
  ReadEach-push [] (n ∷ news) texts old new text each one = absurd each
  ReadEach-push (o ∷ olds) [] texts old new text each one = absurd each
  ReadEach-push (o ∷ olds) (n ∷ news) [] old new text each one = absurd each

  -- reader i was read whole behind those before it
  pub one_read_more : (olds files : List R) (i : ℕ) (new : R) (texts : List (List ℕ)) (text : List ℕ) → length files ≡ length olds
      → drop i files ≡ drop i olds → (d : R) → i < length files
      → ReadEach remaining (take i olds) (take i files) texts → ReadWhole (remaining (get_or files i d)) (remaining new) text
      → ReadEach remaining (take (i + 1) olds) (take (i + 1) (set files i new)) (texts ++ text ∷ [])
  one_read_more olds files i new texts text same rest d lt each one =
      let lt' : i < length olds = omega (arith, same) in
      let here : get_or files i d ≡ get_or olds i d =
      let heads : get_or files i d ∷ drop (i + 1) files ≡ get_or olds i d ∷ drop (i + 1) olds = sym (drop_more files i d lt) ∙ rest ∙ drop_more olds i d lt' in
      cc in
      rw (take_more olds i d lt', take_more_set files i new lt)
      (ReadEach-push (take i olds) (take i files) texts (get_or olds i d) new text each (rw (sym here) one))

-- ---- what took them

module _ {T : Type 0} (took : T → List ℕ → Type 0) where
  AreTaken-push : (takers : List T) (texts : List (List ℕ)) (taker : T) (text : List ℕ) → AreTaken took takers texts → took taker text
      → AreTaken took (takers ++ taker ∷ []) (texts ++ text ∷ [])
  AreTaken-push [] [] taker text each one = (one, tt)
  AreTaken-push (t ∷ takers) (x ∷ texts) taker text each one = (each.0, AreTaken-push takers texts taker text each.1 one)
  AreTaken-push [] (x ∷ texts) taker text each one = absurd each
  AreTaken-push (t ∷ takers) [] taker text each one = absurd each

  -- taker i has taken its text behind those before it
  pub one_taken_more : (takers : List T) (i : ℕ) (new : T) (texts : List (List ℕ)) (text : List ℕ) → i < length takers → AreTaken took (take i takers) texts
      → took new text
      → AreTaken took (take (i + 1) (set takers i new)) (texts ++ text ∷ [])
  one_taken_more takers i new texts text lt each one = rw (take_more_set takers i new lt) (AreTaken-push (take i takers) texts new text each one)

  -- and those from i on have taken nothing
  pub next_begun : (takers : List T) (i : ℕ) (d : T) → i < length takers → All (λ taker. took taker []) (drop i takers) → took (get_or takers i d) []
  next_begun takers i d lt begun =
      All-head (λ taker. took taker []) (get_or takers i d) (drop (i + 1) takers) (subst (All (λ taker. took taker [])) (drop_more takers i d lt) begun)

  pub others_begun : (takers : List T) (i : ℕ) (new d : T) → i < length takers → All (λ taker. took taker []) (drop i takers)
      → All (λ taker. took taker []) (drop (i + 1) (set takers i new))
  others_begun takers i new d lt begun =
      subst (All (λ taker. took taker [])) (sym (drop-set-lt (i + 1) takers i new (omega arith)))
      (All-tail (λ taker. took taker []) (get_or takers i d) (drop (i + 1) takers) (subst (All (λ taker. took taker [])) (drop_more takers i d lt) begun))

-- texts that are all within the limit are read as they are
pub all_within : (limit n : ℕ) (texts : List (List ℕ)) → All (λ text. length text ≤ limit) texts → files_from limit n texts ≡ Ok texts
unfolding files_from
all_within limit n [] fits = refl
all_within limit n (t ∷ ts) fits =
    let head : length t ≤ limit = All-head (λ text. length text ≤ limit) t ts fits in
    let rest : files_from limit (n + 1) ts ≡ Ok ts = all_within limit (n + 1) ts (All-tail (λ text. length text ≤ limit) t ts fits) in
    rw (le-leb (length t) limit head, rest) refl

-- the reading ended at reader i, behind those before it
pub ends_at : {R : Type 0} (remaining : R → Option (List ℕ)) (limit : ℕ) (olds files : List R) (i : ℕ) (new : R) (texts : List (List ℕ))
    → length files ≡ length olds → drop i files ≡ drop i olds → (d : R)
    → i < length files → ReadEach remaining (take i olds) (take i files) texts → All (λ text. length text ≤ limit) texts
    → (P : List ℕ → Type 0) → Takes (remaining (get_or files i d)) (remaining new) P → EndsAt remaining limit (i + 1) olds (set files i new) P
ends_at {R} remaining limit olds files i new texts same rest d lt each fits P seen =
    let lt' : i < length olds = omega (arith, same) in
    let next : suc i ≡ i + 1 = omega arith in
    record {
      front = take i olds;
      front' = take i files;
      file = get_or files i d;
      file' = new;
      behind = drop (i + 1) files;
      was = sym (take-append-drop i olds) ∙ ap (λ (l : List R). take i olds ++ l) (sym rest ∙ drop_more files i d lt);
      is = set_split files i new lt ∙ ap (λ n. take i files ++ new ∷ drop n files) next;
      number = ap (λ n. n + 1) (sym (length-take-le i olds (omega arith)));
      texts = texts;
      each = each;
      within = all_within limit 1 texts fits;
      seen = seen;
    }

-- the reader at which it ended is one of them
pub ends_within : {R : Type 0} (remaining : R → Option (List ℕ)) (limit n : ℕ) (olds news : List R) (P : List ℕ → Type 0)
    → EndsAt remaining limit n olds news P → n ≤ length olds
ends_within remaining limit n olds news P at =
    omega (arith, at.number, ap length at.was, length-append at.front (at.file ∷ at.behind))
