-- Which faults are met before a file is read.
use Rattle.std.proofs.Common.{◌≡◌, ℕ, ◌+◌, false, nat_le, nat_lt, length, List, [], ◌∷◌, Result, Ok, Err, IfErr, refl, arith, inl, inr}
use Rattle.std.proofs.lemmas.Bool.{cases_Bool}
use Rattle.std.proofs.lemmas.Bool.Decides.{nat_tests}
use Rattle.diag_config.specs.Key.{◌>>=◌}
use Rattle.diag_run.specs.Files.{Refusal, config_long, bad_config, wrong_count, file_long, bad_log, is_before, within, files_from}
use Rattle.diag_run.proofs.Reading.{with_front}

not_below_itself : (m : ℕ) → nat_lt m m ≡ false
not_below_itself m = grind (arith, nat_tests)

below_less : (m n : ℕ) → nat_lt m (n + 1) ≡ false → nat_lt m n ≡ false
below_less m n h = grind (arith, nat_tests)

is_before-less : (n : ℕ) (f : Refusal) → is_before (n + 1) f ≡ false → is_before n f ≡ false
is_before-less n config_long h = below_less 0 n h
is_before-less n (bad_config fault) h = below_less 0 n h
is_before-less n (wrong_count wanted given) h = below_less 0 n h
is_before-less n (file_long m) h = below_less m n h
is_before-less n (bad_log who fault) h = refl

-- no fault of the result is met before file n is read
abbrev pub AllLater : {A : Type 0} → ℕ → Result A Refusal → Type 0
AllLater n said = IfErr said (λ f. is_before n f ≡ false)

pub AllLater-bind : {A B : Type 0} (n : ℕ) (said : Result A Refusal) (next : A → Result B Refusal) → AllLater n said → ((x : A) → AllLater n (next x))
    → AllLater n (said >>= next)
AllLater-bind n (Ok x) next h more = more x
AllLater-bind n (Err f) next h more = h

AllLater-less : {A : Type 0} (n : ℕ) (said : Result A Refusal) → AllLater (n + 1) said → AllLater n said
AllLater-less n (Ok x) h = tt
AllLater-less n (Err f) h = is_before-less n f h

AllLater-within : (limit n : ℕ) (bytes : List ℕ) → AllLater n (within limit (file_long n) bytes)
AllLater-within limit n bytes =
    elim (cases_Bool (nat_le (length bytes) limit)) [
      | inl fits ↦ rw fits tt
      | inr long ↦ rw long (not_below_itself n)
    ]

-- the faults of the files from n on are met from n on
pub AllLater-files : (limit n : ℕ) (files : List (List ℕ)) → AllLater n (files_from limit n files)
unfolding files_from
AllLater-files limit n [] = tt
AllLater-files limit n (f ∷ fs) =
    AllLater-bind n (within limit (file_long n) f) _ (AllLater-within limit n f)
    (λ first. AllLater-bind n (files_from limit (n + 1) fs) _ (AllLater-less n (files_from limit (n + 1) fs) (AllLater-files limit (n + 1) fs)) (λ others. tt))

pub AllLater-front : {A : Type 0} (n : ℕ) (front : List A) (said : Result (List A) Refusal) → AllLater n said → AllLater n (with_front front said)
AllLater-front n front said h = AllLater-bind n said _ h (λ others. tt)
