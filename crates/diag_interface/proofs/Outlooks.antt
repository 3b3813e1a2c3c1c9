-- What a reader still has to give, step by step.
use Rattle.std.proofs.Common.{◌≡◌, ℕ, nat_lt, Bool, true, false, List, [], ◌∷◌, ◌++◌, length, Option, None, Some, option_map, sym, ap, ◌∙◌, append_assoc, arith}
use Rattle.std.specs.Prelude.{◌||◌}
use Rattle.std.proofs.lemmas.List.{append-nil}
use Rattle.std.proofs.lemmas.Bool.Decides.{nat_tests}
use Rattle.std.specs.Io.KnownBytes.{Consumes, IsAtEnd, Keeps}
use Rattle.diag_can.specs.BusLine.{HasNoFeed}
use Rattle.diag_interface.specs.Interface.{only_text}
use Rattle.diag_interface.specs.Only.{rest_of, turned}
use Rattle.diag_interface.proofs.Texts.{ends, first_line, goes_on, last_line, no_rest, nothing, too_long}

module _ (name : List ℕ) where
  whole_line : (long : Bool) (line more : List ℕ) → HasNoFeed line → rest_of name long (line ++ 10 ∷ more) ≡ turned name long line ++ 10 ∷ only_text name more
  whole_line true line more none = ends name line more none
  whole_line false line more none = first_line name line more none

  begun : (long : Bool) (line : List ℕ) → HasNoFeed line → rest_of name long line ≡ turned name long line
  begun true line none = no_rest name line none
  begun false line none = last_line name line none

  -- a whole line was turned
  pub line_turned : (long : Bool) (ready ready' raw raw' line rest : List ℕ) → HasNoFeed line → raw ≡ line ++ 10 ∷ raw'
      → ready' ≡ ready ++ (turned name long line ++ 10 ∷ [])
      → ready' ++ rest_of name false (raw' ++ rest) ≡ ready ++ rest_of name long (raw ++ rest)
  line_turned long ready ready' raw raw' line rest none is grown =
      let after = only_text name (raw' ++ rest) in
      let text : raw ++ rest ≡ line ++ 10 ∷ (raw' ++ rest) = ap (λ (t : List ℕ). t ++ rest) is ∙ append_assoc line (10 ∷ raw') rest in
      ap (λ (t : List ℕ). t ++ after) grown
      ∙ (append_assoc ready (turned name long line ++ 10 ∷ []) after
      ∙ ap (λ (t : List ℕ). ready ++ t)
      (append_assoc (turned name long line) (10 ∷ []) after ∙ sym (ap (rest_of name long) text ∙ whole_line long line (raw' ++ rest) none)))

  long_goes : (long : Bool) (raw rest : List ℕ) → HasNoFeed raw → (long || nat_lt 4096 (length raw)) ≡ true
      → rest_of name long (raw ++ rest) ≡ raw ++ rest_of name true rest
  long_goes true raw rest none long = goes_on name raw rest none
  long_goes false raw rest none long = too_long name raw rest none (grind (arith, nat_tests, long))

  -- the front of a long line was passed
  pub long_passed : (long : Bool) (ready ready' raw raw' rest : List ℕ) → HasNoFeed raw → (long || nat_lt 4096 (length raw)) ≡ true
      → raw' ≡ [] → ready' ≡ ready ++ raw
      → ready' ++ rest_of name true (raw' ++ rest) ≡ ready ++ rest_of name long (raw ++ rest)
  long_passed long ready ready' raw raw' rest none over empty grown =
      ap (λ (t : List ℕ). ready' ++ rest_of name true (t ++ rest)) empty
      ∙ (ap (λ (t : List ℕ). t ++ rest_of name true rest) grown
      ∙ (append_assoc ready raw (rest_of name true rest) ∙ ap (λ (t : List ℕ). ready ++ t) (sym (long_goes long raw rest none over))))

  -- the last line was turned
  pub last_turned : (long : Bool) (ready ready' raw raw' : List ℕ) → HasNoFeed raw → raw' ≡ [] → ready' ≡ ready ++ turned name long raw
      → ready' ++ rest_of name false (raw' ++ []) ≡ ready ++ rest_of name long (raw ++ [])
  last_turned long ready ready' raw raw' none empty grown =
      ap (λ (t : List ℕ). ready' ++ rest_of name false (t ++ [])) empty
      ∙ (ap (λ (t : List ℕ). ready' ++ t) (nothing name) ∙ (append-nil ready'
      ∙ (grown ∙ ap (λ (t : List ℕ). ready ++ t) (sym (ap (rest_of name long) (append-nil raw) ∙ begun long raw none)))))

  -- and nothing is left
  pub nothing_left : (ready' raw' : List ℕ) → raw' ≡ [] → ready' ≡ [] → ready' ++ rest_of name false (raw' ++ []) ≡ []
  nothing_left ready' raw' empty none =
      ap (λ (t : List ℕ). ready' ++ rest_of name false (t ++ [])) empty
      ∙ (ap (λ (t : List ℕ). ready' ++ t) (nothing name) ∙ (append-nil ready' ∙ none))

-- ---- known bytes

module _ (f g : List ℕ → List ℕ) where
  pub keeps : (a b : Option (List ℕ)) → b ≡ a → ((rest : List ℕ) → g rest ≡ f rest) → Keeps (option_map f a) (option_map g b)
  keeps None b same each = tt
  keeps (Some xs) b same each = rw same (each xs)

  pub keeps_more : (a b : Option (List ℕ)) → Keeps a b → ((rest : List ℕ) → g rest ≡ f rest) → Keeps (option_map f a) (option_map g b)
  keeps_more None b same each = tt
  keeps_more (Some xs) None same each = absurd same
  keeps_more (Some xs) (Some ys) same each = each ys ∙ ap f same

  pub keeps_read : (a b : Option (List ℕ)) (more : List ℕ) → Consumes a b more → ((rest : List ℕ) → g rest ≡ f (more ++ rest))
      → Keeps (option_map f a) (option_map g b)
  keeps_read None b more took each = tt
  keeps_read (Some xs) None more took each = absurd took
  keeps_read (Some xs) (Some ys) more took each = each ys ∙ ap f (sym took)

  pub keeps_end : (a : Option (List ℕ)) → IsAtEnd a → g [] ≡ f [] → Keeps (option_map f a) (option_map g a)
  keeps_end None end same = tt
  keeps_end (Some xs) end same = ap g end ∙ (same ∙ ap f (sym end))

pub ended : (g : List ℕ → List ℕ) (a : Option (List ℕ)) → IsAtEnd a → g [] ≡ [] → IsAtEnd (option_map g a)
ended g None end none = tt
ended g (Some xs) end none = ap g end ∙ none

-- the first of what is ready was given
pub gave : (f : List ℕ → List ℕ) (front ready ready' : List ℕ) (a : Option (List ℕ)) → ready ≡ front ++ ready'
    → Consumes (option_map (λ rest. ready ++ f rest) a) (option_map (λ rest. ready' ++ f rest) a) front
gave f front ready ready' None is = tt
gave f front ready ready' (Some xs) is = ap (λ (t : List ℕ). t ++ f xs) is ∙ append_assoc front ready' (f xs)

pub keeps_then : (a b c : Option (List ℕ)) (bytes : List ℕ) → Keeps a b → Consumes b c bytes → Consumes a c bytes
keeps_then None b c bytes same took = tt
keeps_then (Some xs) None c bytes same took = absurd same
keeps_then (Some xs) (Some ys) c bytes same took = rw (← same) took
