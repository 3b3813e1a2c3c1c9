-- What is asked of a bench and what it answers, in order.
use Rattle.std.specs.Prelude.{ℕ, Bool, List, [], ◌∷◌}
use Rattle.diag_live.specs.declared.bench.Heard.{Heard}

-- it was asked what comes until a moment, with a block under way or not, and this was heard; or it told the moment
pub data Step : Type 0 where
  Asked : (until : ℕ) → (in_block : Bool) → Heard → Step
  Told : ℕ → Step

-- it is asked what comes, and then for the moment
pub record Turn : Type 0 where
  pub until : ℕ
  pub in_block : Bool
  pub heard : Heard
  pub now : ℕ

abbrev pub steps_of : Turn → List Step
steps_of turn = Asked turn.until turn.in_block turn.heard ∷ Told turn.now ∷ []
