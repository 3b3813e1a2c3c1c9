-- The bytes of a reply.
use Rattle.std.proofs.Common.{◌≡◌, ◌≤◌, ◌++◌, ℕ, List, length, ap₂, ◌∙◌}
use Rattle.std.proofs.lemmas.List.{drop-replicate, take_all}
use Rattle.std.specs.Prelude.{replicate}
use Rattle.uds_unit.specs.Calls.{CopiedInto, all_of}

-- bytes that are copied over 64 zeros have zeros behind them
pub all_copied : (new bytes : List ℕ) → length bytes ≤ 64 → CopiedInto (replicate 64 0) new bytes → new ≡ all_of bytes
all_copied new bytes few copied =
    copied ∙ ap₂ (λ (a b : List ℕ). a ++ b) (take_all 64 bytes few) (drop-replicate (length bytes) 64 0)
