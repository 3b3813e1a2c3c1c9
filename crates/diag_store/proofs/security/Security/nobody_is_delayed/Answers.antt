use Rattle.std.proofs.Common.{◌≡◌, ◌∙◌, ◌+◌, ◌*◌, ℕ, List, [], ◌∷◌, Bool, true, false, not, ◌&&◌, map, cond, eqb, ap, refl, arith, w32}
use Rattle.std.specs.List.{list_all}
use Rattle.std.proofs.lemmas.Bool.Decides.{nat_tests}
use Rattle.std.proofs.lemmas.Simd.{bitmask_splat}
use lib.Lanes.{mask_l}
use Rattle.diag_store.specs.Security.{is_none_left, nobody_is_delayed}
use Rattle.diag_store.specs.declared.security.SecurityState.{SecurityState}
use Rattle.diag_store.proofs.security.Security.nobody_is_delayed.Goals as goal

lowest : (none : Bool) (mask : ℕ) → eqb (cond (not none) 1 0 + 2 * mask) 0 ≡ (none && eqb mask 0)
lowest true mask = grind (arith, nat_tests)
lowest false mask = grind (arith, nat_tests)

-- the mask of those that are left is empty where none is
none_set : (delays : List ℕ) → eqb (mask_l (map (λ left. not (eqb left 0)) delays)) 0 ≡ list_all is_none_left delays
none_set [] = refl
none_set (left ∷ delays) =
    lowest (eqb left 0) (mask_l (map (λ left. not (eqb left 0)) delays)) ∙ ap (λ rest. eqb left 0 && rest) (none_set delays)

pub returns : goal.returns
returns c =
    let delays = c.self.inside.state.delays in
    ap (λ mask. eqb mask 0) (bitmask_splat w32 (λ left zero. not (eqb left zero)) delays 8 0 c.self.invariant.delays (omega arith))
    ∙ none_set delays ∙ ap (λ (s : SecurityState). nobody_is_delayed s) c.self.view_is
