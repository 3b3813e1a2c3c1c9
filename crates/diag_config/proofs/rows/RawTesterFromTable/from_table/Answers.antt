use Rattle.std.proofs.Common.{◌≡◌, ℕ, option_map, refl, rules}
use Rattle.diag_config.specs.Setup.{tester_at}
use Rattle.diag_config.proofs.rows.RawTesterFromTable.from_table.Goals as goal

pub returns : goal.returns
unfolding tester_at
returns c =
    let own : option_map (λ (n : ℕ). n) c.in_ok-functional.functional ≡ c.in_ok-functional.functional = search rules in
    rw (c.in_ok-name.ensures.gives, c.in_ok-request.ensures.gives, c.in_ok-response.ensures.gives, c.in_ok-extended.ensures.gives, c.in_ok-functional.ensures.gives, c.in_ok-fd.ensures.gives, own) refl
