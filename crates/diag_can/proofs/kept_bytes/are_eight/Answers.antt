use Rattle.std.proofs.Common.{◌≡◌, ℕ, ap, sym, ◌∙◌, arith, rules}
use Rattle.std.specs.Int.{w64, to_le_bytes}
use Rattle.std.proofs.lemmas.Bool.Decides.{nat_tests}
use Rattle.std.proofs.lemmas.Nat.{le_bytes_8}
use Rattle.diag_can.proofs.kept_bytes.are_eight.Goals as goal

pub returns-in-Some-Some : goal.returns-in-Some-Some
returns-in-Some-Some c =
    let a = c.args.a.now in
    let b = c.args.b.now in
    let m : ℕ = c.from_le_bytes.result in
    let n : ℕ = c.from_le_bytes-in-Some-Some.result in
    let first : to_le_bytes w64 m ≡ a = le_bytes_8 a m (search rules) (search rules) (search rules) in
    let second : to_le_bytes w64 n ≡ b = le_bytes_8 b n (search rules) (search rules) (search rules) in
    let there : m ≡ n → a ≡ b = λ same. sym first ∙ ap (to_le_bytes w64) same ∙ second in
    let back : a ≡ b → m ≡ n = λ same. search rules in
    grind (arith, there, back, nat_tests)
