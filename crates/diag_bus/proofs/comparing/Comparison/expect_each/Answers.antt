use Rattle.std.proofs.Common.{◌≡◌, ◌+◌, ◌∷◌, [], ℕ, List, take, ap, subst, sym, ◌∙◌, arith}
use Rattle.std.proofs.lemmas.List.{take_all}
use Rattle.diag_tp.specs.declared.sent.Sent.{Sent}
use Rattle.diag_bus.specs.Comparing.{Expects}
use Rattle.diag_bus.specs.Verdict.{expected_of, is_pending}
use Rattle.diag_bus.specs.declared.comparing.Comparison.{Comparison}
use Rattle.diag_bus.proofs.Recordings.{expects_left, expects_taken}
use Rattle.diag_bus.proofs.comparing.Comparison.expect_each.Goals.{then-not-is_pending+in_ok-expect, else-not-is_pending}
use Rattle.diag_bus.proofs.comparing.Comparison.expect_each.Goals as goal

pub loop-index-preserved : goal.loop-index-preserved
loop-index-preserved c =
    let old = c.args.self.now in
    let mid = c.loop-index.self in
    let frames = c.args.sent.now.items in
    let i = c.loop-index.index in
    let sent : Sent = c.get-next.result in
    let bytes : c.next.inside.bytes.now ≡ sent.frame.bytes = ap (λ (s : Sent). s.frame.bytes) c.next.view_is in
    let told : is_pending sent.frame.bytes ≡ c.is_pending.result = sym (c.is_pending.ensures ∙ ap is_pending bytes) in
    elim c.if-not-is_pending.branch [
      | then-not-is_pending+in_ok-expect w ↦ subst (λ (new : Comparison). Expects old new (expected_of (take (i + 1) frames))) (sym w.self-is)
          (expects_taken old mid frames i sent c.get-next.ensures c.loop-index.invariant w.expect.new.self (told ∙ w.if-not-is_pending.true)
          (subst (λ (b : List ℕ). Expects mid w.expect.new.self (b ∷ [])) bytes w.in_ok-expect.ensures))
      | else-not-is_pending w ↦ subst (λ (new : Comparison). Expects old new (expected_of (take (i + 1) frames))) (sym w.self-is)
          (expects_left old mid frames i sent c.get-next.ensures c.loop-index.invariant (told ∙ w.if-not-is_pending.false))
    ]

pub returns : goal.returns
returns c =
    let sent = c.args.sent.now.items in
    let i = c.loop-index.index in
    let all : take i sent ≡ sent = take_all i sent (omega (arith, c.loop-index-test.false, c.len-index-end.ensures)) in
    subst (λ (frames : List Sent). Expects c.args.self.now c.loop-index.self (expected_of frames)) all c.loop-index.invariant
