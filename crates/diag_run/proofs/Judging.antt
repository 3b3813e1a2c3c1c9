-- What the verdict says of a recording that is judged.
use Rattle.std.proofs.Common.{◌≡◌, ◌≢◌, ℕ, Bool, true, false, List, [], ◌++◌, Ok, Err, IfOk, IfSome, Result, Vec, Global, append-nil, inl, inr, refl, ap, sym, subst, ◌∙◌}
use Rattle.std.specs.Prelude.{if◌then◌else◌}
use Rattle.std.specs.Result.{result_ok}
use Rattle.diag_setup.specs.declared.raw.RawSetup.{RawSetup}
use Rattle.diag_bus.specs.Verdict.{Means, agreement_text, verdict, verdict_text}
use Rattle.diag_bus.specs.declared.verdict.Verdict.{Verdict}
use Rattle.diag_bus.specs.declared.verdict.Verdict.TheVariants.{Agrees, Differs, Lacks}
use Rattle.diag_bus.proofs.Meaning.{meaning}
use Rattle.diag_text.specs.Agreed.{agreed_status, agreed_text, compares_nothing, nothing_line}
use Rattle.diag_text.proofs.Nothing.{none_has, some_has}
use Rattle.diag_run.specs.Wanted.{End, IsAgreed, IsJudged, end_with, judged, judged_by}

-- by whether nothing is compared
abbrev end_by : RawSetup → List (List ℕ) → Bool → End
end_by setup lines nothing = end_with (agreement_text setup lines ++ (if nothing then nothing_line else [])) (if nothing then 9 else 0)

all_agreed : (setup : RawSetup) (lines : List (List ℕ)) → IsAgreed setup lines (end_with (agreed_text setup lines) (agreed_status setup lines))
all_agreed setup lines = pick (compares_nothing setup lines) refl
  where
    pick : (b : Bool) → compares_nothing setup lines ≡ b → IsAgreed setup lines (end_with (agreed_text setup lines) (agreed_status setup lines))
    pick true nothing = inr (none_has setup lines nothing, ap (end_by setup lines) nothing)
    pick false something = inl (
      some_has setup lines something,
      ap (end_by setup lines) something ∙ ap (λ (w : List ℕ). end_with w 0) (append-nil (agreement_text setup lines)),
    )

is_judged : (setup : RawSetup) (lines : List (List ℕ)) (v : Verdict) → verdict setup lines ≡ v → IsJudged setup lines (judged_by setup lines v)
is_judged setup lines Agrees is = (subst (Means setup lines) is (meaning setup lines).0, all_agreed setup lines)
is_judged setup lines (Differs t d) is = (
  λ agree. absurd (clash (sym ((meaning setup lines).1 agree) ∙ is)),
  (meaning setup lines).0,
  ap (verdict_text setup) (sym is),
)
  where
    clash : Agrees ≡ Differs t d → ⊥
    clash e = cc
is_judged setup lines (Lacks t count next) is = (
  λ agree. absurd (clash (sym ((meaning setup lines).1 agree) ∙ is)),
  (meaning setup lines).0,
  ap (verdict_text setup) (sym is),
)
  where
    clash : Agrees ≡ Lacks t count next → ⊥
    clash e = cc

pub all_judged : (setup : RawSetup) (lines : List (List ℕ)) → IsJudged setup lines (judged setup lines)
all_judged setup lines = is_judged setup lines (verdict setup lines) refl

-- a verdict that isn't that all agree is told
pub told_otherwise : (setup : RawSetup) (lines : List (List ℕ)) (v : Verdict) → v ≢ Agrees → judged_by setup lines v ≡ Err (verdict_text setup v)
told_otherwise setup lines Agrees other = absurd (other refl)
told_otherwise setup lines (Differs t d) other = refl
told_otherwise setup lines (Lacks t count next) other = refl

-- what is told, where there was memory for it
pub ok_line : {E : Type 0} (r : Result (Vec ℕ Global) E) (line : List ℕ) → IfOk r (λ t. t.items ≡ line) → IfSome (result_ok r) (λ t. t.items ≡ line)
ok_line (Ok t) line h = h
ok_line (Err e) line h = tt
