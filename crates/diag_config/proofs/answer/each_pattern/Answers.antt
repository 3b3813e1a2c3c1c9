use Rattle.std.proofs.Common.{◌≡◌, ◌+◌, ℕ, List, [], ◌∷◌, ◌++◌, drop, ap, ap₂, sym, ◌∙◌, add-one}
use Rattle.std.proofs.Math.Seq.{drop-cons}
use Rattle.toml.specs.View.{view, items_view}
use Rattle.diag_setup.specs.declared.raw.RawPattern.{RawPattern}
use Rattle.diag_config.specs.Setup.{each, pattern}
use Rattle.diag_config.proofs.Loop.{read_more, with_front}
use Rattle.diag_config.proofs.answer.each_pattern.Goals as goal

pub loop-value-preserved : goal.loop-value-preserved
loop-value-preserved c =
    let values = c.args.values.now in
    let i = c.loop-value.value-index in
    let v = c.value-item.result in
    let read : List RawPattern = c.loop-value.read in
    let x : RawPattern = c.in_ok-pattern.field-0 in
    let kind = pattern c.args.key.now in
    let next : drop i values ≡ v ∷ drop (i + 1) values =
    drop-cons values i v c.loop-value-test.true ∙ ap₂ (λ x (n : ℕ). x ∷ drop n values) (sym c.value-item.is) (sym (add-one i)) in
    let pushed : c.push.new.self ≡ read ++ x ∷ [] = rw c.in_ok-push.was at c.push.ensures in
    ap (λ (r : List RawPattern). with_front r (each kind (items_view (drop (i + 1) values)))) pushed
    ∙ (sym (read_more kind read (view v) (items_view (drop (i + 1) values)) x c.in_ok-pattern.ensures.gives)
    ∙ (ap (λ l. with_front read (each kind (items_view l))) (sym next) ∙ c.loop-value.invariant))
