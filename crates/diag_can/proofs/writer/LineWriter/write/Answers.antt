use Rattle.std.proofs.Common.{◌≡◌, ℕ, List, ◌++◌, length, ◌∙◌, ap, sym, codes, arith, rules}
use Rattle.std.proofs.lemmas.Bool.{eqb-true, not-false}
use Rattle.std.proofs.lemmas.Result.{on_ok_weaker, on_err_weaker}
use Rattle.hex.specs.Hex.{encode_upper}
use Rattle.diag_can.specs.Reply.{name_text, stamp, id_text, mark_text}
use Rattle.diag_can.proofs.Hex.{line_parts, taken_off}
use Rattle.diag_can.proofs.writer.LineWriter.write.Goals as goal

pub returns-in_default-clause-ok : goal.returns-in_default-clause-ok
returns-in_default-clause-ok c =
    let inside = c.self.inside in
    let name = inside.name.items in
    let same : c.args.id ≡ inside.id = eqb-true _ _ (not-false _ (sym c.ne.ensures ∙ c.if-ne.false)) in
    let front = c.self.invariant.0.is (omega (arith, c.if-self-eq0.false)) ∙ ap (λ (id : ℕ). name_text name inside.flags id) (sym same) in
    let before : c.replace-line.result.items ≡ c.args.text.now.items = search rules in
    let here = c.self.view_is in
    rw (← here) (on_ok_weaker c.add_other.result (λ wrote. line_parts c.args.text.now.items (stamp c.args.at) name (id_text c.args.id) (mark_text inside.flags)
    (encode_upper c.args.bytes.now) c.replace-line.result.items c.add_to.new.text.items c.add_to-2.new.text.items c.add_other.new.text.items before
    (c.add_to.ensures.items ∙ ap (λ (at : ℕ). c.replace-line.result.items ++ (stamp at ++ codes " ")) (c.set.ensures.at c.if-not-set.false))
    (c.add_to-2.ensures.items ∙ ap (λ (t : List ℕ). c.add_to.new.text.items ++ t) front)
    wrote) c.add_other.ensures.ok)

pub returns-in_default-clause-err : goal.returns-in_default-clause-err
returns-in_default-clause-err c =
    let before : c.replace-line.result.items ≡ c.args.text.now.items = search rules in
    on_err_weaker c.add_other.result (taken_off c.args.text.now.items _ _ c.replace-line.result.items c.add_to.new.text.items c.add_to-2.new.text.items
    c.add_other.new.text.items c.len-before.result
    (omega (arith, c.len-before.ensures, c.reserve.new.self.ok.0, ap length c.reserve.ensures.items)) before c.add_to.ensures.items c.add_to-2.ensures.items) c.add_other.ensures.err

pub returns-clause-ok : goal.returns-clause-ok
returns-clause-ok c =
    let inside = c.self.inside in
    let name = inside.name.items in
    let same : c.args.id ≡ inside.id = eqb-true _ _ (not-false _ (sym c.ne.ensures ∙ c.if-ne.false)) in
    let front = c.self.invariant.0.is (omega (arith, c.if-self-eq0.false)) ∙ ap (λ (id : ℕ). name_text name inside.flags id) (sym same) in
    let before : c.replace-line.result.items ≡ c.args.text.now.items = search rules in
    let bytes : c.in-Some.eight.now ≡ c.args.bytes.now = c.in-Some.ensures.cases.same in
    let here = c.self.view_is in
    let put : c.replace.new.dest.items ≡ c.add_eight.new.text.items = search rules in
    rw (← here, ← bytes, put) (line_parts c.args.text.now.items (stamp c.args.at) name (id_text c.args.id) (mark_text inside.flags) (encode_upper c.in-Some.eight.now)
    c.replace-line.result.items c.add_to.new.text.items c.add_to-2.new.text.items c.add_eight.new.text.items before
    (c.add_to.ensures.items ∙ ap (λ (at : ℕ). c.replace-line.result.items ++ (stamp at ++ codes " ")) (c.set.ensures.at c.if-not-set.false))
    (c.add_to-2.ensures.items ∙ ap (λ (t : List ℕ). c.add_to.new.text.items ++ t) front)
    c.add_eight.ensures)
