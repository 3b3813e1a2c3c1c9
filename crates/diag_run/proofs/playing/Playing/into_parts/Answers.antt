use Rattle.std.proofs.Common.{◌++◌, [], Bool, List, ℕ, ap, sym, ◌∙◌, append-nil, map}
use Rattle.std.specs.List.{concat}
use Rattle.std.specs.Prelude.{if◌then◌else◌}
use Rattle.diag_text.specs.Text.{end_text}
use Rattle.diag_run.proofs.Written.{joined_one, joined_two}
use Rattle.diag_run.proofs.playing.Playing.into_parts.Goals as goal

pub returns-then-only_journal : goal.returns-then-only_journal
returns-then-only_journal c =
    let self = c.args.self in
    let lines = concat (map (λ tester. tester.text.items) self.lines.items) in
    let none = ap (λ (b : Bool). if b then [] else end_text c.args.setup.now self.server.ecu) c.if-only_journal.true in
    joined_one self.lines.items c.in_ok-parts.parts.items c.push.new.self.items self.journal.text c.in_ok-parts.ensures c.in_ok-push.ensures.items
    ∙ ap (λ (w : List ℕ). lines ++ w) (sym (append-nil self.journal.text.items) ∙ ap (λ (w : List ℕ). self.journal.text.items ++ w) (sym none))

pub returns : goal.returns
returns c =
    let self = c.args.self in
    let lines = concat (map (λ tester. tester.text.items) self.lines.items) in
    let all = ap (λ (b : Bool). if b then [] else end_text c.args.setup.now self.server.ecu) c.if-only_journal.false in
    let end = c.in_ok-end.ensures ∙ ap (end_text c.args.setup.now) c.ecu.ensures in
    joined_two self.lines.items c.in_ok-parts.parts.items c.push.new.self.items c.push-2.new.self.items self.journal.text c.in_ok-end.end
    c.in_ok-parts.ensures c.in_ok-push.ensures.items c.in_ok-push-2.ensures.items
    ∙ ap (λ (w : List ℕ). lines ++ (self.journal.text.items ++ w)) (end ∙ sym all)
