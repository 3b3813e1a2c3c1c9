use Rattle.std.proofs.Common.{◌≡◌, ◌⊎◌, ℕ, Some, None, inl, inr, length, ap, subst, sym, ◌∙◌}
use Rattle.std.proofs.lemmas.List.{length-map}
use Rattle.std.proofs.lemmas.Result.{on_ok_weaker}
use Rattle.diag_can.specs.declared.bus_line.BusLine.{BusLine}
use Rattle.diag_can.specs.declared.bus_line.BusLine.TheVariants.{Empty, Ticks}
use Rattle.diag_tp.specs.SentFrames.{SentList}
use Rattle.diag_bus.specs.Events.{frame_said}
use Rattle.diag_bus.specs.Node.{lists_of}
use Rattle.diag_bus.specs.ResponseIds.{IsResponder}
use Rattle.diag_bus.proofs.Recordings.{no_records, took_line}
use Rattle.diag_bus.proofs.comparing.Comparisons.take_line.Goals as goal

pub returns-in-Some-clause-ok : goal.returns-in-Some-clause-ok
returns-in-Some-clause-ok c =
    let setup = c.args.setup.now in
    let between = c.expect.new.testers.items in
    let lists = length-map c.args.drawn.now.lists.items (λ (f : SentList). f.items) ∙ c.requires.lists in
    let many : length between ≡ length setup.testers = c.in_ok-expect.ensures.shape ∙ c.requires.in_setup in
    let is : frame_said c.args.said.now ≡ Some c.in-Some.frame = ap frame_said c.in-Stamped.is ∙ c.in-Some.is in
    let found : IsResponder setup c.in-Some.frame.id (length between) c.responder-responder.result =
    subst (λ n. IsResponder setup c.in-Some.frame.id n c.responder-responder.result) (sym many)
    (subst (λ i. IsResponder setup i (length setup.testers) c.responder-responder.result) c.id.ensures c.responder-responder.ensures) in
    on_ok_weaker c.record.result (λ records. took_line setup c.args.self.now _ between c.args.said.now (lists_of c.args.drawn.now) (Some c.in-Some.frame)
    c.in_ok-line.ensures lists c.in_ok-expect.ensures.ok is (records setup found))
    c.record.ensures.ok

pub returns-in-None-clause-ok : goal.returns-in-None-clause-ok
returns-in-None-clause-ok c =
    let lists = length-map c.args.drawn.now.lists.items (λ (f : SentList). f.items) ∙ c.requires.lists in
    took_line c.args.setup.now c.args.self.now _ c.expect.new.testers.items c.args.said.now (lists_of c.args.drawn.now) None
    c.in_ok-line.ensures lists c.in_ok-expect.ensures.ok (ap frame_said c.in-Stamped.is ∙ c.in-None.is)
    (no_records c.args.setup.now c.in_ok-line.line c.expect.new.testers.items)

-- a line without a stamp has no frame
unstamped : (said : BusLine) → (said ≡ Empty) ⊎ ((count : ℕ) × (said ≡ Ticks count)) → frame_said said ≡ None
unstamped said (inl empty) = ap frame_said empty
unstamped said (inr ticks) = ap frame_said ticks.1

pub returns-in-Empty-clause-ok : goal.returns-in-Empty-clause-ok
returns-in-Empty-clause-ok c =
    let lists = length-map c.args.drawn.now.lists.items (λ (f : SentList). f.items) ∙ c.requires.lists in
    took_line c.args.setup.now c.args.self.now _ c.expect.new.testers.items c.args.said.now (lists_of c.args.drawn.now) None
    c.in_ok-line.ensures lists c.in_ok-expect.ensures.ok (unstamped c.args.said.now c.in-Empty.is)
    (no_records c.args.setup.now c.in_ok-line.line c.expect.new.testers.items)

pub returns-in-Empty-2-clause-ok : goal.returns-in-Empty-2-clause-ok
returns-in-Empty-2-clause-ok c =
    let lists = length-map c.args.drawn.now.lists.items (λ (f : SentList). f.items) ∙ c.requires.lists in
    took_line c.args.setup.now c.args.self.now _ c.expect.new.testers.items c.args.said.now (lists_of c.args.drawn.now) None
    c.in_ok-line.ensures lists c.in_ok-expect.ensures.ok (unstamped c.args.said.now c.in-Empty.is)
    (no_records c.args.setup.now c.in_ok-line.line c.expect.new.testers.items)
