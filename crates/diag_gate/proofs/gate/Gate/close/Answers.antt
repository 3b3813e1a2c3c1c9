use Rattle.std.proofs.Common.{◌≡◌, Option, Some, refl, sym, ◌∙◌, subst}
use Rattle.std.specs.Option.{IsSome}
use Rattle.diag_desk.specs.Legal.{Run}
use Rattle.diag_gate.specs.Seats.{Closed}
use Rattle.diag_gate.proofs.Hosts.{Left, left_is}
use Rattle.diag_gate.proofs.gate.Gate.close.Goals as goal
use Rattle.diag_gate.proofs.gate.Gate.close.Goals.{After-take-desk}

left : (c : After-take-desk) → Left c.args.host c.take-desk.result
left c = left_is c.args.host _ _ _ _ _ _ _ _ c.host.view_is c.host.invariant.0 c.requires.home c.close_with-closed.ensures.values.2 c.take-desk.ensures.value

pub unwrap-requires : goal.unwrap-requires
unwrap-requires c = let l = left (goal.at.unwrap-requires c).After-take-desk in subst IsSome (sym l.there) refl

some_same : (a b : Run) → ◌≡◌ {A = Option Run} (Some a) (Some b) → a ≡ b
some_same a b e = cc

pub returns : goal.returns
returns c = let l = left (goal.at.returns c).After-take-desk in let same : l.run_is ≡ c.unwrap.result =
    some_same _ _ (sym l.there ∙ c.unwrap.ensures) in subst (Closed c.args.host) (same ∙ sym c.into_desk.ensures) l.closed
