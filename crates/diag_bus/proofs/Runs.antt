-- The one run of an interleaving.
use Rattle.std.proofs.Common.{◌≡◌, ℕ, List, [], ◌∷◌, refl, ap, ◌∙◌}
use Rattle.diag_pdu.specs.declared.step.Step.{Step}
use Rattle.diag_setup.specs.Setup.{link_of}
use Rattle.diag_ecu.specs.State.{State, opening}
use Rattle.diag_desk.specs.Entries.{asked_by}
use Rattle.diag_desk.specs.Legal.{Legal, after_step}
use Rattle.diag_world.specs.Weaving.{steps_of}
use Rattle.diag_world.proofs.Times.{own_asks}
use Rattle.diag_bus.specs.Text.{RunLaw, answered, run_of}
use Rattle.diag_bus.proofs.Lines.{one_journal}

-- the journal that is computed of steps asks them
pub answered_asks : (s : State) (steps : List (ℕ × Step)) → asked_by (answered s steps) ≡ steps
answered_asks s [] = refl
answered_asks s (p ∷ steps) = ap (λ rest. p ∷ rest) (answered_asks (after_step s p.0 p.1) steps)

-- it is legal
pub answered_legal : (s : State) (steps : List (ℕ × Step)) → Legal s (answered s steps)
answered_legal s [] = tt
answered_legal s (p ∷ steps) = (refl, answered_legal (after_step s p.0 p.1) steps)

pub run : RunLaw
run setup M =
    let asked : asked_by (run_of setup M) ≡ steps_of (link_of setup) M = answered_asks (opening setup) (steps_of (link_of setup) M) in
    record {
      legal = answered_legal (opening setup) (steps_of (link_of setup) M);
      run = asked;
      only = λ other legal same. one_journal (opening setup) other legal ∙ ap (answered (opening setup)) same;
      asks = λ t. own_asks (link_of setup) M (run_of setup M) t asked;
      frames = λ t. refl;
    }
