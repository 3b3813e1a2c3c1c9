use Rattle.std.proofs.Common.{ℕ, List, [], ◌∷◌, subst, ◌∙◌}
use Rattle.std.specs.Prelude.{OnOk}
use Rattle.diag_can.specs.Event.{Physical}
use Rattle.diag_listen.specs.Listening.{Hears}
use Rattle.diag_judge.proofs.tester.hear_long.Goals as goal

pub returns-clause-heard : goal.returns-clause-heard
returns-clause-heard c =
    subst
    (λ (bytes : List ℕ). OnOk c.take.result (Hears c.args.listener.now c.take.new.self c.args.over.now.items c.take.new.over.items c.args.at (Physical bytes ∷ [])))
    (c.long.ensures ∙ (c.as_slice.ensures.bytes ∙ c.long_bytes-bytes.ensures))
    c.take.ensures.heard
