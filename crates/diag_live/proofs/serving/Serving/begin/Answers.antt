use Rattle.std.proofs.Common.{[], refl, sym, ap, ◌∙◌}
use Rattle.diag_bus.specs.Text.{text_of}
use Rattle.diag_live.proofs.Records.{nothing_begun, nothing_ended}
use Rattle.diag_live.proofs.serving.Serving.begin.Goals as goal

pub returns-clause-stands : goal.returns-clause-stands
returns-clause-stands c = (
  record {
    taken = [];
    heard = sym nothing_ended;
    good = tt;
    follows = c.new.ensures;
    recorded = refl;
    lines = nothing_ended;
    closed = nothing_begun;
    capture = c.in_ok-capture.ensures.stands;
    sent = c.in_ok-capture.ensures.stands.due ∙ ap (text_of c.in_ok-capture.capture.bus.setup) nothing_ended;
  },
  refl,
)
