use Rattle.std.proofs.Common.{◌≡◌, ◌+◌, ◌++◌, ℕ, List, Ok, Err, arith, sym, ap, ◌∙◌}
use Rattle.diag_can.specs.BusLine.{bus_line}
use Rattle.diag_live.specs.Live.{restamped, with_feed}
use Rattle.diag_live.proofs.Hearings.{line_hears, line_refuses, sees_none, sees_told}
use Rattle.diag_live.proofs.hearing.Hearing.take_whole.Goals as goal

pub returns-in-Err-clause-err : goal.returns-in-Err-clause-err
returns-in-Err-clause-err c =
    let line = c.args.bytes.now in
    let whole : line ≡ c.args.self.now.kept.items ++ line = ap (λ (k : List ℕ). k ++ line) (sym c.requires.none) in
    let says : bus_line c.args.known.now line ≡ Err c.in-Err.fault = sym c.read_bus_line.ensures ∙ c.in-Err.is in
    let number : c.in-Some.number ≡ c.args.self.now.lines + 1 = omega (arith, c.in-Some.ensures) in
    line_refuses c.args.known.now c.args.self.now line line c.args.text.now.items c.in-Some.number c.in-Err.fault c.requires.line whole number says

pub returns-clause-ok : goal.returns-clause-ok
returns-clause-ok c =
    let line = c.args.bytes.now in
    let whole : line ≡ c.args.self.now.kept.items ++ line = ap (λ (k : List ℕ). k ++ line) (sym c.requires.none) in
    let said = c.in_default-read_bus_line.field-0 in
    let says : bus_line c.args.known.now line ≡ Ok said = sym c.read_bus_line.ensures ∙ c.in_default-read_bus_line.is in
    let number : c.in-Some.number ≡ c.args.self.now.lines + 1 = omega (arith, c.in-Some.ensures) in
    record {
      more = with_feed (restamped line);
      grown = c.in_ok-add_restamped.ensures;
      holds = line_hears c.args.known.now c.args.self.now line line c.requires.line whole _ said says c.requires.none number;
    }

pub returns-in-Err-clause-seen : goal.returns-in-Err-clause-seen
returns-in-Err-clause-seen c =
    let says : bus_line c.args.known.now c.args.bytes.now ≡ Err c.in-Err.fault = sym c.read_bus_line.ensures ∙ c.in-Err.is in
    let number : c.in-Some.number ≡ c.args.self.now.lines + 1 = omega (arith, c.in-Some.ensures) in
    sees_told c.args.known.now c.args.self.now c.args.bytes.now c.in-Some.number c.in-Err.fault number says c.requires.none

pub returns-clause-seen : goal.returns-clause-seen
returns-clause-seen c =
    let said = c.in_default-read_bus_line.field-0 in
    let says : bus_line c.args.known.now c.args.bytes.now ≡ Ok said = sym c.read_bus_line.ensures ∙ c.in_default-read_bus_line.is in
    sees_none c.args.known.now c.args.self.now c.args.bytes.now said _ says c.requires.none

pub returns-in_err-add_restamped-clause-seen : goal.returns-in_err-add_restamped-clause-seen
returns-in_err-add_restamped-clause-seen c =
    let said = c.in_default-read_bus_line.field-0 in
    let says : bus_line c.args.known.now c.args.bytes.now ≡ Ok said = sym c.read_bus_line.ensures ∙ c.in_default-read_bus_line.is in
    sees_none c.args.known.now c.args.self.now c.args.bytes.now said _ says c.requires.none
