use Rattle.std.proofs.Common.{◌≡◌, ◌+◌, ◌∷◌, ◌++◌, [], Ok, Err, arith, sym, ap, ◌∙◌}
use Rattle.std.proofs.lemmas.Result.{err_from_is_err_and}
use Rattle.diag_can.specs.BusLine.{bus_line}
use Rattle.diag_live.specs.Live.{restamped, with_feed}
use Rattle.diag_live.proofs.Hearings.{keep_refuses, line_hears, line_refuses}
use Rattle.diag_live.proofs.hearing.Hearing.take_kept.Goals as goal

pub returns-in_err-keep-clause-err : goal.returns-in_err-keep-clause-err
returns-in_err-keep-clause-err c =
    let p = err_from_is_err_and c.from_residual.result c.from_residual.ensures.1 in
    rw (p.1, p.2)
    (keep_refuses c.args.known.now c.args.self.now c.args.bytes.now (10 ∷ []) c.args.text.now.items c.in_err-keep.field-0.0 c.requires.line c.in_err-keep.ensures.err)

pub returns-in-Err-clause-err : goal.returns-in-Err-clause-err
returns-in-Err-clause-err c =
    let line = c.keep.new.self.kept.items in
    let says : bus_line c.args.known.now line ≡ Err c.in-Err.fault =
    ap (bus_line c.args.known.now) (sym c.as_slice.ensures.value) ∙ (sym c.read_bus_line.ensures ∙ c.in-Err.is) in
    let number : c.in-Some.number ≡ c.args.self.now.lines + 1 = omega (arith, c.in-Some.ensures, c.keep.ensures.lines) in
    line_refuses c.args.known.now c.args.self.now c.args.bytes.now line c.args.text.now.items c.in-Some.number c.in-Err.fault c.requires.line
    c.in_ok-keep.ensures.ok number says

pub returns-clause-ok : goal.returns-clause-ok
returns-clause-ok c =
    let line = c.keep.new.self.kept.items in
    let said = c.in_default-read_bus_line.field-0 in
    let says : bus_line c.args.known.now line ≡ Ok said =
    ap (bus_line c.args.known.now) (sym c.as_slice.ensures.value) ∙ (sym c.read_bus_line.ensures ∙ c.in_default-read_bus_line.is) in
    let number : c.in-Some.number ≡ c.args.self.now.lines + 1 = omega (arith, c.in-Some.ensures, c.keep.ensures.lines) in
    record {
      more = with_feed (restamped line);
      grown = c.in_ok-add_restamped.ensures ∙ ap (λ l. c.args.text.now.items ++ with_feed (restamped l)) c.as_slice-2.ensures.value;
      holds = line_hears c.args.known.now c.args.self.now c.args.bytes.now line c.requires.line c.in_ok-keep.ensures.ok _ said says c.clear.ensures.items number;
    }
