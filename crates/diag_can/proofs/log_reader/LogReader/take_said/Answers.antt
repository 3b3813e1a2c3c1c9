use Rattle.std.proofs.Common.{◌∙◌, Some, ap, sym, inl, inr}
use Rattle.std.proofs.lemmas.Result.{IfErr-weaker, on_ok_weaker}
use Rattle.diag_can.specs.Fault.{fault_of}
use Rattle.diag_can.specs.declared.fault.Limit.{Limit}
use Rattle.diag_can.proofs.Reading.{line_read, next_fault, said_fault, took_said}
use Rattle.diag_can.proofs.log_reader.LogReader.take_said.Goals as goal

pub returns-clause-took : goal.returns-clause-took
returns-clause-took c =
    on_ok_weaker c.take.result (λ grown past line says h. line_read h line _ c.in-Some.ensures.room c.in-Some.ensures.number (took_said line says grown))
    c.take.ensures.took

pub returns-clause-fault : goal.returns-clause-fault
returns-clause-fault c =
    IfErr-weaker c.take.result _ _ (λ limit at known past line says h. elim at [
      | inl many ↦ next_fault h line c.in-Some.ensures.room ∙ said_fault c.args.timing c.args.ids.now c.args.self.now.reading _ line _ says many.1 ∙ ap (λ (l : Limit). Some (fault_of l)) (sym many.0)
      | inr memory ↦ absurd (known memory.0)
    ]) c.take.ensures.err
