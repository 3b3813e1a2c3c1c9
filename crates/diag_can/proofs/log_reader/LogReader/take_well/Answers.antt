use Rattle.std.proofs.Common.{◌≡◌, ◌∙◌, List, ℕ, Option, Err, Ok, Some, ap, refl, subst, sym}
use Rattle.std.specs.Prelude.{IfSome}
use Rattle.std.proofs.lemmas.Result.{err_from_is_err_and}
use Rattle.diag_can.specs.BusLine.{bus_line}
use Rattle.diag_can.specs.Fault.{fault_of}
use Rattle.diag_can.specs.Line.{known_to, line_says}
use Rattle.diag_can.specs.Log.{without_return}
use Rattle.diag_can.specs.declared.bus_line.BusLine.{BusLine}
use Rattle.diag_can.specs.declared.fault.Limit.{Limit}
use Rattle.diag_can.specs.declared.fault.Limit.TheVariants as limit
use Rattle.diag_can.specs.declared.fault.LogFault.{LogFault}
use Rattle.diag_can.specs.declared.fault.LogFault.TheVariants as fault
use Rattle.diag_can.specs.declared.frame.Ids.{Ids}
use Rattle.diag_can.specs.declared.frame.KnownId.{KnownId}
use Rattle.diag_can.proofs.Pieces.{front_taken, line_fault, line_gives_more, line_more, none_read}
use Rattle.diag_can.proofs.UsualLines.{bus_line-says}
use Rattle.diag_can.proofs.log_reader.LogReader.take_well.Goals as goal
use Rattle.diag_can.proofs.log_reader.LogReader.take_well.Goals.{in-Some-said+in_default-take_said, in-None+in_ok-take_line-in-None}

-- what the first line of a text says, it says without its CR
said_says : (known : List KnownId) (ids : Ids) (line : List ℕ) (first : Option BusLine) (said : BusLine) → known ≡ known_to ids → first ≡ Some said
    → IfSome first (λ b. bus_line known line ≡ Ok b) → line_says (known_to ids) (without_return line) ≡ Ok said
said_says known ids line first said same is says =
    bus_line-says (known_to ids) line said (subst (λ (k : List KnownId). bus_line k line ≡ Ok said) same (subst (λ (o : Option BusLine). IfSome o (λ b. bus_line known line ≡ Ok b)) is says))

memory_of : (l : Limit) → fault_of l ≡ fault.Memory → l ≡ limit.Memory
memory_of limit.Lines is = cc is
memory_of limit.Events is = cc is
memory_of limit.Memory is = refl

pub loop-first-init : goal.loop-first-init
loop-first-init c = (none_read c.args.ids.now c.args.timing c.args.self.now c.args.text.now, refl)

pub take_said-requires : goal.take_said-requires
take_said-requires c = (_, (c.loop-first.invariant.0.takes c.requires.0 c.requires.1).read)

pub take_line-requires : goal.take_line-requires
take_line-requires c = (_, (c.loop-first.invariant.0.takes c.requires.0 c.requires.1).read)

pub returns-in-Err-clause-fault : goal.returns-in-Err-clause-fault
returns-in-Err-clause-fault c =
    let line = c.in-Some.first.line.now in
    let says = said_says _ c.args.ids.now line _ c.in-Some-said.said c.known-known.ensures c.in-Some-said.is c.in-Some.ensures.says in
    λ known. line_fault c.loop-first.invariant.0 _ _ c.in-Some.ensures c.fault.result
    (λ past read. c.in-Err.ensures.fault (λ is. known (c.fault.ensures ∙ ap fault_of is)) past (without_return line) says read ∙ ap (λ (f : LogFault). Some f) (sym c.fault.ensures))

pub returns-in-Err-clause-memory : goal.returns-in-Err-clause-memory
returns-in-Err-clause-memory c =
    let line = c.in-Some.first.line.now in
    let says = said_says _ c.args.ids.now line _ c.in-Some-said.said c.known-known.ensures c.in-Some-said.is c.in-Some.ensures.says in
    λ is. line_gives_more c.loop-first.invariant.0 _ _ c.in-Some.ensures
    (λ past read. c.in-Err.ensures.memory (ap (λ (l : Limit). Err l) (memory_of c.in-Err.limit (sym c.fault.ensures ∙ cc is))) past (without_return line) says read)

pub returns-in_err-take_line-in-None-clause-fault : goal.returns-in_err-take_line-in-None-clause-fault
returns-in_err-take_line-in-None-clause-fault c =
    let p = err_from_is_err_and c.from_residual.result c.from_residual.ensures.1 in
    rw (p.1, p.2) (λ known. line_fault c.loop-first.invariant.0 _ _ c.in-Some.ensures _ (c.in_err-take_line-in-None.ensures.fault known))

pub returns-in_err-take_line-in-None-clause-memory : goal.returns-in_err-take_line-in-None-clause-memory
returns-in_err-take_line-in-None-clause-memory c =
    let p = err_from_is_err_and c.from_residual.result c.from_residual.ensures.1 in
    rw (p.1, p.2) (λ is. line_gives_more c.loop-first.invariant.0 _ _ c.in-Some.ensures (c.in_err-take_line-in-None.ensures.memory (ap (λ (fault : LogFault). Err fault) (cc is))))

pub loop-first-preserved : goal.loop-first-preserved
loop-first-preserved c =
    let line = c.in-Some.first.line.now in
    elim c.match-first.branch [
      | in-Some-said+in_default-take_said w ↦
          let says = said_says _ c.args.ids.now line _ w.in-Some-said.said c.known-known.ensures w.in-Some-said.is c.in-Some.ensures.says in
          rw w.self-is (
            line_more c.loop-first.invariant.0 _ _ c.in-Some.ensures w.take_said.new.self (λ past read. w.in_default-take_said.ensures.took past (without_return line) says read),
            w.take_said.ensures.still ∙ c.loop-first.invariant.1,
          )
      | in-None+in_ok-take_line-in-None w ↦ rw w.self-is (
        line_more c.loop-first.invariant.0 _ _ c.in-Some.ensures w.take_line.new.self w.in_ok-take_line-in-None.ensures.took,
        w.take_line.ensures.still ∙ c.loop-first.invariant.1,
      )
    ]

pub returns-clause-ok : goal.returns-clause-ok
returns-clause-ok c = front_taken c.loop-first.invariant.0 c.in_default.ensures
