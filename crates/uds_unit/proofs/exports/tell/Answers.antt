use Rattle.std.proofs.Common.{ℕ, List, refl, inl, inr, subst, ◌∙◌}
use Rattle.diag_config.specs.declared.fault.ConfigFault.TheVariants.{Memory}
use Rattle.uds_unit.specs.Calls.{CopiedInto}
use Rattle.uds_unit.proofs.exports.tell.Goals as goal

pub returns-in-Ok : goal.returns-in-Ok
returns-in-Ok c = record {
  told = c.args.fault;
  is = inl refl;
  line = subst (λ (t : List ℕ). CopiedInto c.args.text.now c.copy_into.new.out t) (c.as_slice.ensures.value ∙ c.in-Ok.ensures) c.copy_into.ensures;
  answer = c.fault_status.ensures;
}

pub returns-in-Err : goal.returns-in-Err
returns-in-Err c = record { told = Memory; is = inr refl; line = c.copy_into-in-Err.ensures; answer = refl }
