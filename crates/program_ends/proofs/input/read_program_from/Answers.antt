use Rattle.std.proofs.Common.{sym, subst, ◌∙◌}
use Rattle.program_ends.specs.Reads.{Stands}
use Rattle.program_ends.proofs.Inputs.{not_read, not_read_no_refusal, found_of, not_found_of, memory_is_no_refusal, input_is}
use Rattle.program_ends.proofs.Faults.{keeps, keeps_still}
use Rattle.program_ends.proofs.input.read_program_from.Goals as goal

pub returns-in_err-input-clause-stopped : goal.returns-in_err-input-clause-stopped
returns-in_err-input-clause-stopped g c = not_read _ c.in_err-input.field-0.0 c.from_residual.result c.in_err-input.ensures.cause c.from_residual.ensures.1

pub returns-in_err-input-clause-complete : goal.returns-in_err-input-clause-complete
returns-in_err-input-clause-complete g c = λ input program told stands. not_read_no_refusal _ _ c.in_err-input.field-0.0 c.from_residual.result c.in_err-input.ensures.cause c.from_residual.ensures.1

pub returns-clause-found : goal.returns-clause-found
returns-clause-found g c = found_of _ c.in_ok-input.input.items c.program_in.result c.in_ok-input.ensures.whole c.in_ok-input.ensures.fits (rw c.deref.ensures.value at c.program_in.ensures.stands)

pub returns-clause-stopped : goal.returns-clause-stopped
returns-clause-stopped g c = not_found_of _ c.in_ok-input.input.items c.program_in.result c.in_ok-input.ensures.whole c.in_ok-input.ensures.fits (rw c.deref.ensures.value at c.program_in.ensures.refused)

pub returns-clause-complete : goal.returns-clause-complete
returns-clause-complete g c = λ input program told stands.
    memory_is_no_refusal c.program_in.result
    (c.program_in.ensures.complete program (subst (λ bytes. Stands bytes program) (sym (c.deref.ensures.value ∙ input_is _ _ _ input told c.in_ok-input.ensures.whole)) stands))

pub returns-in_err-input-clause-kept : goal.returns-in_err-input-clause-kept
returns-in_err-input-clause-kept g c = keeps_still _ c.in_err-input.field-0.0 c.from_residual.result c.in_err-input.ensures.kept c.from_residual.ensures.1

pub returns-clause-kept : goal.returns-clause-kept
returns-clause-kept g c = keeps _ c.program_in.result c.in_ok-input.ensures.kept
