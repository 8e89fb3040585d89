use Rattle.std.proofs.Common.{subst, sym, ◌∙◌}
use Rattle.module_set.specs.Reading.{StandsForSet}
use Rattle.program_ends.proofs.Inputs.{input_is}
use Rattle.module_linker.proofs.Inputs.{not_read, stopped_no_refusal, finds, refused, not_refused}
use Rattle.module_linker.proofs.Faults.{unread_keeps, refused_keeps}
use Rattle.module_linker.proofs.program.read_modules_from.Goals as goal

pub returns-in_err-input-clause-stopped : goal.returns-in_err-input-clause-stopped
returns-in_err-input-clause-stopped g c = not_read _ c.in_err-input.field-0.0 c.from_residual.result c.in_err-input.ensures.cause c.from_residual.ensures.1

pub returns-in_err-input-clause-complete : goal.returns-in_err-input-clause-complete
returns-in_err-input-clause-complete g c = λ input ms told stands. stopped_no_refusal c.in_err-input.field-0.0 c.from_residual.result c.from_residual.ensures.1

pub returns-in_err-modules-clause-stopped : goal.returns-in_err-modules-clause-stopped
returns-in_err-modules-clause-stopped g c =
    refused _ c.in_ok-input.input.items c.in_err-modules.field-0.0 c.from_residual-in_err-modules.result c.in_ok-input.ensures.whole c.in_ok-input.ensures.fits (rw c.deref.ensures.value at c.in_err-modules.ensures.refused) c.from_residual-in_err-modules.ensures.1

pub returns-in_err-modules-clause-complete : goal.returns-in_err-modules-clause-complete
returns-in_err-modules-clause-complete g c = λ input ms told stands.
    not_refused ms c.in_err-modules.field-0.0 c.from_residual-in_err-modules.result
    (rw c.in_err-modules.was at (c.read_modules.ensures.complete ms (subst (λ bytes. StandsForSet bytes ms) (sym (c.deref.ensures.value ∙ input_is _ _ _ input told c.in_ok-input.ensures.whole)) stands)))
    c.from_residual-in_err-modules.ensures.1

pub returns-clause-found : goal.returns-clause-found
returns-clause-found g c = finds _ c.in_ok-input.input.items c.in_ok-modules.modules c.in_ok-input.ensures.whole c.in_ok-input.ensures.fits (rw c.deref.ensures.value at c.in_ok-modules.ensures.read)

pub returns-clause-same : goal.returns-clause-same
returns-clause-same g c = λ input ms told stands.
    rw c.in_ok-modules.was at (c.read_modules.ensures.complete ms (subst (λ bytes. StandsForSet bytes ms) (sym (c.deref.ensures.value ∙ input_is _ _ _ input told c.in_ok-input.ensures.whole)) stands))

pub returns-in_err-input-clause-failing : goal.returns-in_err-input-clause-failing
returns-in_err-input-clause-failing g c = unread_keeps _ c.in_err-input.field-0.0 c.from_residual.result c.in_err-input.ensures.kept c.from_residual.ensures.1

pub returns-in_err-modules-clause-failing : goal.returns-in_err-modules-clause-failing
returns-in_err-modules-clause-failing g c = refused_keeps _ c.in_err-modules.field-0.0 c.from_residual-in_err-modules.result c.in_ok-input.ensures.kept c.from_residual-in_err-modules.ensures.1
