use Rattle.std.proofs.Common.{subst, ◌∙◌}
use Rattle.serving.specs.Reads.{NumberRead}
use Rattle.serving.proofs.Steps.{stopped_as, rose_since, none_behind, number_behind, text_behind, input_behind, text_long, input_long, behind}
use Rattle.serving.proofs.reading.read_behind.Goals as goal

pub returns-in_err-input_length-clause-cause : goal.returns-in_err-input_length-clause-cause
returns-in_err-input_length-clause-cause g c = stopped_as c.in_err-input_length.field-0.0 c.from_residual.result (λ rose. rose) (number_behind _ _ _) (λ long. absurd long) c.in_err-input_length.ensures.cause c.from_residual.ensures.1

pub returns-in_default-clause-cause : goal.returns-in_default-clause-cause
returns-in_default-clause-cause g c = none_behind _ _ _ (subst (NumberRead _ _) c.in_default.is c.in_ok-input_length.ensures.read)

pub returns-in_err-text-clause-cause : goal.returns-in_err-text-clause-cause
returns-in_err-text-clause-cause g c =
    let number = subst (NumberRead _ _) c.in-Some.is c.in_ok-input_length.ensures.read in
    stopped_as c.in_err-text.field-0.0 c.from_residual-in_err-text.result (rose_since _ _ _ c.in_ok-input_length.ensures.kept) (text_behind _ _ _ _ _ number.0 number.1 number.2) (text_long _ _ _ _ _ number.0 number.1 number.2)
    c.in_err-text.ensures.cause c.from_residual-in_err-text.ensures.1

pub returns-in_err-input-clause-cause : goal.returns-in_err-input-clause-cause
returns-in_err-input-clause-cause g c =
    let number = subst (NumberRead _ _) c.in-Some.is c.in_ok-input_length.ensures.read in
    stopped_as c.in_err-input.field-0.0 c.from_residual-in_err-input.result (rose_since _ _ _ (c.in_ok-text.ensures.kept ∙ c.in_ok-input_length.ensures.kept))
    (input_behind _ _ _ _ _ _ number.0 c.in_ok-text.text.items number.1 number.2 c.in_ok-text.ensures.read) (input_long _ _ _ _ _ _ number.0 c.in_ok-text.text.items number.1 number.2 c.in_ok-text.ensures.read)
    c.in_err-input.ensures.cause c.from_residual-in_err-input.ensures.1

pub returns-clause-read : goal.returns-clause-read
returns-clause-read g c = behind _ _ _ _ _ _ _ _ (subst (NumberRead _ _) c.in-Some.is c.in_ok-input_length.ensures.read) c.in_ok-text.ensures.read c.in_ok-input.ensures.read

pub returns-clause-kept : goal.returns-clause-kept
returns-clause-kept g c = c.in_ok-input.ensures.kept ∙ c.in_ok-text.ensures.kept ∙ c.in_ok-input_length.ensures.kept
