use Rattle.std.proofs.Common.{subst, ◌∙◌}
use Rattle.serving.specs.Reads.{NumberRead}
use Rattle.serving.proofs.Steps.{stopped_as, rose_since, number_cut, behind_cut, behind_long, request_of}
use Rattle.serving.proofs.reading.read_request.Goals as goal

pub returns-in_err-text_length-clause-cause : goal.returns-in_err-text_length-clause-cause
returns-in_err-text_length-clause-cause g c = stopped_as c.in_err-text_length.field-0.0 c.from_residual.result (λ rose. rose) (number_cut _ _) (λ long. absurd long) c.in_err-text_length.ensures.cause c.from_residual.ensures.1

pub returns-in_err-read_behind-clause-cause : goal.returns-in_err-read_behind-clause-cause
returns-in_err-read_behind-clause-cause g c =
    let number = subst (NumberRead _ _) c.in-Some.is c.in_ok-text_length.ensures.read in
    stopped_as c.in_err-read_behind.field-0.0 c.from_residual-in_err-read_behind.result (rose_since _ _ _ c.in_ok-text_length.ensures.kept) (behind_cut _ _ _ _ number.0 number.1 number.2) (behind_long _ _ _ _ number.0 number.1 number.2)
    c.in_err-read_behind.ensures.cause c.from_residual-in_err-read_behind.ensures.1

pub returns-clause-read : goal.returns-clause-read
returns-clause-read g c = request_of _ _ _ _ _ _ (subst (NumberRead _ _) c.in-Some.is c.in_ok-text_length.ensures.read) c.in_ok-read_behind.ensures.read

pub returns-clause-kept : goal.returns-clause-kept
returns-clause-kept g c = c.in_ok-read_behind.ensures.kept ∙ c.in_ok-text_length.ensures.kept
