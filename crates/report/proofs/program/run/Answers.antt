use Rattle.std.proofs.Common.{refl, sym, ◌∙◌, inl}
use Rattle.program_ends.proofs.Endings.{usage_ends}
use Rattle.program_ends.proofs.Faults.{told_failing}
use Rattle.report.proofs.Meanings.{means_refused, means_answered, means_stopped, answered_done, clear_stopped, none_clear, asked_not_none}
use Rattle.report.proofs.program.run.Goals as goal

pub returns-in_default-clause-means : goal.returns-in_default-clause-means
returns-in_default-clause-means g c = means_refused _ _ _ _ c.refuse_words.result (sym c.read_words.ensures.request ∙ c.in_default.is) (record { left = refl; faults = refl }) refl c.refuse_words.ensures

pub returns-in-Ok-clause-means : goal.returns-in-Ok-clause-means
returns-in-Ok-clause-means g c = means_answered _ _ _ _ c.in-Some.request c.in-Ok.status (sym c.read_words.ensures.request ∙ c.in-Some.is) c.in-Ok.ensures.ends refl

pub returns-in-Ok-clause-complete : goal.returns-in-Ok-clause-complete
returns-in-Ok-clause-complete g c = λ clear. answered_done c.in-Some.request _ _ c.in-Ok.status c.in-Ok.ensures.ends

pub returns-in-Err-clause-means : goal.returns-in-Err-clause-means
returns-in-Err-clause-means g c = means_stopped _ _ _ _ c.in-Some.request c.in-Err.error c.tell.result (sym c.read_words.ensures.request ∙ c.in-Some.is) c.in-Err.ensures.ends c.tell.ensures

pub returns-in-Err-clause-complete : goal.returns-in-Err-clause-complete
returns-in-Err-clause-complete g c = λ clear.
    clear_stopped _ c.in-Some.request _ _ _ c.in-Err.error c.tell.result (sym c.read_words.ensures.request ∙ c.in-Some.is) clear c.in-Err.ensures.complete c.in-Err.ensures.ends c.tell.ensures

pub returns-in-Ok-clause-usage : goal.returns-in-Ok-clause-usage
returns-in-Ok-clause-usage g c = λ none. absurd (asked_not_none _ c.in-Some.request (sym c.read_words.ensures.request ∙ c.in-Some.is) none)

pub returns-in-Err-clause-usage : goal.returns-in-Err-clause-usage
returns-in-Err-clause-usage g c = λ none. absurd (asked_not_none _ c.in-Some.request (sym c.read_words.ensures.request ∙ c.in-Some.is) none)

pub returns-in_default-clause-usage : goal.returns-in_default-clause-usage
returns-in_default-clause-usage g c = λ none. usage_ends _ _ _ c.refuse_words.ensures

pub returns-in_default-clause-complete : goal.returns-in_default-clause-complete
returns-in_default-clause-complete g c = λ clear. absurd (none_clear _ _ _ (sym c.read_words.ensures.request ∙ c.in_default.is) clear)

pub returns-in_default-clause-failing : goal.returns-in_default-clause-failing
returns-in_default-clause-failing g c = told_failing _ _ _ _ _ _ (record { reading = inl refl; writing = inl refl }) c.refuse_words.ensures

pub returns-in-Err-clause-failing : goal.returns-in-Err-clause-failing
returns-in-Err-clause-failing g c = told_failing _ _ _ _ _ _ c.in-Err.ensures.failing c.tell.ensures
