use Rattle.std.proofs.Common.{option_map, refl, sym, ap, ◌∙◌, inl}
use Rattle.program_ends.specs.Calls.{sink_call}
use Rattle.renamer.specs.Requests.{asked_in_request}
use Rattle.program_ends.proofs.Endings.{usage_ends}
use Rattle.program_ends.proofs.Faults.{told_failing}
use Rattle.renamer.proofs.Statuses.{means_words, means_done, means_error, done_due, error_due, error_failing, asked_not_none}
use Rattle.renamer.proofs.program.run_rename.Goals as goal

pub returns-in_default-clause-means : goal.returns-in_default-clause-means
returns-in_default-clause-means g c = means_words _ _ _ _ c.refuse_words.result (sym c.read_words.ensures ∙ ap (option_map asked_in_request) c.in_default.is) (record { left = refl; faults = refl }) refl c.refuse_words.ensures

pub returns-in_default-clause-complete : goal.returns-in_default-clause-complete
returns-in_default-clause-complete g c = λ asked is clear. absurd (asked_not_none _ asked is (sym c.read_words.ensures ∙ ap (option_map asked_in_request) c.in_default.is))

pub returns-in_default-clause-usage : goal.returns-in_default-clause-usage
returns-in_default-clause-usage g c = λ none. usage_ends _ _ _ c.refuse_words.ensures

pub returns-in-Ok-clause-means : goal.returns-in-Ok-clause-means
returns-in-Ok-clause-means g c =
    means_done _ _ (sink_call g.E.Sink.held g.E.Sink.faults c.args.errs.now c.args.errs.now) _ (asked_in_request c.in-Some.request) (sym c.read_words.ensures ∙ ap (option_map asked_in_request) c.in-Some.is) c.in-Ok.ensures.ends refl

pub returns-in-Ok-clause-complete : goal.returns-in-Ok-clause-complete
returns-in-Ok-clause-complete g c = λ asked is clear. done_due _ _ _ (asked_in_request c.in-Some.request) asked clear (sym c.read_words.ensures ∙ ap (option_map asked_in_request) c.in-Some.is) is c.in-Ok.ensures.ends

pub returns-in-Ok-clause-usage : goal.returns-in-Ok-clause-usage
returns-in-Ok-clause-usage g c = λ none. absurd (asked_not_none _ (asked_in_request c.in-Some.request) (sym c.read_words.ensures ∙ ap (option_map asked_in_request) c.in-Some.is) none)

pub returns-in-Err-clause-means : goal.returns-in-Err-clause-means
returns-in-Err-clause-means g c = means_error _ _ _ _ (asked_in_request c.in-Some.request) c.in-Err.error c.tell_error.result (sym c.read_words.ensures ∙ ap (option_map asked_in_request) c.in-Some.is) c.in-Err.ensures.ends c.tell_error.ensures

pub returns-in-Err-clause-complete : goal.returns-in-Err-clause-complete
returns-in-Err-clause-complete g c = λ asked is clear.
    error_due _ _ _ _ (asked_in_request c.in-Some.request) asked clear c.in-Err.error c.tell_error.result (sym c.read_words.ensures ∙ ap (option_map asked_in_request) c.in-Some.is) is
    (c.in-Err.ensures.complete clear.input clear.program clear.told clear.stands) c.in-Err.ensures.ends c.tell_error.ensures

pub returns-in-Err-clause-usage : goal.returns-in-Err-clause-usage
returns-in-Err-clause-usage g c = λ none. absurd (asked_not_none _ (asked_in_request c.in-Some.request) (sym c.read_words.ensures ∙ ap (option_map asked_in_request) c.in-Some.is) none)

pub returns-in_default-clause-failing : goal.returns-in_default-clause-failing
returns-in_default-clause-failing g c = told_failing _ _ _ _ _ _ (record { reading = inl refl; writing = inl refl }) c.refuse_words.ensures

pub returns-in-Err-clause-failing : goal.returns-in-Err-clause-failing
returns-in-Err-clause-failing g c = error_failing _ _ _ c.in-Err.error _ c.in-Err.ensures.failing c.tell_error.ensures
