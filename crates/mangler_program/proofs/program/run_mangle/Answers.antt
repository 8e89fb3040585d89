use Rattle.std.proofs.Common.{option_map, refl, sym, ap, ◌∙◌, inl}
use Rattle.program_ends.proofs.Endings.{usage_ends}
use Rattle.program_ends.proofs.Faults.{told_failing}
use Rattle.mangler.specs.Changing.{options_of}
use Rattle.mangler_program.proofs.Meanings.{means_words, means_answered, means_stopped, answered_done, clear_stopped, asked_not_none, some_not_none}
use Rattle.mangler_program.proofs.program.run_mangle.Goals as goal

pub returns-in_default-clause-means : goal.returns-in_default-clause-means
returns-in_default-clause-means g c =
    means_words _ _ _ _ c.refuse_words.result (sym c.read_words.ensures ∙ ap (option_map options_of) c.in_default.is) (record { left = refl; faults = refl }) refl c.refuse_words.ensures

pub returns-in_default-clause-complete : goal.returns-in_default-clause-complete
returns-in_default-clause-complete g c = λ asked clear. absurd (asked_not_none _ asked (sym c.read_words.ensures ∙ ap (option_map options_of) c.in_default.is))

pub returns-in_default-clause-usage : goal.returns-in_default-clause-usage
returns-in_default-clause-usage g c = λ none. usage_ends _ _ _ c.refuse_words.ensures

pub returns-in-Ok-clause-means : goal.returns-in-Ok-clause-means
returns-in-Ok-clause-means g c =
    means_answered _ _ _ _ (options_of c.in-Some.options) c.in-Ok.status (sym c.read_words.ensures ∙ ap (option_map options_of) c.in-Some.is) c.in-Ok.ensures.ends refl

pub returns-in-Ok-clause-complete : goal.returns-in-Ok-clause-complete
returns-in-Ok-clause-complete g c = λ asked clear. answered_done (options_of c.in-Some.options) _ _ c.in-Ok.status c.in-Ok.ensures.ends

pub returns-in-Ok-clause-usage : goal.returns-in-Ok-clause-usage
returns-in-Ok-clause-usage g c = λ none. absurd (some_not_none _ (options_of c.in-Some.options) (sym c.read_words.ensures ∙ ap (option_map options_of) c.in-Some.is) none)

pub returns-in-Err-clause-means : goal.returns-in-Err-clause-means
returns-in-Err-clause-means g c =
    means_stopped _ _ _ _ (options_of c.in-Some.options) c.in-Err.error c.tell.result (sym c.read_words.ensures ∙ ap (option_map options_of) c.in-Some.is) c.in-Err.ensures.ends c.tell.ensures

pub returns-in-Err-clause-complete : goal.returns-in-Err-clause-complete
returns-in-Err-clause-complete g c = λ asked clear. clear_stopped (options_of c.in-Some.options) _ _ _ c.in-Err.error c.tell.result clear c.in-Err.ensures.complete c.in-Err.ensures.ends c.tell.ensures

pub returns-in-Err-clause-usage : goal.returns-in-Err-clause-usage
returns-in-Err-clause-usage g c = λ none. absurd (some_not_none _ (options_of c.in-Some.options) (sym c.read_words.ensures ∙ ap (option_map options_of) c.in-Some.is) none)

pub returns-in_default-clause-failing : goal.returns-in_default-clause-failing
returns-in_default-clause-failing g c = told_failing _ _ _ _ _ _ (record { reading = inl refl; writing = inl refl }) c.refuse_words.ensures

pub returns-in-Err-clause-failing : goal.returns-in-Err-clause-failing
returns-in-Err-clause-failing g c = told_failing _ _ _ _ _ _ c.in-Err.ensures.failing c.tell.ensures
