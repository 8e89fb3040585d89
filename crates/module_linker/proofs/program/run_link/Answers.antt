use Rattle.std.proofs.Common.{refl, inl}
use Rattle.program_ends.proofs.Endings.{usage_ends}
use Rattle.program_ends.proofs.Faults.{told_failing}
use Rattle.module_linker.proofs.Meanings.{words_there, no_words, means_words, means_failed, clear_failed}
use Rattle.module_linker.proofs.program.run_link.Goals as goal

pub returns-then-not-is_empty-clause-means : goal.returns-then-not-is_empty-clause-means
returns-then-not-is_empty-clause-means g c =
    means_words _ _ _ _ c.refuse_words.result (words_there c.args.words.now c.is_empty.result c.is_empty.ensures c.if-not-is_empty.true) (record { left = refl; faults = refl }) refl c.refuse_words.ensures

pub returns-then-not-is_empty-clause-usage : goal.returns-then-not-is_empty-clause-usage
returns-then-not-is_empty-clause-usage g c = λ asked. usage_ends _ _ _ c.refuse_words.ensures

pub returns-in-Err-clause-means : goal.returns-in-Err-clause-means
returns-in-Err-clause-means g c =
    means_failed _ _ _ _ c.in-Err.failure c.tell_failure.result (no_words c.args.words.now c.is_empty.result c.is_empty.ensures c.if-not-is_empty.false) c.in-Err.ensures.ends c.tell_failure.ensures

pub returns-in-Err-clause-complete : goal.returns-in-Err-clause-complete
returns-in-Err-clause-complete g c = λ asked clear.
    clear_failed _ _ _ c.in-Err.failure c.tell_failure.result clear (c.in-Err.ensures.complete clear.input clear.modules clear.told clear.stands) c.in-Err.ensures.ends c.tell_failure.ensures

pub returns-then-not-is_empty-clause-failing : goal.returns-then-not-is_empty-clause-failing
returns-then-not-is_empty-clause-failing g c = told_failing _ _ _ _ _ _ (record { reading = inl refl; writing = inl refl }) c.refuse_words.ensures

pub returns-in-Err-clause-failing : goal.returns-in-Err-clause-failing
returns-in-Err-clause-failing g c = told_failing _ _ _ _ _ _ c.in-Err.ensures.failing c.tell_failure.ensures
