use Rattle.std.proofs.Common.{refl, inl}
use Rattle.program_ends.proofs.Endings.{usage_ends}
use Rattle.program_ends.proofs.Faults.{told_failing}
use Rattle.program_ends.proofs.Findings.{refused_by, means_refused, means_answered, means_stopped, answered_done, clear_stopped}
use Rattle.program_ends.proofs.finding_runs.run_findings.Goals as goal

pub returns-then-not-is_asked-clause-means : goal.returns-then-not-is_asked-clause-means
returns-then-not-is_asked-clause-means g c =
    means_refused _ (g.P.FindingProgram.Answers c.args.words.now) _ _ _ _ c.usage.result.now c.refuse.result c.usage.ensures (refused_by c.is_asked.result c.is_asked.ensures c.if-not-is_asked.true) (record { left = refl; faults = refl }) refl c.refuse.ensures

pub returns-then-not-is_asked-clause-complete : goal.returns-then-not-is_asked-clause-complete
returns-then-not-is_asked-clause-complete g c = λ asked. absurd (refused_by c.is_asked.result c.is_asked.ensures c.if-not-is_asked.true asked)

pub returns-then-not-is_asked-clause-usage : goal.returns-then-not-is_asked-clause-usage
returns-then-not-is_asked-clause-usage g c = λ not_asked. usage_ends _ _ _ c.refuse.ensures

pub returns-then-not-is_asked-clause-failing : goal.returns-then-not-is_asked-clause-failing
returns-then-not-is_asked-clause-failing g c = told_failing _ _ _ _ _ _ (record { reading = inl refl; writing = inl refl }) c.refuse.ensures

pub answer_input-requires : goal.answer_input-requires
answer_input-requires g c = c.is_asked.ensures.0 c.if-not-is_asked.false

pub returns-in-Ok-clause-means : goal.returns-in-Ok-clause-means
returns-in-Ok-clause-means g c =
    means_answered _ (g.P.FindingProgram.Answers c.args.words.now) _ _ _ _ c.in-Ok.status (g.met.P.FindingProgram.ends_answer c.args.words.now) (c.is_asked.ensures.0 c.if-not-is_asked.false) c.in-Ok.ensures.ends refl

pub returns-in-Ok-clause-complete : goal.returns-in-Ok-clause-complete
returns-in-Ok-clause-complete g c = λ asked clear. answered_done (g.P.FindingProgram.IsAsked c.args.words.now) (g.P.FindingProgram.Answers c.args.words.now) _ _ c.in-Ok.status (g.met.P.FindingProgram.ends_answer c.args.words.now) c.in-Ok.ensures.ends

pub returns-in-Ok-clause-usage : goal.returns-in-Ok-clause-usage
returns-in-Ok-clause-usage g c = λ not_asked. absurd (not_asked (c.is_asked.ensures.0 c.if-not-is_asked.false))

pub returns-in-Err-clause-means : goal.returns-in-Err-clause-means
returns-in-Err-clause-means g c =
    means_stopped _ (g.P.FindingProgram.Answers c.args.words.now) _ _ _ _ c.in-Err.error c.tell.result (c.is_asked.ensures.0 c.if-not-is_asked.false) c.in-Err.ensures.ends c.tell.ensures

pub returns-in-Err-clause-complete : goal.returns-in-Err-clause-complete
returns-in-Err-clause-complete g c = λ asked clear. clear_stopped _ (g.P.FindingProgram.Answers c.args.words.now) _ _ _ c.in-Err.error c.tell.result clear c.in-Err.ensures.complete c.in-Err.ensures.ends c.tell.ensures

pub returns-in-Err-clause-usage : goal.returns-in-Err-clause-usage
returns-in-Err-clause-usage g c = λ not_asked. absurd (not_asked (c.is_asked.ensures.0 c.if-not-is_asked.false))

pub returns-in-Err-clause-failing : goal.returns-in-Err-clause-failing
returns-in-Err-clause-failing g c = told_failing _ _ _ _ _ _ c.in-Err.ensures.failing c.tell.ensures
