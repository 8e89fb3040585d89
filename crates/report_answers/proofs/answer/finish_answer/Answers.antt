use Rattle.program_ends.proofs.Answering.{writes_not_all}
use Rattle.report_answers.proofs.answer.finish_answer.Goals as goal

pub returns-in_err-write_answer : goal.returns-in_err-write_answer
returns-in_err-write_answer g c = writes_not_all g.K.Sink.held g.K.Sink.faults _ _ _ _ c.in_err-write_answer.field-0.0 c.from_residual.result c.in_err-write_answer.ensures c.from_residual.ensures.1
