use Rattle.program_ends.proofs.Answering.{writes_not_all}
use Rattle.mangler_program.proofs.program.write_text.Goals as goal

pub returns-in_err-write_whole : goal.returns-in_err-write_whole
returns-in_err-write_whole g c = writes_not_all g.K.Sink.held g.K.Sink.faults _ _ _ _ c.in_err-write_whole.field-0.0 c.from_residual.result c.in_err-write_whole.ensures.written c.from_residual.ensures.1
