use Rattle.program_ends.proofs.Answering.{writes_not_all}
use Rattle.name_lint.proofs.program.finish_names.Goals as goal

pub returns-in_err-write_names : goal.returns-in_err-write_names
returns-in_err-write_names g c = writes_not_all g.K.Sink.held g.K.Sink.faults _ _ _ _ c.in_err-write_names.field-0.0 c.from_residual.result c.in_err-write_names.ensures.written c.from_residual.ensures.1

pub returns : goal.returns
returns g c = (c.status_for.ensures, c.in_ok-write_names.ensures.written)
