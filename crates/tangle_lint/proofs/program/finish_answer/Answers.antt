use Rattle.program_ends.proofs.Answering.{writes_not_all}
use Rattle.tangle_lint.proofs.program.finish_answer.Goals as goal

pub returns-in_err-write_tangles : goal.returns-in_err-write_tangles
returns-in_err-write_tangles g c = writes_not_all g.K.Sink.held g.K.Sink.faults _ _ _ _ c.in_err-write_tangles.field-0.0 c.from_residual.result c.in_err-write_tangles.ensures.written c.from_residual.ensures.1

pub returns : goal.returns
returns g c = (c.status_for.ensures, c.in_ok-write_tangles.ensures.written)
