use Rattle.program_ends.proofs.Answering.{gives_none}
use Rattle.program_ends.specs.FindingEnds.{end_of}
use Rattle.report.proofs.Meanings.{gives_about}
use Rattle.report.specs.Meaning.{Answers}
use Rattle.report.proofs.program.answer_made.Goals as goal

pub returns-in_err-program : goal.returns-in_err-program
returns-in_err-program g c = gives_none g.K.Sink.held g.K.Sink.faults end_of (Answers c.args.request) _ c.args.out.now c.from_residual.result c.from_residual.ensures.1

pub returns : goal.returns
returns g c = gives_about g.K.Sink.held g.K.Sink.faults _ _ c.args.request _ _ c.answer.result c.in_ok-program.ensures c.answer.ensures
