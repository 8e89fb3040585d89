use Rattle.program_ends.proofs.Answering.{gives_none}
use Rattle.program_ends.specs.FindingEnds.{end_of}
use Rattle.tangle_lint.specs.Meaning.{Answers}
use Rattle.tangle_lint.proofs.program.answer.Goals as goal

pub returns-in_err-analysis : goal.returns-in_err-analysis
returns-in_err-analysis g c = gives_none g.K.Sink.held g.K.Sink.faults end_of Answers c.args.program.now c.args.out.now c.from_residual.result c.from_residual.ensures.1
