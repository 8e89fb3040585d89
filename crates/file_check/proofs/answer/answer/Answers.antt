use Rattle.program_ends.proofs.Answering.{gives_none}
use Rattle.program_ends.specs.FindingEnds.{end_of}
use Rattle.file_check.specs.Meaning.{Answers}
use Rattle.file_check.proofs.answer.answer.Goals as goal

pub returns-in_err-analysis : goal.returns-in_err-analysis
returns-in_err-analysis g c = gives_none g.K.Sink.held g.K.Sink.faults end_of (Answers c.args.words.now) c.args.program.now c.args.out.now c.from_residual.result c.from_residual.ensures.1
