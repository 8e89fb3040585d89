use Rattle.std.proofs.Common.{◌∙◌}
use Rattle.renamer.proofs.Answering.{no_text, some_text}
use Rattle.renamer.proofs.program.write_text.Goals as goal

pub returns-in_err-text : goal.returns-in_err-text
returns-in_err-text g c = no_text g.K.Sink.held g.K.Sink.faults _ _ c.from_residual.result c.from_residual.ensures.1

pub returns : goal.returns
returns g c = some_text g.K.Sink.held g.K.Sink.faults _ _ _ _ c.write_whole.result (c.deref.ensures.value ∙ c.in_ok-text.ensures.text) c.write_whole.ensures.written
