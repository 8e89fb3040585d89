use Rattle.renamer.specs.Requests.{asked_in_request}
use Rattle.renamer.proofs.Answering.{gives_none, gives_part, gives_whole}
use Rattle.renamer.proofs.program.answer.Goals as goal

pub returns-in_err-made : goal.returns-in_err-made
returns-in_err-made g c = gives_none g.K.Sink.held g.K.Sink.faults (asked_in_request c.args.request.now) c.args.program.now _ c.in_err-made.field-0.0 c.from_residual.result c.in_err-made.ensures c.from_residual.ensures.1

pub returns-in_err-written : goal.returns-in_err-written
returns-in_err-written g c =
    gives_part g.K.Sink.held g.K.Sink.faults (asked_in_request c.args.request.now) c.args.program.now _ _ c.in_ok-made.made c.in_err-written.field-0.0 c.from_residual-in_err-written.result c.in_ok-made.ensures c.in_err-written.ensures c.from_residual-in_err-written.ensures.1

pub returns : goal.returns
returns g c = gives_whole g.K.Sink.held g.K.Sink.faults (asked_in_request c.args.request.now) c.args.program.now _ _ c.in_ok-made.made c.in_ok-made.ensures c.in_ok-written.ensures
