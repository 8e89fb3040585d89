use Rattle.std.proofs.Common.{refl}
use Rattle.renamer.specs.Requests.{asked_in_request}
use Rattle.renamer.proofs.Answering.{ends_unfound, unfound_good, unfound_failing, gives_ends, gives_good, gives_failing}
use Rattle.renamer.proofs.program.answer_request.Goals as goal

pub returns-in_err-program-clause-ends : goal.returns-in_err-program-clause-ends
returns-in_err-program-clause-ends g c = ends_unfound (asked_in_request c.args.request.now) _ _ c.in_err-program.field-0.0 c.from_residual.result refl c.in_err-program.ensures.stopped c.from_residual.ensures.1

pub returns-in_err-program-clause-complete : goal.returns-in_err-program-clause-complete
returns-in_err-program-clause-complete g c = λ input program told stands. unfound_good c.in_err-program.field-0.0 c.from_residual.result (c.in_err-program.ensures.complete input program told stands) c.from_residual.ensures.1

pub returns-clause-ends : goal.returns-clause-ends
returns-clause-ends g c = gives_ends g.K.Sink.held g.K.Sink.faults (asked_in_request c.args.request.now) c.in_ok-program.program _ _ _ c.answer-answered.result c.in_ok-program.ensures.found c.answer-answered.ensures

pub returns-clause-complete : goal.returns-clause-complete
returns-clause-complete g c = λ input program told stands. gives_good g.K.Sink.held g.K.Sink.faults (asked_in_request c.args.request.now) c.in_ok-program.program _ _ c.answer-answered.result c.answer-answered.ensures

pub returns-in_err-program-clause-failing : goal.returns-in_err-program-clause-failing
returns-in_err-program-clause-failing g c = unfound_failing _ _ c.in_err-program.field-0.0 c.from_residual.result refl c.in_err-program.ensures.kept c.from_residual.ensures.1

pub returns-clause-failing : goal.returns-clause-failing
returns-clause-failing g c = gives_failing g.K.Sink.held g.K.Sink.faults (asked_in_request c.args.request.now) c.in_ok-program.program _ _ _ c.answer-answered.result c.in_ok-program.ensures.kept c.answer-answered.ensures
