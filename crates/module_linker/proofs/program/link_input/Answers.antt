use Rattle.std.proofs.Common.{refl}
use Rattle.module_linker.proofs.Answering.{ends_unfound, ends_given, unfound_kept, given_kept}
use Rattle.module_linker.proofs.Faults.{unfound_failing, given_failing}
use Rattle.module_linker.proofs.program.link_input.Goals as goal

pub returns-in_err-modules-clause-ends : goal.returns-in_err-modules-clause-ends
returns-in_err-modules-clause-ends g c = ends_unfound _ _ c.in_err-modules.field-0.0 c.from_residual.result c.in_err-modules.ensures.stopped refl c.from_residual.ensures.1

pub returns-in_err-modules-clause-complete : goal.returns-in_err-modules-clause-complete
returns-in_err-modules-clause-complete g c = λ input ms told stands. unfound_kept c.in_err-modules.field-0.0 c.from_residual.result (c.in_err-modules.ensures.complete input ms told stands.set) c.from_residual.ensures.1

pub returns-clause-ends : goal.returns-clause-ends
returns-clause-ends g c = ends_given _ g.K.Sink.held g.K.Sink.faults _ _ c.in_ok-modules.modules c.in_ok-modules.ensures.found c.answer.result c.answer.ensures

pub returns-clause-complete : goal.returns-clause-complete
returns-clause-complete g c = λ input ms told stands.
    given_kept g.K.Sink.held g.K.Sink.faults c.in_ok-modules.modules ms _ _ c.answer.result (c.in_ok-modules.ensures.same input ms told stands.set) stands.linkable c.answer.ensures

pub returns-in_err-modules-clause-failing : goal.returns-in_err-modules-clause-failing
returns-in_err-modules-clause-failing g c = unfound_failing _ _ c.in_err-modules.field-0.0 c.from_residual.result refl c.in_err-modules.ensures.failing c.from_residual.ensures.1

pub returns-clause-failing : goal.returns-clause-failing
returns-clause-failing g c = given_failing g.K.Sink.held g.K.Sink.faults _ _ _ c.in_ok-modules.modules c.answer.result c.in_ok-modules.ensures.kept c.answer.ensures
