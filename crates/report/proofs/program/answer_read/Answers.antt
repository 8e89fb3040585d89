use Rattle.std.proofs.Common.{refl, inl, ◌≡◌, None}
use Rattle.program_ends.proofs.Answering.{ends_unfound, unfound_no_refusal, gives_ends, gives_no_refusal}
use Rattle.program_ends.proofs.Faults.{unfound_failing, given_failing}
use Rattle.program_ends.specs.FindingEnds.{end_of}
use Rattle.report.proofs.Meanings.{read_about}
use Rattle.report.specs.Meaning.{IsAbout, Answers}
use Rattle.report.proofs.program.answer_read.Goals as goal

pub returns-in_err-program-clause-ends : goal.returns-in_err-program-clause-ends
returns-in_err-program-clause-ends g c = ends_unfound end_of (c.args.request.make ≡ None) (IsAbout c.args.request.make) (Answers c.args.request) _ _ c.in_err-program.field-0.0 c.from_residual.result c.requires refl c.in_err-program.ensures.stopped c.from_residual.ensures.1

pub returns-in_err-program-clause-complete : goal.returns-in_err-program-clause-complete
returns-in_err-program-clause-complete g c = λ input program told stands. unfound_no_refusal c.in_err-program.field-0.0 c.from_residual.result (c.in_err-program.ensures.complete input program told stands) c.from_residual.ensures.1

pub returns-clause-ends : goal.returns-clause-ends
returns-clause-ends g c =
    gives_ends g.K.Sink.held g.K.Sink.faults end_of (Answers c.args.request) c.in_ok-program.program (c.args.request.make ≡ None) (IsAbout c.args.request.make) _ _ _ c.answer.result (inl c.requires)
    (read_about c.args.request.make _ c.in_ok-program.program c.requires c.in_ok-program.ensures.found) c.answer.ensures

pub returns-clause-complete : goal.returns-clause-complete
returns-clause-complete g c = λ input program told stands. gives_no_refusal g.K.Sink.held g.K.Sink.faults end_of (Answers c.args.request) c.in_ok-program.program _ _ c.answer.result c.answer.ensures

pub returns-in_err-program-clause-failing : goal.returns-in_err-program-clause-failing
returns-in_err-program-clause-failing g c = unfound_failing _ _ end_of c.in_err-program.field-0.0 c.from_residual.result refl c.in_err-program.ensures.kept c.from_residual.ensures.1

pub returns-clause-failing : goal.returns-clause-failing
returns-clause-failing g c = given_failing g.K.Sink.held g.K.Sink.faults _ _ _ end_of (Answers c.args.request) c.in_ok-program.program c.answer.result c.in_ok-program.ensures.kept c.answer.ensures
