use Rattle.std.proofs.Common.{refl, inr, ◌≡◌, None}
use Rattle.generated_tree.specs.Generated.{generated}
use Rattle.program_ends.proofs.Answering.{gives_ends, gives_no_refusal}
use Rattle.program_ends.proofs.Faults.{given_failing}
use Rattle.program_ends.specs.FindingEnds.{end_of}
use Rattle.report.proofs.Meanings.{made_about}
use Rattle.report.specs.Meaning.{IsAbout, Answers}
use Rattle.report.proofs.program.answer_request.Goals as goal

pub returns-in-Some-clause-ends : goal.returns-in-Some-clause-ends
returns-in-Some-clause-ends g c =
    gives_ends g.K.Sink.held g.K.Sink.faults end_of (Answers c.args.request) (generated c.in-Some.functions) (c.args.request.make ≡ None) (IsAbout c.args.request.make) _ _ _ c.answer_made.result (inr (record { left = refl; faults = refl }))
    (made_about c.args.request.make c.in-Some.functions _ c.in-Some.is (record { left = refl; faults = refl })) c.answer_made.ensures

pub returns-in-Some-clause-complete : goal.returns-in-Some-clause-complete
returns-in-Some-clause-complete g c = λ read input program told stands. gives_no_refusal g.K.Sink.held g.K.Sink.faults end_of (Answers c.args.request) (generated c.in-Some.functions) _ _ c.answer_made.result c.answer_made.ensures

pub returns-in-None-clause-complete : goal.returns-in-None-clause-complete
returns-in-None-clause-complete g c = λ read. c.answer_read.ensures.complete

pub returns-in-Some-clause-failing : goal.returns-in-Some-clause-failing
returns-in-Some-clause-failing g c = given_failing g.K.Sink.held g.K.Sink.faults _ _ _ end_of (Answers c.args.request) (generated c.in-Some.functions) c.answer_made.result refl c.answer_made.ensures
