use Rattle.std.proofs.Common.{List, ap, ◌∙◌}
use Rattle.semantic_syntax.specs.Tables.{Tables}
use Rattle.semantic_model.specs.TablesOf.{tables_of}
use Rattle.program_ends.specs.FindingEnds.{end_of}
use Rattle.program_ends.proofs.Answering.{gives_none, gives}
use Rattle.tangle_model.specs.Tangled.{Tangle}
use Rattle.tangle_lint.specs.Codes.{status_for}
use Rattle.tangle_lint.specs.Lines.{tangle_lines}
use Rattle.tangle_lint.specs.Meaning.{Answers}
use Rattle.tangle_lint.proofs.program.answer_by.Goals as goal

pub returns-in_err-names : goal.returns-in_err-names
returns-in_err-names g c = gives_none g.K.Sink.held g.K.Sink.faults end_of Answers c.args.program.now c.args.out.now c.from_residual.result c.from_residual.ensures.1

pub returns : goal.returns
returns g c =
    gives g.K.Sink.held g.K.Sink.faults end_of Answers c.args.program.now _ _
    (tangle_lines c.args.scoping.now c.in_ok-names.names) (status_for c.in_ok-names.names) c.finish_answer.result
    (record {
      told = ap (λ (t : Tables). tangle_lines t c.in_ok-names.names) c.requires ∙ ap (tangle_lines (tables_of c.args.program.now)) c.in_ok-names.ensures;
      ends = ap (λ (found : List Tangle). end_of (status_for found)) c.in_ok-names.ensures;
    })
    c.finish_answer.ensures
