use Rattle.std.proofs.Common.{◌≡◌, ℕ, List, length, map, sym, ap, ◌∙◌}
use Rattle.std.proofs.lemmas.List.{length-map}
use Rattle.semantic_model.specs.Step.{steps}
use Rattle.name_lint.specs.Gathered.{Gathered, text_of, span_of}
use Rattle.name_lint.specs.Known.{known_names}
use Rattle.name_lint.specs.Undeclared.{reference_names, reference_spans}
use Rattle.program_ends.specs.FindingEnds.{end_of}
use Rattle.name_lint.specs.Codes.{status_for}
use Rattle.name_lint.specs.Lines.{name_lines}
use Rattle.name_lint.proofs.InRange.{unused_below, undeclared_below}
use Rattle.name_lint.proofs.Lines.{lines_told}
use Rattle.program_ends.proofs.Answering.{gives_none, gives}
use Rattle.name_lint.specs.Meaning.{Answers}
use Rattle.name_lint.proofs.program.answer_by.Goals as goal

pub returns-in_err-pass : goal.returns-in_err-pass
returns-in_err-pass g c = gives_none g.K.Sink.held g.K.Sink.faults end_of (Answers c.args.words.now) c.args.program.now c.args.out.now c.from_residual.result c.from_residual.ensures.1

pub returns-in_err-report : goal.returns-in_err-report
returns-in_err-report g c = gives_none g.K.Sink.held g.K.Sink.faults end_of (Answers c.args.words.now) c.args.program.now c.args.out.now c.from_residual-in_err-report.result c.from_residual-in_err-report.ensures.1

pub finish_names-requires-clause-unused : goal.finish_names-requires-clause-unused
finish_names-requires-clause-unused g c = unused_below c.args.program.now c.args.scoping.now c.in_ok-report.report.unused c.requires.tables c.in_ok-report.ensures.unused

pub finish_names-requires-clause-undeclared : goal.finish_names-requires-clause-undeclared
finish_names-requires-clause-undeclared g c =
    let names : map text_of c.references.result.now ≡ reference_names (steps c.args.program.now) = c.references.ensures.names ∙ ap (λ (x : Gathered). x.names) c.in_ok-pass.ensures.gathered in
    undeclared_below (known_names c.args.words.now) c.args.program.now c.in_ok-report.report.undeclared (length c.references.result.now) (sym (ap length names) ∙ length-map c.references.result.now text_of) c.in_ok-report.ensures.undeclared

pub returns : goal.returns
returns g c =
    let names : map text_of c.references.result.now ≡ reference_names (steps c.args.program.now) = c.references.ensures.names ∙ ap (λ (x : Gathered). x.names) c.in_ok-pass.ensures.gathered in
    let spans : map span_of c.references.result.now ≡ reference_spans (steps c.args.program.now) = c.references.ensures.spans ∙ ap (λ (x : Gathered). x.spans) c.in_ok-pass.ensures.gathered in
    gives g.K.Sink.held g.K.Sink.faults end_of (Answers c.args.words.now) c.args.program.now _ _
    (name_lines c.args.scoping.now (map text_of c.references.result.now) (map span_of c.references.result.now) c.in_ok-report.report.unused c.in_ok-report.report.undeclared)
    (status_for c.in_ok-report.report.unused c.in_ok-report.report.undeclared) c.finish_names.result
    (record {
      unused = c.in_ok-report.report.unused;
      are_unused = c.in_ok-report.ensures.unused;
      told = lines_told c.args.program.now c.args.scoping.now _ _ _ _ _ c.requires.tables names spans c.in_ok-report.ensures.undeclared;
      ends = ap (λ (xs : List ℕ). end_of (status_for c.in_ok-report.report.unused xs)) c.in_ok-report.ensures.undeclared;
    })
    c.finish_names.ensures
