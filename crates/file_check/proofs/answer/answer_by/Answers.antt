use Rattle.std.proofs.Common.{◌≡◌, ◌++◌, ℕ, List, length, map, sym, ap, ◌∙◌, refl}
use Rattle.std.proofs.lemmas.List.{length-map}
use Rattle.semantic_model.specs.Step.{steps}
use Rattle.name_lint.specs.Codes as lint
use Rattle.name_lint.specs.Gathered.{Gathered, text_of, span_of}
use Rattle.name_lint.specs.Known.{known_names}
use Rattle.name_lint.specs.Lines.{name_lines}
use Rattle.name_lint.specs.Undeclared.{reference_names, reference_spans}
use Rattle.name_lint.proofs.InRange.{unused_below, undeclared_below}
use Rattle.name_lint.proofs.Lines.{lines_told}
use Rattle.program_ends.proofs.Answering.{gives_none, gives}
use Rattle.program_ends.specs.FindingEnds.{end_of}
use Rattle.report.specs.Built.{found_of}
use Rattle.report_answers.specs.Codes as report
use Rattle.report_answers.specs.Found.{found_in}
use Rattle.report_answers.specs.Report.{answer_text}
use Rattle.file_check.proofs.Both.{ends_of_both}
use Rattle.file_check.specs.Asked.{check_request}
use Rattle.file_check.specs.Codes.{status_of_both}
use Rattle.file_check.specs.Meaning.{Answers}
use Rattle.file_check.proofs.answer.answer_by.Goals as goal

pub returns-in_err-pass : goal.returns-in_err-pass
returns-in_err-pass g c = gives_none g.K.Sink.held g.K.Sink.faults end_of (Answers c.args.words.now) c.args.program.now c.args.out.now c.from_residual.result c.from_residual.ensures.1

pub returns-in_err-names : goal.returns-in_err-names
returns-in_err-names g c = gives_none g.K.Sink.held g.K.Sink.faults end_of (Answers c.args.words.now) c.args.program.now c.args.out.now c.from_residual-in_err-names.result c.from_residual-in_err-names.ensures.1

pub finish_both-requires-clause-unused : goal.finish_both-requires-clause-unused
finish_both-requires-clause-unused g c = unused_below c.args.program.now c.args.ret.now.semantic.scoping c.in_ok-names.names.unused c.requires.analysis.tables c.in_ok-names.ensures.unused

pub finish_both-requires-clause-undeclared : goal.finish_both-requires-clause-undeclared
finish_both-requires-clause-undeclared g c =
    let texts : map text_of c.references.result.now ≡ reference_names (steps c.args.program.now) = c.references.ensures.names ∙ ap (λ (x : Gathered). x.names) c.in_ok-pass.ensures.gathered in
    undeclared_below (known_names c.args.words.now) c.args.program.now c.in_ok-names.names.undeclared (length c.references.result.now) (sym (ap length texts) ∙ length-map c.references.result.now text_of) c.in_ok-names.ensures.undeclared

pub returns : goal.returns
returns g c =
    let texts : map text_of c.references.result.now ≡ reference_names (steps c.args.program.now) = c.references.ensures.names ∙ ap (λ (x : Gathered). x.names) c.in_ok-pass.ensures.gathered in
    let spans : map span_of c.references.result.now ≡ reference_spans (steps c.args.program.now) = c.references.ensures.spans ∙ ap (λ (x : Gathered). x.spans) c.in_ok-pass.ensures.gathered in
    gives g.K.Sink.held g.K.Sink.faults end_of (Answers c.args.words.now) c.args.program.now _ _
    (answer_text check_request (found_in c.args.ret.now)
    ++ name_lines c.args.ret.now.semantic.scoping (map text_of c.references.result.now) (map span_of c.references.result.now) c.in_ok-names.names.unused c.in_ok-names.names.undeclared)
    (status_of_both (report.status_for c.args.ret.now.diagnostics) (lint.status_for c.in_ok-names.names.unused c.in_ok-names.names.undeclared)) c.finish_both.result
    (record {
      report_end = end_of (report.status_for c.args.ret.now.diagnostics);
      report_text = answer_text check_request (found_in c.args.ret.now);
      reported = record {
        tables = c.args.ret.now.semantic.scoping;
        diagnostics = c.args.ret.now.diagnostics;
        built = c.requires.analysis;
        told = ap (λ (labels : List ℕ). answer_text check_request (record (found_of c.args.program.now c.args.ret.now.semantic.scoping c.args.ret.now.diagnostics) { labels = labels })) c.requires.labels;
        ends = refl;
      };
      names_end = end_of (lint.status_for c.in_ok-names.names.unused c.in_ok-names.names.undeclared);
      names_text = name_lines c.args.ret.now.semantic.scoping (map text_of c.references.result.now) (map span_of c.references.result.now) c.in_ok-names.names.unused c.in_ok-names.names.undeclared;
      named = record {
        unused = c.in_ok-names.names.unused;
        are_unused = c.in_ok-names.ensures.unused;
        told = lines_told c.args.program.now c.args.ret.now.semantic.scoping _ _ _ _ _ c.requires.analysis.tables texts spans c.in_ok-names.ensures.undeclared;
        ends = ap (λ (xs : List ℕ). end_of (lint.status_for c.in_ok-names.names.unused xs)) c.in_ok-names.ensures.undeclared;
      };
      told = refl;
      ends = ends_of_both (report.status_for c.args.ret.now.diagnostics) (lint.status_for c.in_ok-names.names.unused c.in_ok-names.names.undeclared);
    })
    c.finish_both.ensures
