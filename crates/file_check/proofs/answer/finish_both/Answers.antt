use Rattle.std.proofs.Common.{◌∙◌, ap, map}
use Rattle.name_lint.specs.Codes as lint
use Rattle.name_lint.specs.Gathered.{text_of, span_of}
use Rattle.name_lint.specs.Lines.{name_lines}
use Rattle.report_answers.specs.Codes.{status_for}
use Rattle.report_answers.specs.Found.{found_in}
use Rattle.report_answers.specs.Report.{answer_text}
use Rattle.file_check.proofs.Both.{first_fails, second_fails, both_written}
use Rattle.file_check.specs.Asked.{check_request}
use Rattle.file_check.specs.Codes.{status_of_both}
use Rattle.file_check.proofs.answer.finish_both.Goals as goal

pub returns-in_err-reported : goal.returns-in_err-reported
returns-in_err-reported g c =
    first_fails g.K.Sink.held g.K.Sink.faults _ _ (answer_text check_request (found_in c.args.ret.now))
    (name_lines c.args.ret.now.semantic.scoping (map text_of c.args.nodes.now) (map span_of c.args.nodes.now) c.args.names.now.unused c.args.names.now.undeclared)
    (status_for c.args.ret.now.diagnostics) _ c.in_err-reported.field-0.0 c.from_residual.result (rw c.check_request.ensures at c.in_err-reported.ensures) c.from_residual.ensures.1

pub returns-in_err-named : goal.returns-in_err-named
returns-in_err-named g c =
    second_fails g.K.Sink.held g.K.Sink.faults _ _ (answer_text check_request (found_in c.args.ret.now))
    (name_lines c.args.ret.now.semantic.scoping (map text_of c.args.nodes.now) (map span_of c.args.nodes.now) c.args.names.now.unused c.args.names.now.undeclared)
    (status_for c.args.ret.now.diagnostics) _ _ (lint.status_for c.args.names.now.unused c.args.names.now.undeclared) c.in_ok-reported.reported c.in_err-named.field-0.0 c.from_residual-in_err-named.result
    (rw c.check_request.ensures at c.in_ok-reported.ensures) (rw c.scoping.ensures at c.in_err-named.ensures) c.from_residual-in_err-named.ensures.1

pub returns : goal.returns
returns g c =
    both_written g.K.Sink.held g.K.Sink.faults _ _ (answer_text check_request (found_in c.args.ret.now))
    (name_lines c.args.ret.now.semantic.scoping (map text_of c.args.nodes.now) (map span_of c.args.nodes.now) c.args.names.now.unused c.args.names.now.undeclared)
    (status_for c.args.ret.now.diagnostics) _ _ (lint.status_for c.args.names.now.unused c.args.names.now.undeclared) c.in_ok-reported.reported c.in_ok-named.named c.status_of_both.result
    (rw c.check_request.ensures at c.in_ok-reported.ensures) (rw c.scoping.ensures at c.in_ok-named.ensures)
    (c.status_of_both.ensures ∙ ap (λ s. status_of_both s c.in_ok-named.named) c.in_ok-reported.ensures.0 ∙ ap (status_of_both (status_for c.args.ret.now.diagnostics)) c.in_ok-named.ensures.0)
