use Rattle.std.proofs.Common.{◌∙◌}
use Rattle.renamer.specs.Requests.{asked_in_request}
use Rattle.renamer.proofs.Asking.{answers_nothing}
use Rattle.renamer.proofs.Outcomes.{built}
use Rattle.renamer.proofs.rename.rename_asked.Goals as goal

pub returns-in_err-analysis : goal.returns-in_err-analysis
returns-in_err-analysis c = answers_nothing (asked_in_request c.args.request.now) c.args.program.now c.from_residual.result c.from_residual.ensures.1

pub rename_known-result-requires-clause-analysis : goal.rename_known-result-requires-clause-analysis
rename_known-result-requires-clause-analysis c =
    built c.args.program.now c.analysed_by.result c.in_ok-analysis.analysis.semantic.scoping c.in_ok-analysis.analysis.semantic.tables c.in_ok-analysis.analysis.diagnostics
    c.analysed_by.ensures.scoping c.analysed_by.ensures.tables c.in_ok-analysis.ensures.analysed.analysis c.in_ok-analysis.ensures.analysed.nodes

pub rename_known-result-requires-clause-tables : goal.rename_known-result-requires-clause-tables
rename_known-result-requires-clause-tables c = c.analysed_by.ensures.scoping ∙ c.in_ok-analysis.ensures.analysed.analysis.tables
